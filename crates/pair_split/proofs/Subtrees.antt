-- A component is on the far side of a link just where its chain of parents meets the component there.
use Rattle.std.proofs.Common.{◌≡◌, ◌≢◌, ℕ, zero, suc, ◌<◌, ◌≤◌, ◌==◌, ◌&&◌, ◌||◌, inl, inr, Bool, true, false, not, List, length, filter, refl, sym, ap, ◌∙◌, subst, arith, Contains}
use Rattle.std.proofs.lemmas.Bool.{cases_eq, or_cases, or_left, or_right, and_parts, and_from, eq-eqb, eqb-true, ne_eqb, both_ways, not-true, not_from_false, false_from_ne_true}
use Rattle.permutations.specs.Relation.{connected}
use Rattle.permutations.proofs.Relation.{same-tests, connected-reflexive, connected-symmetric, connected-transitive, connected-link, connected-closed}
use Rattle.pair_split.specs.Split.{all_links, joins_others, is_beyond, LinksTo, IsTree, AreLinked}
use Rattle.pair_split.specs.declared.components.What.TheVariants.{Link}
use Rattle.pair_split.specs.declared.components.Comp.{Comp}
use Rattle.pair_split.proofs.Elements.{contains-filter, filter-contains, filter-same}
use Rattle.pair_split.proofs.GraphFamily.{all-from_contained}
use Rattle.pair_split.proofs.Links.{link-contained, contained-link, stands-in}

module _ (comps : List Comp) (a : AreLinked comps) where
  -- the tree of the links
  abbrev t : IsTree comps
  t = a.tree

  -- a link leads to one of the components
  pub link-in : (k j : ℕ) → LinksTo comps k j → j < length comps
  link-in k j s = let b = a.back k j s.0 s.1 in stands-in comps j b.0 (Link k) b.1

  -- whether the chain of parents from d, of so many steps at most, meets c
  climbs : ℕ → ℕ → ℕ → Bool
  climbs zero c d = false
  climbs (suc steps) c d = (d == c) || (not (d == t.root) && climbs steps c (t.parent d))

  -- whether d is c or below c: its chain of parents meets c
  pub is_below : ℕ → ℕ → Bool
  is_below c d = climbs (suc (t.rank d)) c d

  climbs-own : (steps c : ℕ) → climbs (suc steps) c c ≡ true
  unfolding climbs
  climbs-own steps c = or_left (c == c) (not (c == t.root) && climbs steps c (t.parent c)) (eq-eqb c c refl)

  climbs-root : (steps c : ℕ) → t.root ≢ c → climbs (suc steps) c t.root ≡ false
  unfolding climbs
  climbs-root steps c n = rw (ne_eqb t.root c n, eq-eqb t.root t.root refl) refl

  climbs-step : (steps c d : ℕ) → d ≢ c → d ≢ t.root → climbs (suc steps) c d ≡ climbs steps c (t.parent d)
  unfolding climbs
  climbs-step steps c d n m = rw (ne_eqb d c n, ne_eqb d t.root m) refl

  climbs-none : (c d : ℕ) → climbs 0 c d ≡ false
  unfolding climbs
  climbs-none c d = refl

  -- more steps than the rank change nothing
  climbs-enough : (steps more c d : ℕ) → d < length comps → t.rank d < steps → t.rank d < more → climbs steps c d ≡ climbs more c d
  climbs-enough zero more c d l a b = absurd (omega (arith, a))
  climbs-enough (suc steps) zero c d l a b = absurd (omega (arith, b))
  climbs-enough (suc steps) (suc more) c d l a b = elim (cases_eq d c) [
    | inl e ↦ subst (λ z. climbs (suc steps) c z ≡ climbs (suc more) c z) (sym e) (climbs-own steps c ∙ sym (climbs-own more c))
    | inr n ↦ elim (cases_eq d t.root) [
      | inl e ↦ subst (λ z. climbs (suc steps) c z ≡ climbs (suc more) c z) (sym e)
          (let m : t.root ≢ c = λ q. n (e ∙ q) in climbs-root steps c m ∙ sym (climbs-root more c m))
      | inr m ↦ climbs-step steps c d n m
          ∙ climbs-enough steps more c (t.parent d) (t.parent_in d l m) (omega (arith, a, t.rank_falls d l m)) (omega (arith, b, t.rank_falls d l m))
          ∙ sym (climbs-step more c d n m)
    ]
  ]

  -- a component is below itself
  pub below-own : (c : ℕ) → is_below c c ≡ true
  unfolding is_below
  below-own c = climbs-own (t.rank c) c

  -- the root is below no other
  pub below-root : (c : ℕ) → t.root ≢ c → is_below c t.root ≡ false
  unfolding is_below
  below-root c n = climbs-root (t.rank t.root) c n

  -- any other is below c where its parent is
  pub below-parent : (c d : ℕ) → d < length comps → d ≢ c → d ≢ t.root → is_below c d ≡ is_below c (t.parent d)
  unfolding is_below
  below-parent c d l n m = climbs-step (t.rank d) c d n m ∙ climbs-enough (t.rank d) (suc (t.rank (t.parent d))) c (t.parent d) (t.parent_in d l m) (t.rank_falls d l m) (omega arith)

  -- what is below c has no smaller rank
  climbs-rank : (steps c d : ℕ) → d < length comps → climbs steps c d ≡ true → t.rank c ≤ t.rank d
  climbs-rank zero c d l h = absurd (both_ways (climbs 0 c d) (climbs-none c d) h)
  climbs-rank (suc steps) c d l h = elim (cases_eq d c) [
    | inl e ↦ omega (arith, ap t.rank e)
    | inr n ↦ elim (cases_eq d t.root) [
      | inl e ↦ absurd (both_ways (climbs (suc steps) c d) (ap (climbs (suc steps) c) e ∙ climbs-root steps c (λ q. n (e ∙ q))) h)
      | inr m ↦ omega (arith, climbs-rank steps c (t.parent d) (t.parent_in d l m) (sym (climbs-step steps c d n m) ∙ h), t.rank_falls d l m)
    ]
  ]

  pub below-rank : (c d : ℕ) → d < length comps → is_below c d ≡ true → t.rank c ≤ t.rank d
  unfolding is_below
  below-rank c d l h = climbs-rank (suc (t.rank d)) c d l h

  -- the parent of c is not below c
  pub parent-not_below : (c : ℕ) → c < length comps → c ≢ t.root → is_below c (t.parent c) ≡ false
  parent-not_below c l n = false_from_ne_true (is_below c (t.parent c)) (λ h. omega (arith, below-rank c (t.parent c) (t.parent_in c l n) h, t.rank_falls c l n))

  -- the links other than the one between c and its parent
  abbrev others : ℕ → List (ℕ × ℕ)
  others c = filter (joins_others (t.parent c) c) (all_links 0 comps)

  -- whether the link is the one between c and its parent
  abbrev is_own : ℕ → ℕ × ℕ → Bool
  is_own c link = ((link.0 == t.parent c) && (link.1 == c)) || ((link.0 == c) && (link.1 == t.parent c))

  own-up : (c : ℕ) (link : ℕ × ℕ) → link.0 ≡ c → link.1 ≡ t.parent c → is_own c link ≡ true
  own-up c link e f = or_right ((link.0 == t.parent c) && (link.1 == c)) ((link.0 == c) && (link.1 == t.parent c)) (and_from (link.0 == c) (link.1 == t.parent c) (eq-eqb link.0 c e) (eq-eqb link.1 (t.parent c) f))

  own-down : (c : ℕ) (link : ℕ × ℕ) → link.0 ≡ t.parent c → link.1 ≡ c → is_own c link ≡ true
  own-down c link e f = or_left ((link.0 == t.parent c) && (link.1 == c)) ((link.0 == c) && (link.1 == t.parent c)) (and_from (link.0 == t.parent c) (link.1 == c) (eq-eqb link.0 (t.parent c) e) (eq-eqb link.1 c f))

  -- the two ends of another link are both below c or both not
  other-same : (c : ℕ) (link : ℕ × ℕ) → Contains (others c) link → is_below c link.0 ≡ is_below c link.1
  other-same c link w =
      let f = filter-contains (joins_others (t.parent c) c) link (all_links 0 comps) w in
      let l : LinksTo comps link.0 link.1 = contained-link comps link f.0 in
      let n : is_own c link ≡ false = not-true (is_own c link) f.1 in
      elim (t.linked link.0 link.1 l) [
        | inl h ↦ elim (cases_eq link.0 c) [
          | inl e ↦ absurd (both_ways (is_own c link) n (own-up c link e (sym h.1 ∙ ap t.parent e)))
          | inr m ↦ below-parent c link.0 (stands-in comps link.0 l.0 (Link link.1) l.1) m h.0 ∙ ap (is_below c) h.1
        ]
        | inr h ↦ elim (cases_eq link.1 c) [
          | inl e ↦ absurd (both_ways (is_own c link) n (own-down c link (sym h.1 ∙ ap t.parent e) e))
          | inr m ↦ sym (below-parent c link.1 (link-in link.0 link.1 l) m h.0 ∙ ap (is_below c) h.1)
        ]
      ]

  -- a link from d to its parent is another one, where d is not c and c is not the parent of d, or its parent not below c
  parent-link : (c d : ℕ) → d < length comps → d ≢ t.root → d ≢ c → (d ≡ t.parent c → t.parent d ≡ c → ⊥) → connected (others c) d (t.parent d) ≡ true
  parent-link c d l m n back = connected-link (others c) d (t.parent d)
      (contains-filter (joins_others (t.parent c) c) (d, t.parent d) (all_links 0 comps) (link-contained comps d (t.parent d) (t.to_parent d l m))
      (not_from_false (is_own c (d, t.parent d)) (false_from_ne_true (is_own c (d, t.parent d)) (λ h.
      elim (or_cases ((d == t.parent c) && (t.parent d == c)) ((d == c) && (t.parent d == t.parent c)) h) [
        | inl p ↦ let q = and_parts (d == t.parent c) (t.parent d == c) p in back (eqb-true d (t.parent c) q.0) (eqb-true (t.parent d) c q.1)
        | inr p ↦ n (eqb-true d c (and_parts (d == c) (t.parent d == t.parent c) p).0)
      ]))))

  -- what is below c is connected to it by the other links
  below-connected : (c : ℕ) → c < length comps → c ≢ t.root → (steps d : ℕ) → d < length comps → t.rank d < steps → is_below c d ≡ true → connected (others c) c d ≡ true
  below-connected c b r zero d l k h = absurd (omega (arith, k))
  below-connected c b r (suc steps) d l k h = elim (cases_eq d c) [
    | inl e ↦ subst (λ z. connected (others c) c z ≡ true) (sym e) (connected-reflexive (others c) c)
    | inr n ↦ elim (cases_eq d t.root) [
      | inl e ↦ absurd (both_ways (is_below c t.root) (below-root c (λ q. n (e ∙ q))) (subst (λ z. is_below c z ≡ true) e h))
      | inr m ↦ connected-transitive (others c) c (t.parent d) d
          (below-connected c b r steps (t.parent d) (t.parent_in d l m) (omega (arith, k, t.rank_falls d l m)) (sym (below-parent c d l n m) ∙ h))
          (connected-symmetric (others c) d (t.parent d) (parent-link c d l m n (λ e f. both_ways (is_below c d) (ap (is_below c) e ∙ parent-not_below c b r) h)))
    ]
  ]

  -- what is not below c is connected to the root by the other links
  root-connected : (c : ℕ) → (steps d : ℕ) → d < length comps → t.rank d < steps → is_below c d ≡ false → connected (others c) d t.root ≡ true
  root-connected c zero d l k h = absurd (omega (arith, k))
  root-connected c (suc steps) d l k h = elim (cases_eq d t.root) [
    | inl e ↦ subst (λ z. connected (others c) z t.root ≡ true) (sym e) (connected-reflexive (others c) t.root)
    | inr m ↦
        let n : d ≢ c = λ e. both_ways (is_below c d) h (ap (is_below c) e ∙ below-own c) in
        let up : is_below c (t.parent d) ≡ false = sym (below-parent c d l n m) ∙ h in
        connected-transitive (others c) d (t.parent d) t.root (parent-link c d l m n (λ e f. both_ways (is_below c (t.parent d)) up (ap (is_below c) f ∙ below-own c)))
        (root-connected c steps (t.parent d) (t.parent_in d l m) (omega (arith, k, t.rank_falls d l m)) up)
  ]

  -- the far side of the link from its parent to c is what is below c
  pub side-below : (c d : ℕ) → c < length comps → c ≢ t.root → d < length comps → is_beyond comps (t.parent c) c d ≡ is_below c d
  side-below c d b r l = same-tests (is_beyond comps (t.parent c) c d) (is_below c d)
      (λ h. sym (connected-closed (others c) (is_below c) (all-from_contained (λ link. is_below c link.0 ≡ is_below c link.1) (others c) (other-same c)) c d h) ∙ below-own c)
      (below-connected c b r (suc (t.rank d)) d l (omega arith))

  -- seen from either component of a link, the other links are the same
  others-back : (c : ℕ) → filter (joins_others c (t.parent c)) (all_links 0 comps) ≡ others c
  others-back c = filter-same (joins_others c (t.parent c)) (joins_others (t.parent c) c) (all_links 0 comps) (λ link w. ap not (swap ((link.0 == c) && (link.1 == t.parent c)) ((link.0 == t.parent c) && (link.1 == c))))
    where
      swap : (x y : Bool) → (x || y) ≡ (y || x)
      swap true true = refl
      swap true false = refl
      swap false true = refl
      swap false false = refl

  -- the far side of the link from c to its parent is what is not below c
  pub side-above : (c d : ℕ) → c < length comps → c ≢ t.root → d < length comps → is_beyond comps c (t.parent c) d ≡ not (is_below c d)
  side-above c d b r l = ap (λ (links : List (ℕ × ℕ)). connected links (t.parent c) d) (others-back c) ∙ same-tests (connected (others c) (t.parent c) d) (not (is_below c d))
      (λ h. not_from_false (is_below c d) (sym (connected-closed (others c) (is_below c) (all-from_contained (λ link. is_below c link.0 ≡ is_below c link.1) (others c) (other-same c)) (t.parent c) d h) ∙ parent-not_below c b r))
      (λ h. connected-transitive (others c) (t.parent c) t.root d
      (root-connected c (suc (t.rank (t.parent c))) (t.parent c) (t.parent_in c b r) (omega arith) (parent-not_below c b r))
      (connected-symmetric (others c) d t.root (root-connected c (suc (t.rank d)) d l (omega arith) (not-true (is_below c d) h))))
