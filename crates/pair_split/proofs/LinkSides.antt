-- The two sides of a link, by what tests on the components respect the links.
use Rattle.std.proofs.Common.{◌≡◌, ℕ, zero, suc, ◌<◌, ◌⊎◌, ◌==◌, ◌&&◌, ◌||◌, inl, inr, Bool, true, false, not, List, length, filter, refl, sym, ap, ◌∙◌, arith}
use Rattle.std.proofs.lemmas.Bool.{cases_Bool, cases_eq, or_cases, and_parts, eqb-true, not_from_false, false_from_ne_true}
use Rattle.permutations.specs.Relation.{connected}
use Rattle.permutations.proofs.Relation.{connected-symmetric, connected-transitive, connected-link, same-tests}
use Rattle.pair_split.specs.Split.{all_links, joins_others, is_beyond, LinksTo, AreLinked}
use Rattle.pair_split.specs.declared.components.Comp.{Comp}
use Rattle.pair_split.proofs.Elements.{contains-filter}
use Rattle.pair_split.proofs.Links.{link-contained}
use Rattle.pair_split.proofs.Subtrees.{link-in}
use Rattle.pair_split.proofs.TreeSides.{link-from, beyond-far, beyond-near}

-- the link is not the one between k and j
abbrev pub IsOther : ℕ → ℕ → ℕ → ℕ → Type 0
IsOther k j x y = (x ≡ k → y ≡ j → ⊥) × (x ≡ j → y ≡ k → ⊥)

-- so it is one of the links that join others
joins-other : (k j x y : ℕ) → IsOther k j x y → joins_others k j (x, y) ≡ true
joins-other k j x y n = not_from_false (((x == k) && (y == j)) || ((x == j) && (y == k))) (false_from_ne_true (((x == k) && (y == j)) || ((x == j) && (y == k))) (λ h.
    elim (or_cases ((x == k) && (y == j)) ((x == j) && (y == k)) h) [
      | inl a ↦ let p = and_parts (x == k) (y == j) a in n.0 (eqb-true x k p.0) (eqb-true y j p.1)
      | inr a ↦ let p = and_parts (x == j) (y == k) a in n.1 (eqb-true x j p.0) (eqb-true y k p.1)
    ]))

-- a link is another one, or joins k and j
pub other-cases : (k j x y : ℕ) → IsOther k j x y ⊎ ((x ≡ k) × (y ≡ j)) ⊎ ((x ≡ j) × (y ≡ k))
other-cases k j x y = elim (cases_eq x k) [
  | inl e ↦ elim (cases_eq y j) [
    | inl i ↦ inr (inl (e, i))
    | inr i ↦ elim (cases_eq x j) [
      | inl f ↦ elim (cases_eq y k) [ inl h ↦ inr (inr (f, h)) | inr h ↦ inl ((λ p q. i q), (λ p q. h q)) ]
      | inr f ↦ inl ((λ p q. i q), (λ p q. f p))
    ]
  ]
  | inr e ↦ elim (cases_eq x j) [
    | inl f ↦ elim (cases_eq y k) [ inl h ↦ inr (inr (f, h)) | inr h ↦ inl ((λ p q. e p), (λ p q. h q)) ]
    | inr f ↦ inl ((λ p q. e p), (λ p q. f p))
  ]
]

module _ (comps : List Comp) (a : AreLinked comps) where
  -- a test that all links respect is the same on all components
  pub whole : (t : ℕ → Bool) → ((x y : ℕ) → LinksTo comps x y → t x ≡ t y) → (x y : ℕ) → x < length comps → y < length comps → t x ≡ t y
  whole t h x y l m = up (suc (a.tree.rank x)) x l (omega arith) ∙ sym (up (suc (a.tree.rank y)) y m (omega arith))
    where
      up : (steps z : ℕ) → z < length comps → a.tree.rank z < steps → t z ≡ t a.tree.root
      up zero z l r = absurd (omega (arith, r))
      up (suc steps) z l r = elim (cases_eq z a.tree.root) [
        | inl e ↦ ap t e
        | inr n ↦ h z (a.tree.parent z) (a.tree.to_parent z l n) ∙ up steps (a.tree.parent z) (a.tree.parent_in z l n) (omega (arith, r, a.tree.rank_falls z l n))
      ]

  -- so is one that agrees on k and j and that all other links respect
  pub whole-but : (k j : ℕ) (t : ℕ → Bool) → t k ≡ t j → ((x y : ℕ) → LinksTo comps x y → IsOther k j x y → t x ≡ t y) → (x y : ℕ) → x < length comps → y < length comps → t x ≡ t y
  whole-but k j t e h x y l m = whole t (λ u v s. elim (other-cases k j u v) [
    | inl o ↦ h u v s o
    | inr c ↦ elim c [ inl p ↦ ap t p.0 ∙ e ∙ sym (ap t p.1) | inr p ↦ ap t p.0 ∙ sym e ∙ sym (ap t p.1) ]
  ]) x y l m

  -- any other link has both components on one side
  pub beyond-respects : (k j x y : ℕ) → LinksTo comps x y → IsOther k j x y → is_beyond comps k j x ≡ is_beyond comps k j y
  beyond-respects k j x y s n = same-tests (is_beyond comps k j x) (is_beyond comps k j y)
      (λ h. connected-transitive others j x y h link)
      (λ h. connected-transitive others j y x h (connected-symmetric others x y link))
    where
      others : List (ℕ × ℕ)
      others = filter (joins_others k j) (all_links 0 comps)

      link : connected others x y ≡ true
      link = connected-link others x y (contains-filter (joins_others k j) (x, y) (all_links 0 comps) (link-contained comps x y s) (joins-other k j x y n))

  -- a test that holds at the far component, not at the near one, and that all other links respect, tells the far side
  pub beyond-is : (k j : ℕ) → LinksTo comps k j → (t : ℕ → Bool) → t j ≡ true → t k ≡ false → ((x y : ℕ) → LinksTo comps x y → IsOther k j x y → t x ≡ t y)
      → (d : ℕ) → d < length comps → is_beyond comps k j d ≡ t d
  beyond-is k j s t f n o d l = same (is_beyond comps k j d) (t d) (whole-but k j agree (at-near ∙ sym at-far) other d j l (link-in comps a k j s) ∙ at-far)
    where
      -- whether two tests agree
      alike : Bool → Bool → Bool
      alike b c = (b && c) || (not b && not c)

      alike-same : (b c : Bool) → b ≡ c → alike b c ≡ true
      alike-same b c e = grind (arith, e, cases_Bool b, cases_Bool c)

      same : (b c : Bool) → alike b c ≡ true → b ≡ c
      same b c h = grind (arith, h, cases_Bool b, cases_Bool c)

      agree : ℕ → Bool
      agree x = alike (is_beyond comps k j x) (t x)

      at-far : agree j ≡ true
      at-far = alike-same (is_beyond comps k j j) (t j) (beyond-far comps a k j ∙ sym f)

      at-near : agree k ≡ true
      at-near = alike-same (is_beyond comps k j k) (t k) (beyond-near comps a k j s ∙ sym n)

      other : (x y : ℕ) → LinksTo comps x y → IsOther k j x y → agree x ≡ agree y
      other x y w m = ap (λ (b : Bool). alike b (t x)) (beyond-respects k j x y w m) ∙ ap (alike (is_beyond comps k j y)) (o x y w m)

  -- a test that is false at both ends of two links, and that all other links respect, is false everywhere
  none-passes : (k j h i : ℕ) (u : ℕ → Bool) → k < length comps → u k ≡ false → u j ≡ false → u h ≡ false → u i ≡ false
      → ((x y : ℕ) → LinksTo comps x y → IsOther k j x y → IsOther h i x y → u x ≡ u y) → (d : ℕ) → d < length comps → u d ≡ false
  none-passes k j h i u kl uk uj uh ui o d l = whole-but k j u (uk ∙ sym uj) (λ x y s n. elim (other-cases h i x y) [
    | inl m ↦ o x y s n m
    | inr c ↦ elim c [ inl p ↦ ap u p.0 ∙ uh ∙ sym (ap u p.1 ∙ ui) | inr p ↦ ap u p.0 ∙ ui ∙ sym (ap u p.1 ∙ uh) ]
  ]) d k l kl ∙ uk

  -- a link between components on the far side of another one: a side of it without the near component lies on the far side
  pub beyond-within : (k j h i : ℕ) → LinksTo comps k j → LinksTo comps h i → IsOther k j h i → is_beyond comps k j h ≡ true
      → (t : ℕ → Bool) → ((x y : ℕ) → LinksTo comps x y → IsOther h i x y → t x ≡ t y) → t k ≡ false
      → (d : ℕ) → d < length comps → t d ≡ true → is_beyond comps k j d ≡ true
  beyond-within k j h i s w n bh t o f d l p = step (t d) (is_beyond comps k j d) p
      (none-passes k j h i u (link-from comps a k j s) (first-false (t k) (is_beyond comps k j k) f) (first-false (t j) (is_beyond comps k j j) (sym (o k j s ((λ a b. n.0 (sym a) (sym b)), (λ a b. n.1 (sym b) (sym a)))) ∙ f))
      (second-true (t h) (is_beyond comps k j h) bh) (second-true (t i) (is_beyond comps k j i) (sym (beyond-respects k j h i w n) ∙ bh))
      (λ x y v a b. ap (λ (c : Bool). c && not (is_beyond comps k j x)) (o x y v b) ∙ ap (λ (c : Bool). t y && not c) (beyond-respects k j x y v a)) d l)
    where
      -- in the side and not on the far side
      u : ℕ → Bool
      u x = t x && not (is_beyond comps k j x)

      first-false : (a b : Bool) → a ≡ false → (a && not b) ≡ false
      first-false a b e = rw e refl

      second-true : (a b : Bool) → b ≡ true → (a && not b) ≡ false
      second-true a b e = grind (arith, e, cases_Bool a)

      step : (a b : Bool) → a ≡ true → (a && not b) ≡ false → b ≡ true
      step a b e h = grind (arith, e, h, cases_Bool b)
