-- The sides of links at one component: each other component is beyond exactly one of its links.
use Rattle.std.proofs.Common.{◌≡◌, ◌≢◌, ℕ, zero, suc, ◌<◌, ◌==◌, ◌&&◌, ◌||◌, inl, inr, Bool, true, false, not, List, length, filter, refl, sym, ap, ap₂, ◌∙◌, subst, arith, Contains}
use Rattle.std.proofs.lemmas.Bool.{cases_Bool, cases_eq, or_cases, or_left, or_right, and_parts, and_from, and_left, eq-eqb, eqb-true, ne_eqb, both_ways, true≢false, not-true, not_from_false}
use Rattle.permutations.specs.Count.{some}
use Rattle.permutations.specs.Relation.{connected}
use Rattle.permutations.proofs.Search.{some-from, some-witness}
use Rattle.permutations.proofs.Relation.{same-tests, connected-reflexive, connected-symmetric, connected-transitive, connected-link, connected-closed}
use Rattle.pair_split.specs.Split.{items_of, item_at, all_links, joins_others, is_beyond, LinksTo, IsTree, AreLinked}
use Rattle.pair_split.specs.declared.components.What.{What}
use Rattle.pair_split.specs.declared.components.What.TheVariants.{Real, Link}
use Rattle.pair_split.specs.declared.components.Comp.{Comp}
use Rattle.pair_split.proofs.Elements.{contains-filter, filter-contains}
use Rattle.pair_split.proofs.GraphFamily.{all-from_contained}
use Rattle.pair_split.proofs.Links.{link-contained, contained-link, stands-in}
use Rattle.pair_split.proofs.Subtrees.{link-in, is_below, side-below, side-above}

module _ (comps : List Comp) (a : AreLinked comps) where
  abbrev t : IsTree comps
  t = a.tree

  -- the component from which a link comes
  pub link-from : (k j : ℕ) → LinksTo comps k j → k < length comps
  link-from k j l = stands-in comps k l.0 (Link j) l.1

  -- links connect each component to the root
  root-linked : (steps d : ℕ) → d < length comps → t.rank d < steps → connected (all_links 0 comps) d t.root ≡ true
  root-linked zero d l k = absurd (omega (arith, k))
  root-linked (suc steps) d l k = elim (cases_eq d t.root) [
    | inl e ↦ subst (λ z. connected (all_links 0 comps) z t.root ≡ true) (sym e) (connected-reflexive (all_links 0 comps) t.root)
    | inr n ↦ connected-transitive (all_links 0 comps) d (t.parent d) t.root (connected-link (all_links 0 comps) d (t.parent d) (link-contained comps d (t.parent d) (t.to_parent d l n)))
        (root-linked steps (t.parent d) (t.parent_in d l n) (omega (arith, k, t.rank_falls d l n)))
  ]

  -- links connect any two components
  pub all-linked : (c d : ℕ) → c < length comps → d < length comps → connected (all_links 0 comps) c d ≡ true
  all-linked c d l k = connected-transitive (all_links 0 comps) c t.root d (root-linked (suc (t.rank c)) c l (omega arith))
      (connected-symmetric (all_links 0 comps) d t.root (root-linked (suc (t.rank d)) d k (omega arith)))

  -- the two sides of a link share no component and leave none out
  pub beyond-other : (k j d : ℕ) → LinksTo comps k j → d < length comps → is_beyond comps k j d ≡ not (is_beyond comps j k d)
  beyond-other k j d l b = elim (t.linked k j l) [
    | inl h ↦ subst (λ z. is_beyond comps k z d ≡ not (is_beyond comps z k d)) h.1
        (side-above comps a k d (link-from k j l) h.0 b ∙ ap not (sym (side-below comps a k d (link-from k j l) h.0 b)))
    | inr h ↦ subst (λ z. is_beyond comps z j d ≡ not (is_beyond comps j z d)) h.1
        (side-below comps a j d (link-in comps a k j l) h.0 b ∙ sym (ap not (side-above comps a j d (link-in comps a k j l) h.0 b) ∙ twice (is_below comps a j d)))
  ]
    where
      twice : (x : Bool) → not (not x) ≡ x
      twice true = refl
      twice false = refl

  -- a component is on the far side of its link
  pub beyond-far : (k j : ℕ) → is_beyond comps k j j ≡ true
  beyond-far k j = connected-reflexive (filter (joins_others k j) (all_links 0 comps)) j

  -- and not on the far side as seen from itself
  pub beyond-near : (k j : ℕ) → LinksTo comps k j → is_beyond comps k j k ≡ false
  beyond-near k j l = beyond-other k j k l (link-from k j l) ∙ ap not (beyond-far j k)

  -- no component has a link to itself
  pub link-differs : (k j : ℕ) → LinksTo comps k j → k ≢ j
  link-differs k j l e = both_ways (is_beyond comps k j k) (beyond-near k j l) (ap (is_beyond comps k j) e ∙ beyond-far k j)

  -- another link joins two components on the same side of this one
  other-along : (k j x y : ℕ) → LinksTo comps x y → joins_others k j (x, y) ≡ true → is_beyond comps k j x ≡ is_beyond comps k j y
  other-along k j x y l o = same-tests (is_beyond comps k j x) (is_beyond comps k j y)
      (λ h. connected-transitive (filter (joins_others k j) (all_links 0 comps)) j x y h joined)
      (λ h. connected-transitive (filter (joins_others k j) (all_links 0 comps)) j y x h (connected-symmetric (filter (joins_others k j) (all_links 0 comps)) x y joined))
    where
      joined : connected (filter (joins_others k j) (all_links 0 comps)) x y ≡ true
      joined = connected-link (filter (joins_others k j) (all_links 0 comps)) x y (contains-filter (joins_others k j) (x, y) (all_links 0 comps) (link-contained comps x y l) o)

  -- a link that does not meet k joins two components on the same side of each link of k
  pub beyond-along : (k j x y : ℕ) → LinksTo comps x y → x ≢ k → y ≢ k → is_beyond comps k j x ≡ is_beyond comps k j y
  beyond-along k j x y l n m = other-along k j x y l (grind (arith, ne_eqb x k n, ne_eqb y k m, cases_Bool (x == j), cases_Bool (y == j)))

  -- a component linked to k is beyond no other link of k
  pub beyond-neighbour : (k j h : ℕ) → LinksTo comps k j → LinksTo comps k h → j ≢ h → is_beyond comps k h j ≡ false
  beyond-neighbour k j h l i n = sym (other-along k h k j l (grind (arith, ne_eqb j h n, ne_eqb j k (λ e. link-differs k j l (sym e)), cases_Bool (k == k), cases_Bool (k == h)))) ∙ beyond-near k h i

  -- on the side of j and not on that of h
  abbrev only : ℕ → ℕ → ℕ → ℕ → Bool
  only k j h x = is_beyond comps k j x && not (is_beyond comps k h x)

  only-along : (k j h : ℕ) → LinksTo comps k j → (link : ℕ × ℕ) → Contains (filter (joins_others k j) (all_links 0 comps)) link → only k j h link.0 ≡ only k j h link.1
  only-along k j h l link c =
      let f = filter-contains (joins_others k j) link (all_links 0 comps) c in
      let i : LinksTo comps link.0 link.1 = contained-link comps link f.0 in
      let same : is_beyond comps k j link.0 ≡ is_beyond comps k j link.1 = other-along k j link.0 link.1 i f.1 in
      elim (cases_Bool (is_beyond comps k j link.0)) [
        | inr n ↦ and_left (is_beyond comps k j link.0) (not (is_beyond comps k h link.0)) n ∙ sym (and_left (is_beyond comps k j link.1) (not (is_beyond comps k h link.1)) (sym same ∙ n))
        | inl y ↦ ap₂ (λ u v. u && not v) same (beyond-along k h link.0 link.1 i
            (λ e. both_ways (is_beyond comps k j k) (beyond-near k j l) (ap (is_beyond comps k j) (sym e) ∙ y))
            (λ e. both_ways (is_beyond comps k j k) (beyond-near k j l) (ap (is_beyond comps k j) (sym e) ∙ sym same ∙ y)))
      ]

  -- the far sides of two links of k share no component
  pub beyond-apart : (k j h d : ℕ) → LinksTo comps k j → LinksTo comps k h → j ≢ h → is_beyond comps k j d ≡ true → is_beyond comps k h d ≡ false
  beyond-apart k j h d l i n b =
      let start : only k j h j ≡ true = and_from (is_beyond comps k j j) (not (is_beyond comps k h j)) (beyond-far k j) (not_from_false (is_beyond comps k h j) (beyond-neighbour k j h l i n)) in
      let closed : only k j h j ≡ only k j h d = connected-closed (filter (joins_others k j) (all_links 0 comps)) (only k j h)
      (all-from_contained (λ link. only k j h link.0 ≡ only k j h link.1) (filter (joins_others k j) (all_links 0 comps)) (only-along k j h l)) j d b in
      not-true (is_beyond comps k h d) (and_parts (is_beyond comps k j d) (not (is_beyond comps k h d)) (sym closed ∙ start)).1

  -- whether a component is beyond an item: the item is a link to its side
  pub beyond_item : ℕ → What → ℕ → Bool
  beyond_item k (Real e) x = false
  beyond_item k (Link j) x = is_beyond comps k j x

  beyond_item-link : (k : ℕ) (what : What) (j x : ℕ) → what ≡ Link j → beyond_item k what x ≡ is_beyond comps k j x
  unfolding beyond_item
  beyond_item-link k what j x e = ap (λ (w : What). beyond_item k w x) e

  beyond_item-cases : (k : ℕ) (what : What) (x : ℕ) → beyond_item k what x ≡ true → (j : ℕ) × (what ≡ Link j) × (is_beyond comps k j x ≡ true)
  unfolding beyond_item
  beyond_item-cases k (Real e) x h = absurd (true≢false (sym h))
  beyond_item-cases k (Link j) x h = (j, refl, h)

  -- whether a component is k, or beyond one of its links
  reached : ℕ → ℕ → Bool
  reached k x = (x == k) || some (length (items_of comps k)) (λ i. beyond_item k (item_at comps k i).what x)

  reached-self : (k : ℕ) → reached k k ≡ true
  unfolding reached
  reached-self k = or_left (k == k) (some (length (items_of comps k)) (λ i. beyond_item k (item_at comps k i).what k)) (eq-eqb k k refl)

  reached-link : (k j : ℕ) → LinksTo comps k j → reached k j ≡ true
  unfolding reached
  reached-link k j l = or_right (j == k) (some (length (items_of comps k)) (λ i. beyond_item k (item_at comps k i).what j))
      (some-from (length (items_of comps k)) (λ i. beyond_item k (item_at comps k i).what j) l.0 (l.1).0 (beyond_item-link k (item_at comps k l.0).what j j (l.1).1 ∙ beyond-far k j))

  -- a component that is reached and is not k is beyond a link
  reached-beyond : (k x : ℕ) → reached k x ≡ true → x ≢ k → (j : ℕ) × LinksTo comps k j × (is_beyond comps k j x ≡ true)
  unfolding reached
  reached-beyond k x h n = elim (or_cases (x == k) (some (length (items_of comps k)) (λ i. beyond_item k (item_at comps k i).what x)) h) [
    | inl e ↦ absurd (n (eqb-true x k e))
    | inr s ↦
        let i = some-witness (length (items_of comps k)) (λ i. beyond_item k (item_at comps k i).what x) s in
        let b = beyond_item-cases k (item_at comps k i.0).what x i.2 in
        (b.0, (i.0, (i.1, b.1)), b.2)
  ]

  beyond-reached : (k j x : ℕ) → LinksTo comps k j → is_beyond comps k j x ≡ true → reached k x ≡ true
  unfolding reached
  beyond-reached k j x l b = or_right (x == k) (some (length (items_of comps k)) (λ i. beyond_item k (item_at comps k i).what x))
      (some-from (length (items_of comps k)) (λ i. beyond_item k (item_at comps k i).what x) l.0 (l.1).0 (beyond_item-link k (item_at comps k l.0).what j x (l.1).1 ∙ b))

  -- a link leads from a reached component to a reached one
  pub link-back : (k j : ℕ) → LinksTo comps k j → LinksTo comps j k
  link-back k j l = let b = a.back k j l.0 l.1 in (b.0, b.1)

  reached-step : (k x y : ℕ) → LinksTo comps x y → reached k x ≡ true → reached k y ≡ true
  reached-step k x y l h = elim (cases_eq y k) [
    | inl e ↦ ap (reached k) e ∙ reached-self k
    | inr m ↦ elim (cases_eq x k) [
      | inl e ↦ reached-link k y (subst (λ z. LinksTo comps z y) e l)
      | inr n ↦ let b = reached-beyond k x h n in beyond-reached k b.0 y b.1 (sym (beyond-along k b.0 x y l n m) ∙ b.2)
    ]
  ]

  reached-along : (k : ℕ) (link : ℕ × ℕ) → Contains (all_links 0 comps) link → reached k link.0 ≡ reached k link.1
  reached-along k link c =
      let l : LinksTo comps link.0 link.1 = contained-link comps link c in
      same-tests (reached k link.0) (reached k link.1) (reached-step k link.0 link.1 l) (reached-step k link.1 link.0 (link-back link.0 link.1 l))

  -- each component but k is beyond one of the links of k
  pub beyond-some : (k d : ℕ) → k < length comps → d < length comps → d ≢ k → (j : ℕ) × LinksTo comps k j × (is_beyond comps k j d ≡ true)
  beyond-some k d l b n = reached-beyond k d
      (sym (connected-closed (all_links 0 comps) (reached k) (all-from_contained (λ link. reached k link.0 ≡ reached k link.1) (all_links 0 comps) (reached-along k)) k d (all-linked k d l b)) ∙ reached-self k) n
