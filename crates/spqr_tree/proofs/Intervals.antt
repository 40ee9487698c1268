-- The places of the edges in a group stand between the bounds of its item; so a search among the bounds of a node finds the group.
use Rattle.std.proofs.Common.{◌≡◌, ◌≢◌, ℕ, zero, suc, ◌+◌, ◌-◌, ◌<◌, ◌≤◌, ◌⊎◌, inl, inr, true, List, [], length, slice_index, sym, ap, ◌∙◌, subst, arith}
use Rattle.std.proofs.lemmas.Bool.{cases_eq, cases_lt, both_ways, not_from_true}
use Rattle.std.proofs.lemmas.List.Sorted.{IsNonDecreasingBy-from_default}
use Rattle.std.specs.List.Sorted.{IsNonDecreasingBy}
use Rattle.permutations.specs.Count.{count}
use Rattle.multigraph.specs.Graph.{Multigraph, edge_count}
use Rattle.pair_split.specs.Split.{is_beyond, side, LinksTo, IsSplit}
use Rattle.pair_split.specs.Tutte.{Node, node_at, components, node_item, has_in_group, group, IsTutte}
use Rattle.pair_split.specs.declared.components.Comp.{Comp}
use Rattle.pair_split.specs.declared.components.Item.{Item}
use Rattle.pair_split.specs.declared.components.What.TheVariants.{Link}
use Rattle.pair_split.proofs.Groups.{side-other, group-cases, in_group-link, group-some}
use Rattle.spqr_tree.specs.Tour.{what_at, item_count, place_of, bounds_of, bound_count, bound_at, AreToured}
use Rattle.spqr_tree.proofs.UpLinks.{comp-in, item-in, what-at, first-in, first-key, link-to, link-within, child-up, parent-down, link-once, edge-stands, falls, group-is}

module _ (g : Multigraph) (nodes : List Node) (t : IsTutte g nodes) (few : 0 < edge_count g) (places : List ℕ) (bounds : List (List ℕ)) (a : AreToured nodes places bounds) where
  abbrev comps : List Comp
  comps = components nodes

  abbrev split : IsSplit g comps
  split = t.split

  -- the bounds of a node rise
  rise-by : (k i d : ℕ) → i + d < bound_count bounds k → bound_at bounds k i ≤ bound_at bounds k (i + d)
  rise-by k i zero b = let e : i ≡ i + 0 = omega arith in subst (λ z. bound_at bounds k i ≤ bound_at bounds k z) e (omega arith)
  rise-by k i (suc d) b =
      let e : (i + d) + 1 ≡ i + suc d = omega arith in
      subst (λ z. bound_at bounds k i ≤ bound_at bounds k z) e (omega (arith, rise-by k i d (omega (arith, b)), a.rise k (i + d) (omega (arith, b))))

  rises : (k i h : ℕ) → i ≤ h → h < bound_count bounds k → bound_at bounds k i ≤ bound_at bounds k h
  rises k i h l b = let e : i + (h - i) ≡ h = omega (arith, l) in subst (λ z. bound_at bounds k i ≤ bound_at bounds k z) e (rise-by k i (h - i) (omega (arith, e, b)))

  pub bounds-sorted : (k : ℕ) → IsNonDecreasingBy (λ x. x) (bounds_of bounds k)
  bounds-sorted k = IsNonDecreasingBy-from_default (λ x. x) (bounds_of bounds k) 0 (rises k)

  -- some item has the edge in its group
  some-item : (k e : ℕ) → k < length nodes → e < edge_count g → (i : ℕ) × (i < item_count nodes k) × (has_in_group comps k e (what_at nodes k i) ≡ true)
  some-item k e l b = let i = group-some g comps split k e (comp-in g nodes t few k l) b in let m = item-in g nodes t few k i.0 i.1 in (i.0, m, ap (has_in_group comps k e) (sym (what-at g nodes t few k i.0 m)) ∙ i.2)

  -- an edge on the side of a link away from the first item has its place between the bounds of the node there
  abbrev IsInside : ℕ → ℕ → Type 0
  IsInside j e = (bound_at bounds j 0 ≤ place_of places e) × ((z : ℕ) → z + 1 ≡ item_count nodes j → place_of places e < bound_at bounds j z)

  abbrev IsBetween : ℕ → ℕ → ℕ → Type 0
  IsBetween k i e = (bound_at bounds k i ≤ place_of places e) × (place_of places e < bound_at bounds k (i + 1))

  -- so it has it between the bounds of the link
  under : (k i j e : ℕ) → k < length nodes → i + 1 < item_count nodes k → what_at nodes k (i + 1) ≡ Link j → IsInside j e → IsBetween k i e
  under k i j e l b h y =
      let r = a.links k i j l b h in
      let full : 0 < item_count nodes j = first-in g nodes t few j (link-within g nodes t few k j (link-to g nodes t few k (i + 1) j b h)) in
      let last : (item_count nodes j - 1) + 1 ≡ item_count nodes j = omega (arith, full) in
      (omega (arith, r.0, y.0), omega (arith, r.1 (item_count nodes j - 1) last, y.1 (item_count nodes j - 1) last))

  -- it is so deeper in the tree
  abbrev IsDeeper : ℕ → ℕ → ℕ → Type 0
  IsDeeper fuel j e = (x q : ℕ) → x + 1 < item_count nodes j → what_at nodes j (x + 1) ≡ Link q → side comps j q e ≡ true → count (length nodes) (is_beyond comps j q) < fuel → IsInside q e

  inside-by : (fuel k i j e : ℕ) → i + 1 < item_count nodes k → what_at nodes k (i + 1) ≡ Link j → e < edge_count g → side comps k j e ≡ true → count (length nodes) (is_beyond comps k j) < fuel → IsInside j e
  inside-by zero k i j e l h b y f = absurd (omega (arith, f))
  inside-by (suc fuel) k i j e l h b y f = let w = some-item j e r b in at-item (λ x q v d z u. inside-by fuel j x q e v d b z u) w.0 w.1 w.2
    where
      m : LinksTo comps k j
      m = link-to g nodes t few k (i + 1) j l h

      r : j < length nodes
      r = link-within g nodes t few k j m

      up : what_at nodes j 0 ≡ Link k
      up = child-up g nodes t few k i j l h

      not-first : has_in_group comps j e (what_at nodes j 0) ≡ true → ⊥
      not-first w = both_ways (side comps k j e) (side-other g comps split k j e m b ∙ not_from_true (side comps j k e) (sym (in_group-link g comps split j k e (what_at nodes j 0) up) ∙ w)) y

      deeper : IsDeeper fuel j e → (x q : ℕ) → x + 1 < item_count nodes j → what_at nodes j (x + 1) ≡ Link q → side comps j q e ≡ true → IsInside q e
      deeper more x q v d z = more x q v d z (omega (arith, f, falls g nodes t few k j q m (link-to g nodes t few j (x + 1) q v d) other))
        where
          other : q ≢ k
          other u = omega (arith, link-once g nodes t few j 0 (x + 1) k (first-in g nodes t few j r) v up (d ∙ ap Link u))

      between : IsDeeper fuel j e → (x : ℕ) → x + 1 < item_count nodes j → has_in_group comps j e (what_at nodes j (x + 1)) ≡ true → IsBetween j x e
      between more x v w = elim (group-cases g comps split j e (what_at nodes j (x + 1)) w) [
        | inl q ↦ a.edges j x e r v q
        | inr q ↦ under j x q.0 e r v q.1 (deeper more x q.0 v q.1 q.2)
      ]

      at-item : IsDeeper fuel j e → (x : ℕ) → x < item_count nodes j → has_in_group comps j e (what_at nodes j x) ≡ true → IsInside j e
      at-item more zero v w = absurd (not-first w)
      at-item more (suc x) v w =
          let v-is : x + 1 < item_count nodes j = omega (arith, v) in
          let d = between more x v-is (subst (λ z. has_in_group comps j e (what_at nodes j z) ≡ true) (omega arith) w) in
          let c : bound_count bounds j ≡ item_count nodes j = a.each j r in
          (omega (arith, d.0, rises j 0 x (omega arith) (omega (arith, c, v-is))), λ z u. omega (arith, d.1, rises j (x + 1) z (omega (arith, u, v-is)) (omega (arith, c, u))))

  -- an edge in the group of an item that is not the first has its place between the item's bounds
  pub between-bounds : (k i e : ℕ) → k < length nodes → i + 1 < item_count nodes k → e < edge_count g → has_in_group comps k e (what_at nodes k (i + 1)) ≡ true → IsBetween k i e
  between-bounds k i e l v b w = elim (group-cases g comps split k e (what_at nodes k (i + 1)) w) [
    | inl q ↦ a.edges k i e l v q
    | inr q ↦ under k i q.0 e l v q.1 (inside-by (suc (count (length nodes) (is_beyond comps k q.0))) k i q.0 e v q.1 b q.2 (omega arith))
  ]

  -- an edge on the side of the first item has its place before all bounds or behind them
  abbrev IsOutside : ℕ → ℕ → Type 0
  IsOutside k e = (place_of places e < bound_at bounds k 0) ⊎ ((z : ℕ) → z + 1 ≡ item_count nodes k → bound_at bounds k z ≤ place_of places e)

  -- it is so higher in the tree
  abbrev IsHigher : ℕ → ℕ → ℕ → Type 0
  IsHigher fuel p e = (q : ℕ) → what_at nodes p 0 ≡ Link q → side comps p q e ≡ true → count (length nodes) (is_beyond comps p q) < fuel → IsOutside p e

  outside-by : (fuel k p e : ℕ) → k < length nodes → what_at nodes k 0 ≡ Link p → e < edge_count g → side comps k p e ≡ true → count (length nodes) (is_beyond comps k p) < fuel → IsOutside k e
  outside-by zero k p e l h b y f = absurd (omega (arith, f))
  outside-by (suc fuel) k p e l h b y f = let w = some-item p e r b in at-item (λ q d z u. outside-by fuel p q e r d b z u) w.0 w.1 w.2
    where
      m : LinksTo comps k p
      m = link-to g nodes t few k 0 p (first-in g nodes t few k l) h

      r : p < length nodes
      r = link-within g nodes t few k p m

      c : bound_count bounds p ≡ item_count nodes p
      c = a.each p r

      down : (i : ℕ) × (i + 1 < item_count nodes p) × (what_at nodes p (i + 1) ≡ Link k)
      down = parent-down g nodes t few k p l h

      -- the bounds of the node stand between those of the link to it
      around : (bound_at bounds p down.0 ≤ bound_at bounds k 0) × ((z : ℕ) → z + 1 ≡ item_count nodes k → bound_at bounds k z ≤ bound_at bounds p (down.0 + 1))
      around = a.links p down.0 k r down.1 down.2

      not-down : has_in_group comps p e (what_at nodes p (down.0 + 1)) ≡ true → ⊥
      not-down w = both_ways (side comps k p e) (side-other g comps split k p e m b ∙ not_from_true (side comps p k e) (sym (in_group-link g comps split p k e (what_at nodes p (down.0 + 1)) down.2) ∙ w)) y

      before : place_of places e < bound_at bounds p down.0 → IsOutside k e
      before d = inl (omega (arith, d, around.0))

      behind : bound_at bounds p (down.0 + 1) ≤ place_of places e → IsOutside k e
      behind d = inr (λ z u. omega (arith, d, around.1 z u))

      at-first : IsHigher fuel p e → has_in_group comps p e (what_at nodes p 0) ≡ true → IsOutside k e
      at-first more w = elim (group-cases g comps split p e (what_at nodes p 0) w) [
        | inl q ↦ before (omega (arith, a.first p e r q, rises p 0 down.0 (omega arith) (omega (arith, c, down.1))))
        | inr q ↦
            let other : q.0 ≢ k = λ u. omega (arith, link-once g nodes t few p 0 (down.0 + 1) k (first-in g nodes t few p r) down.1 (q.1 ∙ ap Link u) down.2) in
            elim (more q.0 q.1 q.2 (omega (arith, f, falls g nodes t few k p q.0 m (link-to g nodes t few p 0 q.0 (first-in g nodes t few p r) q.1) other))) [
              | inl d ↦ before (omega (arith, d, rises p 0 down.0 (omega arith) (omega (arith, c, down.1))))
              | inr d ↦ behind (omega (arith, d (item_count nodes p - 1) (omega (arith, down.1)), rises p (down.0 + 1) (item_count nodes p - 1) (omega (arith, down.1)) (omega (arith, c, down.1))))
            ]
      ]

      at-item : IsHigher fuel p e → (x : ℕ) → x < item_count nodes p → has_in_group comps p e (what_at nodes p x) ≡ true → IsOutside k e
      at-item more zero v w = at-first more w
      at-item more (suc x) v w =
          let v-is : x + 1 < item_count nodes p = omega (arith, v) in
          let w-is : has_in_group comps p e (what_at nodes p (x + 1)) ≡ true = subst (λ z. has_in_group comps p e (what_at nodes p z) ≡ true) (omega arith) w in
          let d = between-bounds p x e r v-is b w-is in
          elim (cases_eq x down.0) [
            | inl q ↦ absurd (not-down (subst (λ z. has_in_group comps p e (what_at nodes p (z + 1)) ≡ true) q w-is))
            | inr n ↦ elim (cases_lt x down.0) [
              | inl s ↦ before (omega (arith, d.1, rises p (x + 1) down.0 (omega (arith, s)) (omega (arith, c, down.1))))
              | inr s ↦ behind (omega (arith, d.0, rises p (down.0 + 1) x (omega (arith, s, n)) (omega (arith, c, v-is))))
            ]
          ]

  outside-bounds : (k e : ℕ) → k < length nodes → e < edge_count g → has_in_group comps k e (what_at nodes k 0) ≡ true → IsOutside k e
  outside-bounds k e l b w = elim (group-cases g comps split k e (what_at nodes k 0) w) [
    | inl q ↦ inl (a.first k e l q)
    | inr q ↦ outside-by (suc (count (length nodes) (is_beyond comps k q.0))) k q.0 e l q.1 b q.2 (omega arith)
  ]

  -- the edges of the graph have places
  pub edge-place : (e : ℕ) → e < edge_count g → e < length places
  edge-place e b = let w = edge-stands g nodes t few e b in a.within w.0 w.1 e w.2 w.3 w.4

  -- the item whose bounds are found is that of the group; where the place is before all bounds or behind them, it is the first
  pub group-found : (k e i : ℕ) → k < length nodes → e < edge_count g → i ≤ bound_count bounds k → ((y : ℕ) → y < i → bound_at bounds k y ≤ place_of places e)
      → ((y : ℕ) → i ≤ y → y < bound_count bounds k → place_of places e < bound_at bounds k y) → (i < item_count nodes k → (node_item nodes k i).key ≡ group nodes k e) × (item_count nodes k ≤ i → 0 ≡ group nodes k e)
  group-found k e i l b m low high = let w = some-item k e l b in at-item w.0 w.1 w.2
    where
      c : bound_count bounds k ≡ item_count nodes k
      c = a.each k l

      at-item : (x : ℕ) → x < item_count nodes k → has_in_group comps k e (what_at nodes k x) ≡ true → (i < item_count nodes k → (node_item nodes k i).key ≡ group nodes k e) × (item_count nodes k ≤ i → 0 ≡ group nodes k e)
      at-item zero v w =
          let key : 0 ≡ group nodes k e = sym (first-key g nodes t few k l) ∙ sym (group-is g nodes t few k 0 e v b w) in (
            λ d. elim (cases_eq i 0) [
              | inl q ↦ ap (λ z. (node_item nodes k z).key) q ∙ sym (group-is g nodes t few k 0 e v b w)
              | inr n ↦ elim (outside-bounds k e l b w) [
                | inl o ↦ absurd (omega (arith, o, low 0 (omega (arith, n))))
                | inr o ↦ let last : (item_count nodes k - 1) + 1 ≡ item_count nodes k = omega (arith, v) in absurd (omega (arith, o (item_count nodes k - 1) last, high (item_count nodes k - 1) (omega (arith, d, last)) (omega (arith, c, last))))
              ]
            ],
            λ d. key,
          )
      at-item (suc x) v w =
          let v-is : x + 1 < item_count nodes k = omega (arith, v) in
          let w-is : has_in_group comps k e (what_at nodes k (x + 1)) ≡ true = subst (λ z. has_in_group comps k e (what_at nodes k z) ≡ true) (omega arith) w in
          let d = between-bounds k x e l v-is b w-is in
          let is : i ≡ x + 1 = elim (cases_lt i (x + 1)) [
            | inl s ↦ absurd (omega (arith, d.0, high x (omega (arith, s)) (omega (arith, c, v-is))))
            | inr s ↦ elim (cases_lt (x + 1) i) [
              | inl r ↦ absurd (omega (arith, d.1, low (x + 1) r))
              | inr r ↦ omega (arith, r, s)
            ]
          ] in
          (λ z. ap (λ u. (node_item nodes k u).key) is ∙ sym (group-is g nodes t few k (x + 1) e v-is b w-is), λ z. absurd (omega (arith, z, is, v-is)))

  -- the same as the code has it: the place of the edge, the bounds and the items of the node
  module _ (k e i place : ℕ) (list : List ℕ) (items : List Item) (l : k < length nodes) (b : e < edge_count g) (p : place ≡ place_of places e) (list-is : list ≡ bounds_of bounds k) (items-are : items ≡ (node_at nodes k).items)
      (up_to : (y : ℕ) → y < i → slice_index list y ≤ place) (above : (y : ℕ) → i ≤ y → y < length list → place < slice_index list y) (within : i ≤ length list) where
    found : (i < item_count nodes k → (node_item nodes k i).key ≡ group nodes k e) × (item_count nodes k ≤ i → 0 ≡ group nodes k e)
    found = group-found k e i l b (subst (λ (z : List ℕ). i ≤ length z) list-is within)
        (subst (λ (z : List ℕ). (y : ℕ) → y < i → slice_index z y ≤ place_of places e) list-is (subst (λ z. (y : ℕ) → y < i → slice_index list y ≤ z) p up_to))
        (subst (λ (z : List ℕ). (y : ℕ) → i ≤ y → y < length z → place_of places e < slice_index z y) list-is (subst (λ z. (y : ℕ) → i ≤ y → y < length list → z < slice_index list y) p above))

    pub found-here : i < length items → (node_item nodes k i).key ≡ group nodes k e
    found-here d = found.0 (subst (λ (z : List Item). i < length z) items-are d)

    pub found-first : length items ≤ i → (node_item nodes k 0).key ≡ group nodes k e
    found-first d = first-key g nodes t few k l ∙ found.1 (subst (λ (z : List Item). length z ≤ i) items-are d)
