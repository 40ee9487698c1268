-- The key of the link back: the least edge on the near side of a link is the first key of the node, but that of the link itself.
use Rattle.std.proofs.Common.{◌≡◌, ◌≢◌, ℕ, ◌<◌, ◌≤◌, ◌==◌, ◌⊎◌, inl, inr, true, false, List, length, map, slice_index_or, refl, sym, ap, ◌∙◌, subst, arith, le_refl, eq-eqb, eqb-true}
use Rattle.std.proofs.lemmas.Bool.{both_ways, cases_eq, cases_lt, or_left, false_from_ne_true, not_from_false, not_from_true}
use Rattle.std.proofs.lemmas.List.{get_or-map, length-map}
use Rattle.permutations.proofs.Search.{some-from, least-passes, least-first, least-is}
use Rattle.multigraph.specs.Graph.{Multigraph, edge_count, is_end}
use Rattle.multigraph.specs.Part.{Rises}
use Rattle.pair_split.specs.Split.{side, LinksTo, IsSplit}
use Rattle.pair_split.specs.Tutte.{Node, components, node_at, node_item, key_of, has_in_group, IsTutte}
use Rattle.pair_split.specs.declared.components.Comp.{Comp}
use Rattle.pair_split.specs.declared.components.Item.{Item}
use Rattle.pair_split.specs.declared.components.What.{What}
use Rattle.pair_split.specs.declared.components.What.TheVariants.{Real, Link}
use Rattle.pair_split.proofs.Groups.{side-other, in_group-link}
use Rattle.pair_split.proofs.Subtrees.{link-in}
use Rattle.skeletons.specs.Items.{item_key, ends_item}
use Rattle.skeletons.proofs.NodeItems.{no_item, nth_item, node-in, stands-of, keys-once, group-is, edge-item, item-vertex, item-edge, outside-edge}
use Rattle.skeletons.proofs.Towards.{far-item}
use Rattle.skeleton_runs.proofs.NodeFits.{key-fits}

-- items in order of their keys
pub items-rise : (items : List Item) → Rises (map item_key items) → (i j : ℕ) → i < j → j < length items → (nth_item items i).key < (nth_item items j).key
items-rise items r i j l m = subst (λ z. z < (nth_item items j).key) (at i (omega (arith, l, m)))
    (subst (λ z. slice_index_or (map item_key items) i 0 < z) (at j m) (r i j l (subst (λ n. j < n) (sym (length-map items item_key)) m)))
  where
    at : (h : ℕ) → h < length items → slice_index_or (map item_key items) h 0 ≡ (nth_item items h).key
    at h n = get_or-map item_key items h no_item 0 n

module _ (g : Multigraph) (nodes : List Node) (t : IsTutte g nodes) where
  abbrev comps : List Comp
  comps = components nodes

  abbrev split : IsSplit g comps
  split = t.split

  -- an item has its lesser end
  pub lesser-end : (k i : ℕ) → ends_item (node_item nodes k i).a (node_item nodes k i) ≡ true
  lesser-end k i = or_left ((node_item nodes k i).a == (node_item nodes k i).a) ((node_item nodes k i).b == (node_item nodes k i).a) (eq-eqb (node_item nodes k i).a (node_item nodes k i).a refl)

  -- the key of an item is an edge in its group
  pub key-own : (k i : ℕ) → i < length (node_at nodes k).items → has_in_group comps k (node_item nodes k i).key (node_item nodes k i).what ≡ true
  key-own k i l = subst (λ z. has_in_group comps k z (node_item nodes k i).what ≡ true) (sym (t.in_order.keys k i l)) (own (node_item nodes k i).what (w.3))
    where
      w : (e : ℕ) × (e < edge_count g) × (is_end g (node_item nodes k i).a e ≡ true) × (has_in_group comps k e (node_item nodes k i).what ≡ true)
      w = item-edge g nodes t k (node_item nodes k i).a i l (lesser-end k i)

      own : (z : What) → has_in_group comps k w.0 z ≡ true → has_in_group comps k (key_of g nodes k z) z ≡ true
      own (Real e) h = eq-eqb e e refl
      own (Link j) h = least-passes (edge_count g) (side comps k j) (some-from (edge_count g) (side comps k j) w.0 w.1 h)

  -- and the least one
  pub key-least : (k i e : ℕ) → i < length (node_at nodes k).items → has_in_group comps k e (node_item nodes k i).what ≡ true → (node_item nodes k i).key ≤ e
  key-least k i e l h = subst (λ z. z ≤ e) (sym (t.in_order.keys k i l)) (at (node_item nodes k i).what h)
    where
      at : (z : What) → has_in_group comps k e z ≡ true → key_of g nodes k z ≤ e
      at (Real f) m = subst (λ z. f ≤ z) (eqb-true f e m) (le_refl f)
      at (Link j) m = least-first (edge_count g) (side comps k j) e m

  -- the keys of a node rise
  pub keys-rise : (k i j : ℕ) → k < length nodes → i < j → j < length (node_at nodes k).items → (node_item nodes k i).key < (node_item nodes k j).key
  keys-rise k i j d l m = items-rise (node_at nodes k).items (t.in_order.keys_rise k d) i j l m

  -- a node with a link has another item
  pub other-item : (k p j : ℕ) → k < length nodes → p < length (node_at nodes k).items → (node_item nodes k p).what ≡ Link j → (q : ℕ) × (q < length (node_at nodes k).items) × (q ≢ p)
  other-item k p j d l w =
      let v : ℕ = (node_item nodes k p).a in
      let f = outside-edge g nodes t k p j v l w (item-vertex g nodes t k v p d l (lesser-end k p)) in
      let i = edge-item g nodes t k f.0 d f.1 in
      (i.0, i.1, λ q. f.3 (group-is g nodes t k i.0 f.0 i.1 f.1 i.2 ∙ ap (λ z. (node_item nodes k z).key) q))

  -- the key of the link back
  pub back-key : (k p j b q : ℕ) → k < length nodes → p < length (node_at nodes k).items → (node_item nodes k p).what ≡ Link j → b < length (node_at nodes j).items → (node_item nodes j b).what ≡ Link k
      → q < length (node_at nodes k).items → q ≢ p → ((i : ℕ) → i < q → i ≡ p) → (node_item nodes j b).key ≡ (node_item nodes k q).key
  back-key k p j b q d l w lb wb lq n first =
      t.in_order.keys j b lb ∙ ap (key_of g nodes j) wb ∙ least-is (edge_count g) (side comps j k) x lx there before
    where
      x : ℕ
      x = (node_item nodes k q).key

      lx : (node_item nodes k q).key < edge_count g
      lx = key-fits g nodes t k q lq

      link : LinksTo comps k j
      link = (p, stands-of g nodes t k p (Link j) l w)

      back : LinksTo comps j k
      back = (b, stands-of g nodes t j b (Link k) lb wb)

      outside : side comps k j (node_item nodes k q).key ≡ false
      outside = false_from_ne_true (side comps k j (node_item nodes k q).key) (λ s. n (keys-once g nodes t k q p lq l
          (sym (group-is g nodes t k q (node_item nodes k q).key lq lx (key-own k q lq)) ∙ group-is g nodes t k p (node_item nodes k q).key l lx (in_group-link g comps split k j (node_item nodes k q).key (node_item nodes k p).what w ∙ s))))

      there : side comps j k (node_item nodes k q).key ≡ true
      there = side-other g comps split j k (node_item nodes k q).key back lx ∙ not_from_false (side comps k j (node_item nodes k q).key) outside

      before : (y : ℕ) → y < (node_item nodes k q).key → side comps j k y ≡ false
      before y m = false_from_ne_true (side comps j k y) (λ s.
          let ly : y < edge_count g = omega (arith, m, lx) in
          let away : side comps k j y ≡ false = side-other g comps split k j y link ly ∙ not_from_true (side comps j k y) s in
          let i = edge-item g nodes t k y d ly in
          let less : (node_item nodes k i.0).key ≤ y = key-least k i.0 y i.1 i.2 in
          let earlier : i.0 < q = elim (cases_lt i.0 q) [
            | inl a ↦ a
            | inr a ↦ elim (cases_eq i.0 q) [
              | inl e ↦ absurd (omega (arith, ap (λ z. (node_item nodes k z).key) e, less, m))
              | inr e ↦ absurd (omega (arith, keys-rise k q i.0 d (omega (arith, a, e)) i.1, less, m))
            ]
          ] in
          both_ways (side comps k j y) away (sym (in_group-link g comps split k j y (node_item nodes k p).what w)
          ∙ subst (λ z. has_in_group comps k y (node_item nodes k z).what ≡ true) (first i.0 earlier) i.2))

  -- so it has two
  pub two-items : (k p j : ℕ) → k < length nodes → p < length (node_at nodes k).items → (node_item nodes k p).what ≡ Link j → 1 < length (node_at nodes k).items
  two-items k p j d l w = let o = other-item k p j d l w in elim (cases_lt 1 (length (node_at nodes k).items)) [
    | inl a ↦ a
    | inr a ↦ absurd (o.2 (both o.0 p (length (node_at nodes k).items) o.1 l a))
  ]
    where
      both : (x y n : ℕ) → x < n → y < n → n ≤ 1 → x ≡ y
      both x y n a b c = omega (arith, a, b, c)

  -- where a link leads is a node
  pub link-node : (k p j : ℕ) → p < length (node_at nodes k).items → (node_item nodes k p).what ≡ Link j → j < length nodes
  link-node k p j l w = node-in g nodes t j (link-in comps split.linked k j (p, stands-of g nodes t k p (Link j) l w))

  -- the link back has the second key behind a first link, and the first key behind others
  pub back-found : (k p j key : ℕ) (items : List Item) → k < length nodes → p < length (node_at nodes k).items → (node_item nodes k p).what ≡ Link j → items ≡ (node_at nodes k).items
      → ((p ≡ 0) × (key ≡ (nth_item items 1).key)) ⊎ ((p ≢ 0) × (key ≡ (nth_item items 0).key))
      → (b : ℕ) × (b < length (node_at nodes j).items) × ((node_item nodes j b).what ≡ Link k) × ((node_item nodes j b).key ≡ key)
  back-found k p j key items d l w e cases =
      let b = far-item g nodes t k p j l w in (
        b.0,
        b.1,
        b.2,
        elim cases [
          | inl a ↦ back-key k p j b.0 1 d l w b.1 b.2 (two-items k p j d l w) (λ q. absurd (omega (arith, q, a.0))) (λ i m. omega (arith, m, a.0)) ∙ sym (a.1 ∙ ap (λ (z : List Item). (nth_item z 1).key) e)
          | inr a ↦ back-key k p j b.0 0 d l w b.1 b.2 (omega (arith, l)) (λ q. a.0 (sym q)) (λ i m. absurd (omega (arith, m))) ∙ sym (a.1 ∙ ap (λ (z : List Item). (nth_item z 0).key) e)
        ],
      )
