-- The items of a node of the tree: each edge is in the group of one, told by its key, and at a vertex of the node just the
-- items with that end have edges. (Lemmas on trees alone: they belong to pair_split.)
use Rattle.std.proofs.Common.{◌≡◌, ◌≢◌, ℕ, zero, suc, ◌<◌, ◌≤◌, inl, inr, Bool, true, false, cond, List, [], ◌∷◌, length, map, filter, slice_index_or, refl, sym, ap, ◌∙◌, subst, arith}
use Rattle.std.proofs.lemmas.Bool.{cases_Bool, cases_eq, both_ways, true≢false, cases_lt, or_left, or_right, false_from_ne_true}
use Rattle.std.proofs.lemmas.List.{get_or-map, length-map}
use Rattle.permutations.specs.Members.{is_member, is_distinct}
use Rattle.permutations.proofs.Members.{member-head, member-tail, member-cases, distinct-cons}
use Rattle.permutations.proofs.Filter.{filter-yes, filter-no}
use Rattle.multigraph.specs.Graph.{Multigraph, edge_count, is_end}
use Rattle.multigraph.specs.Part.{Rises}
use Rattle.multigraph.proofs.Places.{rises-once}
use Rattle.pair_split.specs.Skeleton.{is_end_of, is_vertex}
use Rattle.pair_split.specs.Split.{items_of, item_at, piece_ends, StandsFor, side, IsSplit}
use Rattle.pair_split.specs.Tutte.{Node, piece_of, components, node_at, node_item, has_in_group, first_key, group, IsTutte}
use Rattle.pair_split.specs.declared.components.Comp.{Comp}
use Rattle.pair_split.specs.declared.components.Item.{Item}
use Rattle.pair_split.specs.declared.components.Piece.{Piece}
use Rattle.pair_split.specs.declared.components.What.{What}
use Rattle.pair_split.specs.declared.components.What.TheVariants.{Real, Link}
use Rattle.pair_split.proofs.Groups.{group-some, group-once, group-common, Touched, end-touched, in_group-link}
use Rattle.pair_split.proofs.LargeSides.{vertex-item}
use Rattle.pair_split.proofs.NodeParts.{node-pieces, node-piece}
pub use Rattle.skeletons.specs.Items.{nth_item}
use Rattle.skeletons.specs.Items.{ends_item, item_key, keys_at, has_vertex}

-- an item without meaning, for places past the end
abbrev pub no_item : Item
no_item = record { key = 0; a = 0; b = 0; what = Real 0 }

-- the first key is that of an item that passes, where all that pass have this key
pub first_key-is : (passes : What → Bool) (items : List Item) (key : ℕ) → ((i : ℕ) → i < length items → passes (nth_item items i).what ≡ true → (nth_item items i).key ≡ key)
    → (i : ℕ) → i < length items → passes (nth_item items i).what ≡ true → first_key passes items ≡ key
first_key-is passes [] key all i l h = absurd (omega (arith, l))
first_key-is passes (item ∷ items) key all i l h = elim (cases_Bool (passes item.what)) [
  | inl y ↦ ap (λ (b : Bool). cond b item.key (first_key passes items)) y ∙ all 0 (omega arith) y
  | inr n ↦ ap (λ (b : Bool). cond b item.key (first_key passes items)) n ∙ later (λ x m k. first_key-is passes items key (λ y b z. all (suc y) (omega (arith, b)) z) x m k) i l h n
]
  where
    later : ((x : ℕ) → x < length items → passes (nth_item items x).what ≡ true → first_key passes items ≡ key) → (i : ℕ) → i < length (item ∷ items) → passes (nth_item (item ∷ items) i).what ≡ true → passes item.what ≡ false → first_key passes items ≡ key
    later next zero l h n = absurd (both_ways (passes item.what) n h)
    later next (suc i) l h n = next i (omega (arith, l)) h

-- an item with the end v has its key among the keys at v
pub key-at_from : (v : ℕ) (items : List Item) (i : ℕ) → i < length items → ends_item v (nth_item items i) ≡ true → is_member (nth_item items i).key (map item_key (filter (ends_item v) items)) ≡ true
key-at_from v [] i l h = absurd (omega (arith, l))
key-at_from v (item ∷ items) zero l h = ap (λ (z : List Item). is_member item.key (map item_key z)) (filter-yes (ends_item v) item items h) ∙ member-head item.key (map item_key (filter (ends_item v) items))
key-at_from v (item ∷ items) (suc i) l h =
    let m : is_member (nth_item items i).key (map item_key (filter (ends_item v) items)) ≡ true = key-at_from v items i (omega (arith, l)) h in
    elim (cases_Bool (ends_item v item)) [
      | inl y ↦ ap (λ (z : List Item). is_member (nth_item items i).key (map item_key z)) (filter-yes (ends_item v) item items y) ∙ member-tail (nth_item items i).key item.key (map item_key (filter (ends_item v) items)) m
      | inr n ↦ ap (λ (z : List Item). is_member (nth_item items i).key (map item_key z)) (filter-no (ends_item v) item items n) ∙ m
    ]

-- each key at v is that of an item with the end v
pub key-at_item : (v key : ℕ) (items : List Item) → is_member key (map item_key (filter (ends_item v) items)) ≡ true → (i : ℕ) × (i < length items) × (ends_item v (nth_item items i) ≡ true) × ((nth_item items i).key ≡ key)
key-at_item v key [] m = absurd (true≢false (sym m))
key-at_item v key (item ∷ items) m = elim (cases_Bool (ends_item v item)) [
  | inl y ↦ elim (member-cases key item.key (map item_key (filter (ends_item v) items)) (sym (ap (λ (z : List Item). is_member key (map item_key z)) (filter-yes (ends_item v) item items y)) ∙ m)) [
    | inl e ↦ (0, omega arith, y, e)
    | inr n ↦ let w = key-at_item v key items n in (suc w.0, omega (arith, w.1), w.2, w.3)
  ]
  | inr n ↦ let w = key-at_item v key items (sym (ap (λ (z : List Item). is_member key (map item_key z)) (filter-no (ends_item v) item items n)) ∙ m) in (suc w.0, omega (arith, w.1), w.2, w.3)
]

-- the keys at v come once where the keys of all items do
pub keys-at_once : (v : ℕ) (items : List Item) → ((i h : ℕ) → i < length items → h < length items → (nth_item items i).key ≡ (nth_item items h).key → i ≡ h) → is_distinct (map item_key (filter (ends_item v) items)) ≡ true
keys-at_once v [] once = refl
keys-at_once v (item ∷ items) once =
    let rest : is_distinct (map item_key (filter (ends_item v) items)) ≡ true = keys-at_once v items (λ i h l b e. let q : suc i ≡ suc h = once (suc i) (suc h) (omega (arith, l)) (omega (arith, b)) e in omega (arith, q)) in
    elim (cases_Bool (ends_item v item)) [
      | inl y ↦ ap (λ (z : List Item). is_distinct (map item_key z)) (filter-yes (ends_item v) item items y)
          ∙ distinct-cons item.key (map item_key (filter (ends_item v) items)) (false_from_ne_true (is_member item.key (map item_key (filter (ends_item v) items)))
          (λ m. let w = key-at_item v item.key items m in let q : 0 ≡ suc w.0 = once 0 (suc w.0) (omega arith) (omega (arith, w.1)) (sym w.3) in omega (arith, q))) rest
      | inr n ↦ ap (λ (z : List Item). is_distinct (map item_key z)) (filter-no (ends_item v) item items n) ∙ rest
    ]

-- an item with the end v makes it a vertex
pub end-vertex : (pieces : List Piece) (v i : ℕ) → i < length pieces → is_end_of v (piece_ends (slice_index_or pieces i (record { a = 0; b = 0; what = Real 0 }))) ≡ true → is_vertex (map piece_ends pieces) v ≡ true
end-vertex [] v i l h = absurd (omega (arith, l))
end-vertex (piece ∷ pieces) v zero l h = or_left (is_end_of v (piece_ends piece)) (is_vertex (map piece_ends pieces) v) h
end-vertex (piece ∷ pieces) v (suc i) l h = or_right (is_end_of v (piece_ends piece)) (is_vertex (map piece_ends pieces) v) (end-vertex pieces v i (omega (arith, l)) h)

-- items whose keys rise are told by their keys
items-once : (items : List Item) → Rises (map item_key items) → (i h : ℕ) → i < length items → h < length items → (nth_item items i).key ≡ (nth_item items h).key → i ≡ h
items-once items r i h l b e = rises-once (map item_key items) r i h (in_range i l) (in_range h b) (at i l ∙ e ∙ sym (at h b))
  where
    in_range : (i : ℕ) → i < length items → i < length (map item_key items)
    in_range i l = subst (λ n. i < n) (sym (length-map items item_key)) l

    at : (i : ℕ) → i < length items → slice_index_or (map item_key items) i 0 ≡ (nth_item items i).key
    at i l = get_or-map item_key items i no_item 0 l

-- no node stands beyond the last one
no-items : (nodes : List Node) (k i : ℕ) → length nodes ≤ k → i < length (node_at nodes k).items → ⊥
no-items [] k i n l = omega (arith, l)
no-items (node ∷ nodes) zero i n l = omega (arith, n)
no-items (node ∷ nodes) (suc k) i n l = no-items nodes k i (omega (arith, n)) l

-- what stands in no component has no vertex
no-vertex : (nodes : List Node) (k v : ℕ) → has_vertex nodes k v ≡ true → k < length nodes
no-vertex [] k v h = absurd (true≢false (sym h))
no-vertex (node ∷ nodes) zero v h = omega arith
no-vertex (node ∷ nodes) (suc k) v h = let l : k < length nodes = no-vertex nodes k v h in omega (arith, l)

-- a node with a vertex is one of the nodes
pub vertex-node : (nodes : List Node) (k v : ℕ) → has_vertex nodes k v ≡ true → k < length nodes
vertex-node = no-vertex

module _ (g : Multigraph) (nodes : List Node) (t : IsTutte g nodes) where
  abbrev comps : List Comp
  comps = components nodes

  abbrev split : IsSplit g comps
  split = t.split

  pub number : length comps ≡ length nodes
  number = length-map nodes (λ (node : Node). as_component node)
    where
      as_component : Node → Comp
      as_component node = record { kind = node.kind; items = map piece_of node.items }

  pub node-in : (x : ℕ) → x < length comps → x < length nodes
  node-in x l = subst (λ z. x < z) number l

  pub comp-in : (x : ℕ) → x < length nodes → x < length comps
  comp-in x l = subst (λ z. x < z) (sym number) l

  -- the items of a node as pieces
  pieces-number : (k : ℕ) → length (items_of comps k) ≡ length (node_at nodes k).items
  pieces-number k = ap length (node-pieces nodes k) ∙ length-map (node_at nodes k).items piece_of

  pub piece-in : (k i : ℕ) → i < length (node_at nodes k).items → i < length (items_of comps k)
  piece-in k i l = subst (λ z. i < z) (sym (pieces-number k)) l

  pub item-in : (k i : ℕ) → i < length (items_of comps k) → i < length (node_at nodes k).items
  item-in k i l = subst (λ z. i < z) (pieces-number k) l

  pub what-at : (k i : ℕ) → i < length (node_at nodes k).items → (item_at comps k i).what ≡ (node_item nodes k i).what
  what-at k i l = ap (λ (p : Piece). p.what) (node-piece nodes k i l)

  pub ends-at : (k i v : ℕ) → i < length (node_at nodes k).items → is_end_of v (piece_ends (item_at comps k i)) ≡ ends_item v (node_item nodes k i)
  ends-at k i v l = ap (λ (p : Piece). is_end_of v (piece_ends p)) (node-piece nodes k i l)

  pub stands-of : (k i : ℕ) (what : What) → i < length (node_at nodes k).items → (node_item nodes k i).what ≡ what → StandsFor comps k i what
  stands-of k i what l e = (piece-in k i l, what-at k i l ∙ e)

  pub item-of : (k i : ℕ) (what : What) → StandsFor comps k i what → (i < length (node_at nodes k).items) × ((node_item nodes k i).what ≡ what)
  item-of k i what s = let l : i < length (node_at nodes k).items = item-in k i s.0 in (l, sym (what-at k i l) ∙ s.1)

  -- items of a node with one key are one
  pub keys-once : (k i h : ℕ) → i < length (node_at nodes k).items → h < length (node_at nodes k).items → (node_item nodes k i).key ≡ (node_item nodes k h).key → i ≡ h
  keys-once k i h l b e = elim (cases_lt k (length nodes)) [
    | inl y ↦ items-once (node_at nodes k).items (t.in_order.keys_rise k y) i h l b e
    | inr n ↦ absurd (no-items nodes k i n l)
  ]

  -- the key of the item that has e in its group
  pub group-is : (k i e : ℕ) → i < length (node_at nodes k).items → e < edge_count g → has_in_group comps k e (node_item nodes k i).what ≡ true → group nodes k e ≡ (node_item nodes k i).key
  group-is k i e l b h = first_key-is (has_in_group comps k e) (node_at nodes k).items (node_item nodes k i).key
      (λ x m y. ap (λ z. (node_item nodes k z).key) (group-once g comps split k e x i (piece-in k x m) (piece-in k i l) b (ap (has_in_group comps k e) (what-at k x m) ∙ y) (ap (has_in_group comps k e) (what-at k i l) ∙ h)))
      i l h

  -- each edge is in the group of an item
  pub edge-item : (k e : ℕ) → k < length nodes → e < edge_count g → (i : ℕ) × (i < length (node_at nodes k).items) × (has_in_group comps k e (node_item nodes k i).what ≡ true)
  edge-item k e l b =
      let w = group-some g comps split k e (comp-in k l) b in
      let m : w.0 < length (node_at nodes k).items = item-in k w.0 w.1 in
      (w.0, m, sym (ap (has_in_group comps k e) (what-at k w.0 m)) ∙ w.2)

  -- the edge is in the group of the item with its key
  pub group-item : (k i e : ℕ) → k < length nodes → i < length (node_at nodes k).items → e < edge_count g → group nodes k e ≡ (node_item nodes k i).key → has_in_group comps k e (node_item nodes k i).what ≡ true
  group-item k i e d l b q =
      let w = edge-item k e d b in
      let same : w.0 ≡ i = keys-once k w.0 i w.1 l (sym (group-is k w.0 e w.1 b w.2) ∙ q) in
      subst (λ z. has_in_group comps k e (node_item nodes k z).what ≡ true) same w.2

  -- a vertex of a node is an end of one of its items
  pub vertex-end : (k v : ℕ) → has_vertex nodes k v ≡ true → (i : ℕ) × (i < length (node_at nodes k).items) × (ends_item v (node_item nodes k i) ≡ true)
  vertex-end k v h =
      let w = vertex-item (items_of comps k) v (sym (t.in_order.vertices k v (vertex-node nodes k v h)) ∙ h) in
      let m : w.0 < length (node_at nodes k).items = item-in k w.0 w.1 in
      (w.0, m, sym (ends-at k w.0 v m) ∙ w.2)

  -- an end of an item is a vertex of the node
  pub item-vertex : (k v i : ℕ) → k < length nodes → i < length (node_at nodes k).items → ends_item v (node_item nodes k i) ≡ true → has_vertex nodes k v ≡ true
  item-vertex k v i d l h = t.in_order.vertices k v d ∙ end-vertex (items_of comps k) v i (piece-in k i l) (ends-at k i v l ∙ h)

  -- each end of an item has an edge in its group
  pub item-edge : (k v i : ℕ) → i < length (node_at nodes k).items → ends_item v (node_item nodes k i) ≡ true → (e : ℕ) × (e < edge_count g) × (is_end g v e ≡ true) × (has_in_group comps k e (node_item nodes k i).what ≡ true)
  item-edge k v i l h =
      let w : Touched g comps split k i v = end-touched g comps split k i v (piece-in k i l) (ends-at k i v l ∙ h) in
      (w.edge, w.edge_in, w.end, sym (ap (has_in_group comps k w.edge) (what-at k i l)) ∙ w.in_group)

  -- an item with an edge at a vertex of the node in its group has the vertex as an end
  pub edge-end : (k v i e : ℕ) → has_vertex nodes k v ≡ true → i < length (node_at nodes k).items → e < edge_count g → is_end g v e ≡ true → has_in_group comps k e (node_item nodes k i).what ≡ true → ends_item v (node_item nodes k i) ≡ true
  edge-end k v i e h l b x y =
      let w = vertex-end k v h in
      elim (cases_eq i w.0) [
        | inl q ↦ subst (λ z. ends_item v (node_item nodes k z) ≡ true) (sym q) w.2
        | inr n ↦
            let f = item-edge k v w.0 w.1 w.2 in
            sym (ends-at k i v l) ∙ group-common g comps split k i w.0 e f.0 v (piece-in k i l) (piece-in k w.0 w.1) n b f.1
            (ap (has_in_group comps k e) (what-at k i l) ∙ y) (ap (has_in_group comps k f.0) (what-at k w.0 w.1) ∙ f.3) x f.2
      ]

  -- the group of an edge at a vertex of the node is that of an item with this end
  pub group-at : (k v e : ℕ) → has_vertex nodes k v ≡ true → e < edge_count g → is_end g v e ≡ true → is_member (group nodes k e) (keys_at nodes k v) ≡ true
  group-at k v e h b x =
      let w = edge-item k e (vertex-node nodes k v h) b in
      subst (λ z. is_member z (keys_at nodes k v) ≡ true) (sym (group-is k w.0 e w.1 b w.2))
      (key-at_from v (node_at nodes k).items w.0 w.1 (edge-end k v w.0 e h w.1 b x w.2))

  -- each item with this end has an edge there in its group
  pub key-edge : (k v key : ℕ) → is_member key (keys_at nodes k v) ≡ true → (e : ℕ) × (e < edge_count g) × (is_end g v e ≡ true) × (group nodes k e ≡ key)
  key-edge k v key m =
      let w = key-at_item v key (node_at nodes k).items m in
      let e = item-edge k v w.0 w.1 w.2 in
      (e.0, e.1, e.2, group-is k w.0 e.0 w.1 e.1 e.3 ∙ w.3)

  -- the keys at a vertex differ
  pub keys-at_distinct : (k v : ℕ) → is_distinct (keys_at nodes k v) ≡ true
  keys-at_distinct k v = keys-at_once v (node_at nodes k).items (keys-once k)

  -- at each vertex of a node there is an edge outside the group of a link
  pub outside-edge : (k p h v : ℕ) → p < length (node_at nodes k).items → (node_item nodes k p).what ≡ Link h → has_vertex nodes k v ≡ true → (e : ℕ) × (e < edge_count g) × (is_end g v e ≡ true) × (group nodes k e ≢ (node_item nodes k p).key)
  outside-edge k p h v l q x =
      let w = vertex-end k v x in
      elim (cases_eq w.0 p) [
        | inl s ↦
            let c = (split.sides_meet k h p (stands-of k p (Link h) l q) v).1 (ends-at k p v l ∙ subst (λ z. ends_item v (node_item nodes k z) ≡ true) s w.2) in (
              c.outside,
              c.outside_edge,
              c.outside_end,
              λ r. both_ways (side comps k h c.outside) c.outside_side
                  (sym (in_group-link g comps split k h c.outside (node_item nodes k p).what q) ∙ group-item k p c.outside (vertex-node nodes k v x) l c.outside_edge r),
            )
        | inr n ↦
            let f = item-edge k v w.0 w.1 w.2 in
            (f.0, f.1, f.2, λ r. n (keys-once k w.0 p w.1 l (sym (group-is k w.0 f.0 w.1 f.1 f.3) ∙ r)))
      ]
