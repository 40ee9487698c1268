-- The vertices of a node: its least vertex is one, and a bond has two, at which all its items stand.
use Rattle.std.proofs.Common.{◌≡◌, ◌≢◌, ℕ, zero, suc, ◌<◌, ◌⊎◌, ◌==◌, inl, inr, true, List, [], ◌∷◌, length, map, reverse, refl, sym, ap, ◌∙◌, subst, arith}
use Rattle.std.proofs.lemmas.Bool.{both_ways, true≢false, or_cases, or_left, or_right, eq-eqb, eqb-true}
use Rattle.std.proofs.lemmas.List.{get_or-map, length-map, reverse-append}
use Rattle.std.proofs.lemmas.List.Elements.{All-get_or}
use Rattle.permutations.specs.Cyclic.{first_or, last_or}
use Rattle.permutations.specs.Members.{is_member, is_distinct}
use Rattle.permutations.proofs.Members.{member-head, member-tail, member-cases, member-reverse, distinct-head}
use Rattle.permutations.proofs.Relation.{same-tests}
use Rattle.permutations.proofs.Successor.{first_or-append}
use Rattle.permutations.proofs.Places.{told-distinct}
use Rattle.multigraph.specs.Graph.{Multigraph}
use Rattle.multigraph.proofs.OtherEnd.{end-in}
use Rattle.multigraph.proofs.Places.{rises-once}
use Rattle.pair_split.specs.Skeleton.{is_end_of, SameEnds, IsBond, IsOfKind}
use Rattle.pair_split.specs.Split.{items_of, item_at, piece_ends, skeleton}
use Rattle.pair_split.specs.Tutte.{Node, components, node_at, node_item, IsTutte}
use Rattle.pair_split.specs.declared.components.Kind.{Kind}
use Rattle.pair_split.specs.declared.components.Kind.TheVariants.{P}
use Rattle.pair_split.specs.declared.components.What.TheVariants.{Real}
use Rattle.pair_split.specs.declared.components.Item.{Item}
use Rattle.pair_split.proofs.NodeParts.{node-kind}
use Rattle.skeletons.specs.Items.{item_key, keys_at, node_keys, has_vertex, least_vertex, greatest_vertex, IsBlockTree}
use Rattle.skeletons.specs.Moves.{IsNodeOfKind}
use Rattle.skeletons.proofs.NodeItems.{nth_item, key-at_from, key-at_item, comp-in, piece-in, ends-at, edge-item, vertex-end, item-vertex, item-edge}

-- a list that has a member begins with one, and ends with one
pub first-member : (l : List ℕ) (x : ℕ) → is_member x l ≡ true → is_member (first_or 0 l) l ≡ true
first-member [] x m = absurd (true≢false (sym m))
first-member (y ∷ l) x m = member-head y l

last-member : (l : List ℕ) (x : ℕ) → is_member x l ≡ true → is_member (last_or 0 l) l ≡ true
last-member l x m = sym (member-reverse (last_or 0 l) l) ∙ first-member (reverse l) x (member-reverse x l ∙ m)

-- where the first is the last there is one only
one-member : (l : List ℕ) (x y : ℕ) → is_distinct l ≡ true → first_or 0 l ≡ last_or 0 l → is_member x l ≡ true → is_member y l ≡ true → x ≡ y
one-member [] x y d e m n = absurd (true≢false (sym m))
one-member (z ∷ []) x y d e m n = sym (only x m) ∙ only y n
  where
    only : (x : ℕ) → is_member x (z ∷ []) ≡ true → z ≡ x
    only x m = elim (member-cases x z [] m) [ inl q ↦ q | inr n ↦ absurd (true≢false (sym n)) ]
one-member (z ∷ w ∷ l) x y d e m n = absurd (both_ways (is_member z (w ∷ l)) (distinct-head z (w ∷ l) d) (subst (λ u. is_member u (w ∷ l) ≡ true) (sym same) (sym (member-reverse (first_or z (reverse (w ∷ l))) (w ∷ l)) ∙ inside (reverse (w ∷ l)) (member-reverse w (w ∷ l) ∙ member-head w l))))
  where
    same : z ≡ first_or z (reverse (w ∷ l))
    same = e ∙ ap (first_or 0) (reverse-append (z ∷ []) (w ∷ l)) ∙ first_or-append 0 (reverse (w ∷ l)) (z ∷ [])

    inside : (v : List ℕ) → is_member w v ≡ true → is_member (first_or z v) v ≡ true
    inside [] m = absurd (true≢false (sym m))
    inside (u ∷ v) m = member-head u v

-- of two values three that are among them, two of which differ: the third is one of these
among-two : (p q x y v : ℕ) → (x ≡ p) ⊎ (x ≡ q) → (y ≡ p) ⊎ (y ≡ q) → (v ≡ p) ⊎ (v ≡ q) → x ≢ y → (v ≡ x) ⊎ (v ≡ y)
among-two p q x y v a b c n = elim a [
  | inl e ↦ elim b [
    | inl f ↦ absurd (n (e ∙ sym f))
    | inr f ↦ elim c [ inl h ↦ inl (h ∙ sym e) | inr h ↦ inr (h ∙ sym f) ]
  ]
  | inr e ↦ elim b [
    | inl f ↦ elim c [ inl h ↦ inr (h ∙ sym f) | inr h ↦ inl (h ∙ sym e) ]
    | inr f ↦ absurd (n (e ∙ sym f))
  ]
]

-- an end of a pair with the same ends is one of the two
pole-of : (p ends : ℕ × ℕ) (v : ℕ) → SameEnds p ends → is_end_of v ends ≡ true → (v ≡ p.0) ⊎ (v ≡ p.1)
pole-of p ends v s h = elim (or_cases (ends.0 == v) (ends.1 == v) h) [
  | inl a ↦ elim s [ inl e ↦ inl (sym (e.0 ∙ eqb-true ends.0 v a)) | inr e ↦ inr (sym (e.1 ∙ eqb-true ends.0 v a)) ]
  | inr a ↦ elim s [ inl e ↦ inr (sym (e.1 ∙ eqb-true ends.1 v a)) | inr e ↦ inl (sym (e.0 ∙ eqb-true ends.1 v a)) ]
]

end-pole : (p ends : ℕ × ℕ) (v : ℕ) → SameEnds p ends → (v ≡ p.0) ⊎ (v ≡ p.1) → is_end_of v ends ≡ true
end-pole p ends v s c = elim s [
  | inl e ↦ elim c [ inl h ↦ or_left (ends.0 == v) (ends.1 == v) (eq-eqb ends.0 v (sym (h ∙ e.0))) | inr h ↦ or_right (ends.0 == v) (ends.1 == v) (eq-eqb ends.1 v (sym (h ∙ e.1))) ]
  | inr e ↦ elim c [ inl h ↦ or_right (ends.0 == v) (ends.1 == v) (eq-eqb ends.1 v (sym (h ∙ e.0))) | inr h ↦ or_left (ends.0 == v) (ends.1 == v) (eq-eqb ends.0 v (sym (h ∙ e.1))) ]
]

module _ (g : Multigraph) (nodes : List Node) (b : IsBlockTree g nodes) where
  abbrev t : IsTutte g nodes
  t = b.tree

  -- a vertex of a node is one of the graph
  pub vertex-in : (k v : ℕ) → has_vertex nodes k v ≡ true → v < g.vertex_count
  vertex-in k v h =
      let w = vertex-end g nodes t k v h in
      let e = item-edge g nodes t k v w.0 w.1 w.2 in
      end-in g v e.0 b.graph e.1 e.2

  -- a node has an item, and so a vertex
  pub some-vertex : (k : ℕ) → k < length nodes → (v : ℕ) × (has_vertex nodes k v ≡ true)
  some-vertex k l =
      let w = edge-item g nodes t k 0 l b.block.has_edge in
      let item = node_item nodes k w.0 in
      (item.a, item-vertex g nodes t k item.a w.0 l w.1 (or_left (item.a == item.a) (item.b == item.a) (eq-eqb item.a item.a refl)))

  pub least-has : (k : ℕ) → k < length nodes → has_vertex nodes k (least_vertex nodes k) ≡ true
  least-has k l = let w = some-vertex k l in first-member (node_at nodes k).vertices w.0 w.1

  pub greatest-has : (k : ℕ) → k < length nodes → has_vertex nodes k (greatest_vertex nodes k) ≡ true
  greatest-has k l = let w = some-vertex k l in last-member (node_at nodes k).vertices w.0 w.1

  -- the vertices come once
  pub vertices-once : (k : ℕ) → k < length nodes → is_distinct (node_at nodes k).vertices ≡ true
  vertices-once k l = told-distinct (node_at nodes k).vertices (rises-once (node_at nodes k).vertices (t.in_order.vertices_rise k l))

  module _ (k : ℕ) (is : IsNodeOfKind nodes k P) where
    bond : IsBond (skeleton (components nodes) k)
    bond = subst (λ (kind : Kind). IsOfKind kind (skeleton (components nodes) k)) (node-kind nodes k ∙ is.1) ((t.split.of_kind.kinds k (comp-in g nodes t k is.0)).of_kind)

    -- the two poles of an item of the bond
    item-poles : (i : ℕ) → i < length (node_at nodes k).items → SameEnds bond.two.poles (piece_ends (item_at (components nodes) k i))
    item-poles i l =
        let m : i < length (items_of (components nodes) k) = piece-in g nodes t k i l in
        subst (SameEnds bond.two.poles) (get_or-map piece_ends (items_of (components nodes) k) i (record { a = 0; b = 0; what = Real 0 }) (0, 0) m)
        (All-get_or (SameEnds bond.two.poles) (skeleton (components nodes) k) i (0, 0) (subst (λ n. i < n) (sym (length-map (items_of (components nodes) k) piece_ends)) m) bond.two.joined)

    is-pole : (v : ℕ) → has_vertex nodes k v ≡ true → (v ≡ bond.two.poles.0) ⊎ (v ≡ bond.two.poles.1)
    is-pole v h = let w = vertex-end g nodes t k v h in pole-of bond.two.poles (piece_ends (item_at (components nodes) k w.0)) v (item-poles w.0 w.1) (ends-at g nodes t k w.0 v w.1 ∙ w.2)

    pole-has : (v : ℕ) → (v ≡ bond.two.poles.0) ⊎ (v ≡ bond.two.poles.1) → has_vertex nodes k v ≡ true
    pole-has v c =
        let w = edge-item g nodes t k 0 is.0 b.block.has_edge in
        item-vertex g nodes t k v w.0 is.0 w.1 (sym (ends-at g nodes t k w.0 v w.1) ∙ end-pole bond.two.poles (piece_ends (item_at (components nodes) k w.0)) v (item-poles w.0 w.1) c)

    -- the least and the greatest vertex of a bond differ
    pub poles-differ : least_vertex nodes k ≢ greatest_vertex nodes k
    poles-differ e = bond.two.differ (one-member (node_at nodes k).vertices bond.two.poles.0 bond.two.poles.1 (vertices-once k is.0) e (pole-has bond.two.poles.0 (inl refl)) (pole-has bond.two.poles.1 (inr refl)))

    -- it has no others
    pub bond-vertex : (v : ℕ) → has_vertex nodes k v ≡ true → (v ≡ least_vertex nodes k) ⊎ (v ≡ greatest_vertex nodes k)
    bond-vertex v h = among-two bond.two.poles.0 bond.two.poles.1 (least_vertex nodes k) (greatest_vertex nodes k) v
        (is-pole (least_vertex nodes k) (least-has k is.0)) (is-pole (greatest_vertex nodes k) (greatest-has k is.0)) (is-pole v h) poles-differ

    -- all items of a bond stand at each of its vertices
    pub bond-keys : (v x : ℕ) → has_vertex nodes k v ≡ true → is_member x (keys_at nodes k v) ≡ is_member x (node_keys nodes k)
    bond-keys v x h = same-tests (is_member x (keys_at nodes k v)) (is_member x (node_keys nodes k))
        (λ m. let w = key-at_item v x (node_at nodes k).items m in subst (λ z. is_member z (node_keys nodes k) ≡ true) w.3 (key-of_item (node_at nodes k).items w.0 w.1))
        (λ m. let w = item-of_key (node_at nodes k).items m in subst (λ z. is_member z (keys_at nodes k v) ≡ true) w.2 (key-at_from v (node_at nodes k).items w.0 w.1
        (sym (ends-at g nodes t k w.0 v w.1) ∙ end-pole bond.two.poles (piece_ends (item_at (components nodes) k w.0)) v (item-poles w.0 w.1) (is-pole v h))))
      where
        key-of_item : (items : List Item) (i : ℕ) → i < length items → is_member (nth_item items i).key (map item_key items) ≡ true
        key-of_item [] i l = absurd (omega (arith, l))
        key-of_item (item ∷ items) zero l = member-head item.key (map item_key items)
        key-of_item (item ∷ items) (suc i) l = member-tail (nth_item items i).key item.key (map item_key items) (key-of_item items i (omega (arith, l)))

        item-of_key : (items : List Item) → is_member x (map item_key items) ≡ true → (i : ℕ) × (i < length items) × ((nth_item items i).key ≡ x)
        item-of_key [] m = absurd (true≢false (sym m))
        item-of_key (item ∷ items) m = elim (member-cases x item.key (map item_key items) m) [
          | inl e ↦ (0, omega arith, e)
          | inr n ↦ let w = item-of_key items n in (suc w.0, omega (arith, w.1), w.2)
        ]
