-- The numbers in the nodes of a graph's tree are those of its vertices and edges.
use Rattle.std.proofs.Common.{◌≡◌, ℕ, suc, ◌<◌, ◌==◌, inl, inr, true, List, [], ◌∷◌, length, map, slice_index_or, refl, sym, ◌∙◌, subst, arith, All}
use Rattle.std.proofs.lemmas.Bool.{true≢false, or_cases, or_left, or_right, eq-eqb, eqb-true}
use Rattle.std.proofs.lemmas.List.{get_or_default, length-map}
use Rattle.permutations.proofs.Arrangements.{member-from_contains}
use Rattle.permutations.proofs.Search.{some-from, least-below}
use Rattle.multigraph.specs.Graph.{Multigraph, edge_count, IsGraph}
use Rattle.multigraph.proofs.OtherEnd.{end-in}
use Rattle.pair_split.specs.Skeleton.{is_end_of, is_vertex}
use Rattle.pair_split.specs.Split.{items_of, item_at, piece_ends, skeleton, side}
use Rattle.pair_split.specs.Tutte.{Node, piece_of, components, node_at, node_item, key_of, has_in_group, IsTutte}
use Rattle.pair_split.specs.declared.components.What.{What}
use Rattle.pair_split.specs.declared.components.What.TheVariants.{Real, Link}
use Rattle.pair_split.specs.declared.components.Item.{Item}
use Rattle.pair_split.specs.declared.components.Piece.{Piece}
use Rattle.pair_split.proofs.GraphFamily.{all-from_contained}
use Rattle.pair_split.proofs.Groups.{Touched, end-touched}
use Rattle.pair_split.proofs.NodeParts.{node-pieces, node-piece}

-- a vertex of pieces is an end of one of them
end-of_piece : (pieces : List Piece) (v : ℕ) → is_vertex (map piece_ends pieces) v ≡ true → (i : ℕ) × (i < length pieces) × (is_end_of v (piece_ends (slice_index_or pieces i (record { a = 0; b = 0; what = Real 0 }))) ≡ true)
end-of_piece [] v h = absurd (true≢false (sym h))
end-of_piece (piece ∷ pieces) v h = elim (or_cases (is_end_of v (piece_ends piece)) (is_vertex (map piece_ends pieces) v) h) [
  | inl a ↦ (0, omega arith, a)
  | inr a ↦ let w = end-of_piece pieces v a in (suc w.0, omega (arith, w.1), w.2)
]

-- the key of an item is an edge of the graph, and its ends are vertices
abbrev pub ItemFits : Multigraph → Item → Type 0
ItemFits g item = (item.key < edge_count g) × (item.a < g.vertex_count) × (item.b < g.vertex_count)

module _ (g : Multigraph) (nodes : List Node) (is : IsGraph g) (t : IsTutte g nodes) where
  -- its end is a vertex of the graph
  end-fits : (k i v : ℕ) → i < length (items_of (components nodes) k) → is_end_of v (piece_ends (item_at (components nodes) k i)) ≡ true → v < g.vertex_count
  end-fits k i v l h = let w : Touched g (components nodes) t.split k i v = end-touched g (components nodes) t.split k i v l h in end-in g v w.edge is w.edge_in w.end

  -- the key of what stands for an edge, or for edges among which there is one, is an edge
  key-fits : (k e : ℕ) (what : What) → e < edge_count g → has_in_group (components nodes) k e what ≡ true → key_of g nodes k what < edge_count g
  key-fits k e (Real f) l h = subst (λ (z : ℕ). z < edge_count g) (sym (eqb-true f e h)) l
  key-fits k e (Link j) l h = least-below (edge_count g) (side (components nodes) k j) (some-from (edge_count g) (side (components nodes) k j) e l h)

  -- so are the numbers of item i of node k
  item-fits : (k i : ℕ) → i < length (node_at nodes k).items → ItemFits g (node_item nodes k i)
  item-fits k i l =
      let item = node_item nodes k i in
      let long : i < length (items_of (components nodes) k) = subst (λ (pieces : List Piece). i < length pieces) (sym (node-pieces nodes k)) (rw length-map l) in
      let at : item_at (components nodes) k i ≡ piece_of item = node-piece nodes k i l in
      let first : is_end_of item.a (piece_ends (item_at (components nodes) k i)) ≡ true = subst (λ (p : Piece). is_end_of item.a (piece_ends p) ≡ true) (sym at) (or_left (item.a == item.a) (item.b == item.a) (eq-eqb item.a item.a refl)) in
      let second : is_end_of item.b (piece_ends (item_at (components nodes) k i)) ≡ true = subst (λ (p : Piece). is_end_of item.b (piece_ends p) ≡ true) (sym at) (or_right (item.a == item.b) (item.b == item.b) (eq-eqb item.b item.b refl)) in
      let w : Touched g (components nodes) t.split k i item.a = end-touched g (components nodes) t.split k i item.a long first in
      let inside : has_in_group (components nodes) k w.edge item.what ≡ true = subst (λ (p : Piece). has_in_group (components nodes) k w.edge p.what ≡ true) at w.in_group in
      (subst (λ (z : ℕ). z < edge_count g) (sym (t.in_order.keys k i l)) (key-fits k w.edge item.what w.edge_in inside), end-fits k i item.a long first, end-fits k i item.b long second)

  -- the items of a node have the numbers of edges and vertices
  pub tutte-items : (k : ℕ) → All (ItemFits g) (node_at nodes k).items
  tutte-items k = all-from_contained (ItemFits g) (node_at nodes k).items (λ item c.
      subst (ItemFits g) (get_or_default (node_at nodes k).items c.0 (record { key = 0; a = 0; b = 0; what = Real 0 }) item c.1 ∙ c.2) (item-fits k c.0 c.1))

  -- the vertices of a node are vertices of the graph
  pub tutte-vertices : (k : ℕ) → k < length nodes → All (λ v. v < g.vertex_count) (node_at nodes k).vertices
  tutte-vertices k l = all-from_contained (λ v. v < g.vertex_count) (node_at nodes k).vertices (λ v c.
      let h : is_vertex (skeleton (components nodes) k) v ≡ true = sym (t.in_order.vertices k v l) ∙ member-from_contains (node_at nodes k).vertices v c in
      let w = end-of_piece (items_of (components nodes) k) v h in end-fits k w.0 v w.1 w.2)
