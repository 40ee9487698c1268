-- Darts of the palm tree in the graph: their edges, and the vertices with the numbers.
use Rattle.std.proofs.Common.{◌≡◌, ℕ, ◌<◌, inl, inr, true, List, length, slice_index, sym, ap, ◌∙◌, subst, arith}
use Rattle.permutations.proofs.Arrangements.{member-at}
use Rattle.multigraph.specs.Graph.{Multigraph, edge_count, is_end, other_end}
use Rattle.multigraph.proofs.OtherEnd.{other_end-is_end, other_end-in}
use Rattle.palm_tree.specs.PalmTree.{PalmTreeLists, IsPalmTree, number_of, darts_of, BeginsAt}
use Rattle.split_comp.specs.Palm.{AreVertices, tree_degree}
use Rattle.split_comp.specs.Pass.{NumberedTree, IsNumbered}

-- an edge that begins at v is one of the graph, and ends at v
pub begins-edge : (g : Multigraph) (t : PalmTreeLists) (v e : ℕ) → BeginsAt g t v e → e < edge_count g
begins-edge g t v e b = elim b [ inl c ↦ c.1.is_edge | inr f ↦ f.is_edge ]

pub begins-end : (g : Multigraph) (t : PalmTreeLists) (v e : ℕ) → BeginsAt g t v e → is_end g v e ≡ true
begins-end g t v e b = elim b [ inl c ↦ subst (λ (z : ℕ). is_end g z e ≡ true) c.2 (other_end-is_end g e c.0) | inr f ↦ f.at_lower ]

module _ (g : Multigraph) (t : NumberedTree) (n : IsNumbered g t) (x : ℕ) (l : x < g.vertex_count) where
  abbrev v : ℕ
  v = slice_index t.vertex x

  pub vertex-in : v < g.vertex_count
  vertex-in = n.vertices.within x l

  pub dart-begins : (k : ℕ) → k < tree_degree t.palm t.vertex x → BeginsAt g t.palm v (slice_index (darts_of t.palm v) k)
  dart-begins k m = (n.palm.darts.begin v (slice_index (darts_of t.palm v) k) vertex-in).0 (member-at (darts_of t.palm v) k 0 m)

  pub dart-in : (k : ℕ) → k < tree_degree t.palm t.vertex x → slice_index (darts_of t.palm v) k < edge_count g
  dart-in k m = begins-edge g t.palm v (slice_index (darts_of t.palm v) k) (dart-begins k m)

  pub dart-end : (k : ℕ) → k < tree_degree t.palm t.vertex x → is_end g v (slice_index (darts_of t.palm v) k) ≡ true
  dart-end k m = begins-end g t.palm v (slice_index (darts_of t.palm v) k) (dart-begins k m)

  pub far-in : (k : ℕ) → k < tree_degree t.palm t.vertex x → other_end g (slice_index (darts_of t.palm v) k) v < g.vertex_count
  far-in k m = other_end-in g (slice_index (darts_of t.palm v) k) v n.graph (dart-in k m)

-- where each vertex below n stands at its number, the vertices stand at their numbers
pub numbers-noted : (g : Multigraph) (t : PalmTreeLists) (vertex : List ℕ) → IsPalmTree g t → length vertex ≡ g.vertex_count → ((v : ℕ) → v < g.vertex_count → slice_index vertex (number_of t v) ≡ v) → AreVertices g.vertex_count t vertex
numbers-noted g t vertex p size h = record {
  places = size;
  within = λ x l. let w = p.numbers.each x l in omega (arith, w.1, ap (slice_index vertex) w.2, h w.0 w.1);
  number = λ x l. let w = p.numbers.each x l in ap (number_of t) (sym (ap (slice_index vertex) w.2) ∙ h w.0 w.1) ∙ w.2;
}
