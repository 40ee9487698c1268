-- Three graphs without a plane rotation system, computed: K5, K3,3, and the Petersen graph, which has a subdivision of K3,3.
use Rattle.std.proofs.Common.{◌≡◌, ℕ, ◌<◌, ◌≤◌, true, false, not, ◌&&◌, ◌==◌, ltb, List, [], ◌∷◌, refl, ltb-true}
use Rattle.std.proofs.lemmas.Bool.{and_parts, not-true, not-false, eqb-false}
use Rattle.permutations.specs.Count.{some}
use Rattle.permutations.proofs.Search.{some-none}
use Rattle.multigraph.specs.Graph.{Multigraph, IsGraph, edge_count, ends_of}
use Rattle.rotations.specs.Rotation.{IsRotationSystem}
use Rattle.faces.specs.Euler.{IsPlane}
use Rattle.kuratowski.specs.Subdivision.{branch_count, pattern_edges, IsWritten}
use Rattle.kuratowski.specs.declared.subdivision.Pattern.{Pattern}
use Rattle.kuratowski.specs.declared.subdivision.Pattern.TheVariants.{K5, K33}
use Rattle.kuratowski.proofs.Checked.{checked}
use Rattle.planarity.proofs.SubdivisionExcludes.{subdivision-excludes}

-- a multigraph whose ends pass this test is a graph
graph-computed : (g : Multigraph) → some (edge_count g) (λ e. not ((ltb (ends_of g e).0 g.vertex_count && ltb (ends_of g e).1 g.vertex_count) && not ((ends_of g e).0 == (ends_of g e).1))) ≡ false → IsGraph g
graph-computed g h = record {
  first_in = λ e l. ltb-true (ends_of g e).0 g.vertex_count (ranges e l).0;
  second_in = λ e l. ltb-true (ends_of g e).1 g.vertex_count (ranges e l).1;
  no_loop = λ e l. eqb-false (ends_of g e).0 (ends_of g e).1 (not-true ((ends_of g e).0 == (ends_of g e).1) (each e l).1);
}
  where
    each : (e : ℕ) → e < edge_count g → ((ltb (ends_of g e).0 g.vertex_count && ltb (ends_of g e).1 g.vertex_count) ≡ true) × (not ((ends_of g e).0 == (ends_of g e).1) ≡ true)
    each e l = and_parts (ltb (ends_of g e).0 g.vertex_count && ltb (ends_of g e).1 g.vertex_count) (not ((ends_of g e).0 == (ends_of g e).1))
        (not-false ((ltb (ends_of g e).0 g.vertex_count && ltb (ends_of g e).1 g.vertex_count) && not ((ends_of g e).0 == (ends_of g e).1))
        (some-none (edge_count g) (λ e. not ((ltb (ends_of g e).0 g.vertex_count && ltb (ends_of g e).1 g.vertex_count) && not ((ends_of g e).0 == (ends_of g e).1))) h e l))

    ranges : (e : ℕ) → e < edge_count g → (ltb (ends_of g e).0 g.vertex_count ≡ true) × (ltb (ends_of g e).1 g.vertex_count ≡ true)
    ranges e l = and_parts (ltb (ends_of g e).0 g.vertex_count) (ltb (ends_of g e).1 g.vertex_count) (each e l).0

-- the pattern as a graph
abbrev pattern_graph : Pattern → Multigraph
pattern_graph kind = record { vertex_count = branch_count kind; ends = pattern_edges kind }

-- each pattern is a subdivision of itself, so neither has a plane rotation system
five-written : IsWritten (pattern_graph K5) K5 (0 ∷ 1 ∷ 2 ∷ 3 ∷ 4 ∷ []) ((0 ∷ []) ∷ (1 ∷ []) ∷ (2 ∷ []) ∷ (3 ∷ []) ∷ (4 ∷ []) ∷ (5 ∷ []) ∷ (6 ∷ []) ∷ (7 ∷ []) ∷ (8 ∷ []) ∷ (9 ∷ []) ∷ [])
five-written = checked (pattern_graph K5) K5 (0 ∷ 1 ∷ 2 ∷ 3 ∷ 4 ∷ []) ((0 ∷ []) ∷ (1 ∷ []) ∷ (2 ∷ []) ∷ (3 ∷ []) ∷ (4 ∷ []) ∷ (5 ∷ []) ∷ (6 ∷ []) ∷ (7 ∷ []) ∷ (8 ∷ []) ∷ (9 ∷ []) ∷ []) refl refl refl refl refl

five-not_plane : (r : List (List ℕ)) → IsRotationSystem (pattern_graph K5) r → IsPlane (pattern_graph K5) r → ⊥
five-not_plane r s p = subdivision-excludes (pattern_graph K5) r (graph-computed (pattern_graph K5) refl) s p K5 _ _ five-written.subdivision

six-written : IsWritten (pattern_graph K33) K33 (0 ∷ 1 ∷ 2 ∷ 3 ∷ 4 ∷ 5 ∷ []) ((0 ∷ []) ∷ (1 ∷ []) ∷ (2 ∷ []) ∷ (3 ∷ []) ∷ (4 ∷ []) ∷ (5 ∷ []) ∷ (6 ∷ []) ∷ (7 ∷ []) ∷ (8 ∷ []) ∷ [])
six-written = checked (pattern_graph K33) K33 (0 ∷ 1 ∷ 2 ∷ 3 ∷ 4 ∷ 5 ∷ []) ((0 ∷ []) ∷ (1 ∷ []) ∷ (2 ∷ []) ∷ (3 ∷ []) ∷ (4 ∷ []) ∷ (5 ∷ []) ∷ (6 ∷ []) ∷ (7 ∷ []) ∷ (8 ∷ []) ∷ []) refl refl refl refl refl

six-not_plane : (r : List (List ℕ)) → IsRotationSystem (pattern_graph K33) r → IsPlane (pattern_graph K33) r → ⊥
six-not_plane r s p = subdivision-excludes (pattern_graph K33) r (graph-computed (pattern_graph K33) refl) s p K33 _ _ six-written.subdivision

-- the Petersen graph: the pentagon 0 1 2 3 4, the star 5 7 9 6 8, and an edge from each vertex of the one to one of the other
abbrev petersen : Multigraph
petersen = record {
  vertex_count = 10;
  ends = (0, 1) ∷ (1, 2) ∷ (2, 3) ∷ (3, 4) ∷ (0, 4) ∷ (0, 5) ∷ (1, 6) ∷ (2, 7) ∷ (3, 8) ∷ (4, 9) ∷ (5, 7) ∷ (7, 9) ∷ (6, 9) ∷ (6, 8) ∷ (5, 8) ∷ [];
}

-- the vertices 0, 2, 8 and 1, 3, 5 are branch vertices: 4 lies between 0 and 3, 7 between 2 and 5, 6 between 8 and 1; vertex 9
-- and its three edges are left over
petersen-written : IsWritten petersen K33 (0 ∷ 2 ∷ 8 ∷ 1 ∷ 3 ∷ 5 ∷ []) ((0 ∷ []) ∷ (4 ∷ 3 ∷ []) ∷ (5 ∷ []) ∷ (1 ∷ []) ∷ (2 ∷ []) ∷ (7 ∷ 10 ∷ []) ∷ (13 ∷ 6 ∷ []) ∷ (8 ∷ []) ∷ (14 ∷ []) ∷ [])
petersen-written = checked petersen K33 (0 ∷ 2 ∷ 8 ∷ 1 ∷ 3 ∷ 5 ∷ []) ((0 ∷ []) ∷ (4 ∷ 3 ∷ []) ∷ (5 ∷ []) ∷ (1 ∷ []) ∷ (2 ∷ []) ∷ (7 ∷ 10 ∷ []) ∷ (13 ∷ 6 ∷ []) ∷ (8 ∷ []) ∷ (14 ∷ []) ∷ []) refl refl refl refl refl

petersen-not_plane : (r : List (List ℕ)) → IsRotationSystem petersen r → IsPlane petersen r → ⊥
petersen-not_plane r s p = subdivision-excludes petersen r (graph-computed petersen refl) s p K33 _ _ petersen-written.subdivision
