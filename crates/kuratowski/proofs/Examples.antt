-- Two graphs and their own subdivisions: five vertices each two joined, and three joined with three others where a vertex
-- stands on the last edge.
use Rattle.std.proofs.Common.{◌≡◌, ℕ, List, [], ◌∷◌, lit<, refl, arith}
use Rattle.multigraph.specs.Graph.{Multigraph}
use Rattle.kuratowski.specs.declared.subdivision.Pattern.TheVariants.{K5, K33}
use Rattle.kuratowski.specs.Subdivision.{all_inner, pattern_edges, IsWritten}
use Rattle.kuratowski.specs.Reordering.{reordered_paths}
use Rattle.kuratowski.proofs.Checked.{checked}

-- the complete graph on five vertices
abbrev complete : Multigraph
complete = record { vertex_count = 5; ends = (0, 1) ∷ (0, 2) ∷ (0, 3) ∷ (0, 4) ∷ (1, 2) ∷ (1, 3) ∷ (1, 4) ∷ (2, 3) ∷ (2, 4) ∷ (3, 4) ∷ [] }

-- its vertices
abbrev five : List ℕ
five = 0 ∷ 1 ∷ 2 ∷ 3 ∷ 4 ∷ []

-- its edges, each as a path
abbrev edges : List (List ℕ)
edges = (0 ∷ []) ∷ (1 ∷ []) ∷ (2 ∷ []) ∷ (3 ∷ []) ∷ (4 ∷ []) ∷ (5 ∷ []) ∷ (6 ∷ []) ∷ (7 ∷ []) ∷ (8 ∷ []) ∷ (9 ∷ []) ∷ []

-- it is a subdivision of K5
complete-written : IsWritten complete K5 five edges
complete-written = checked complete K5 five edges refl refl refl refl refl

-- with the first two paths exchanged it is none
complete-exchanged : IsWritten complete K5 five ((1 ∷ []) ∷ (0 ∷ []) ∷ (2 ∷ []) ∷ (3 ∷ []) ∷ (4 ∷ []) ∷ (5 ∷ []) ∷ (6 ∷ []) ∷ (7 ∷ []) ∷ (8 ∷ []) ∷ (9 ∷ []) ∷ []) → ⊥
complete-exchanged w = differ 2 (w.subdivision.are_paths 0 (lit< tt)).arrives refl
  where
    differ : (z : ℕ) → z ≡ 1 → z ≡ 2 → ⊥
    differ z a b = absurd (omega arith)

-- three vertices joined with three others, where vertex 6 stands between 2 and 5
abbrev with_vertex : Multigraph
with_vertex = record { vertex_count = 7; ends = (0, 3) ∷ (0, 4) ∷ (0, 5) ∷ (1, 3) ∷ (1, 4) ∷ (1, 5) ∷ (2, 3) ∷ (2, 4) ∷ (2, 6) ∷ (6, 5) ∷ [] }

-- the three and the three others
abbrev six : List ℕ
six = 0 ∷ 1 ∷ 2 ∷ 3 ∷ 4 ∷ 5 ∷ []

-- its paths, the last one over vertex 6
abbrev nine_paths : List (List ℕ)
nine_paths = (0 ∷ []) ∷ (1 ∷ []) ∷ (2 ∷ []) ∷ (3 ∷ []) ∷ (4 ∷ []) ∷ (5 ∷ []) ∷ (6 ∷ []) ∷ (7 ∷ []) ∷ (8 ∷ 9 ∷ []) ∷ []

-- it is a subdivision of K3,3
with_vertex-written : IsWritten with_vertex K33 six nine_paths
with_vertex-written = checked with_vertex K33 six nine_paths refl refl refl refl refl

-- vertex 6 is the only one inside a path
with_vertex-inner : all_inner with_vertex six (pattern_edges K33) nine_paths ≡ 6 ∷ []
with_vertex-inner = refl

-- with the sides exchanged each path is turned round
with_vertex-exchanged : reordered_paths K33 six nine_paths (3 ∷ 4 ∷ 5 ∷ 0 ∷ 1 ∷ 2 ∷ []) ≡ (0 ∷ []) ∷ (3 ∷ []) ∷ (6 ∷ []) ∷ (1 ∷ []) ∷ (4 ∷ []) ∷ (7 ∷ []) ∷ (2 ∷ []) ∷ (5 ∷ []) ∷ (9 ∷ 8 ∷ []) ∷ []
with_vertex-exchanged = refl
