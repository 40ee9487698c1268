-- A rotation system on the blocks of its graph.
use Rattle.std.specs.Prelude.{ℕ, ◌<◌, List, [], ◌∷◌, slice_index}
use Rattle.permutations.specs.Cyclic.{FollowsAround}
use Rattle.multigraph.specs.Graph.{Multigraph}
use Rattle.multigraph.specs.Part.{GraphPart}
use Rattle.rotations.specs.Rotation.{order_at, IsRotationSystem}
use Rattle.graph_theory.specs.Block.{SameBlock}
use Rattle.faces.specs.Euler.{IsPlane}
use Rattle.faces.specs.Subgraph.{IsRestriction}

-- blocks cross nowhere: where two edges of one block alternate around a vertex with two edges of one block, all four are of
-- the same block
abbrev pub NoBlocksCross : Multigraph → List (List ℕ) → Type 0
NoBlocksCross g r = (v a b c d : ℕ) → v < g.vertex_count → FollowsAround (order_at r v) (a ∷ b ∷ c ∷ d ∷ []) → SameBlock g a c → SameBlock g b d → SameBlock g a b

-- the rotation system r of a graph is plane on a part of the graph: its restriction to the part is plane
abbrev pub IsPlaneOn : GraphPart → List (List ℕ) → Type 0
IsPlaneOn part r = (inner : List (List ℕ)) → IsRotationSystem part.graph inner → IsRestriction part.graph (slice_index part.edges) (slice_index part.vertices) r inner → IsPlane part.graph inner
