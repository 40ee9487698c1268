use Rattle.std.proofs.Common.{◌≡◌, ◌<◌, ℕ, List, length}
use Rattle.skeletons.specs.Families.{AreSkeletonSystems, FollowsFamily, skeleton_graph, system_at}
use Rattle.face_weights.specs.Numbers.{NumberFaces, numbers_at}
use Rattle.long_face.proofs.numbers.present_faces.Given as goal

abbrev pub invariant-loop-k : goal.invariant-loop-k
invariant-loop-k l = (length l.faces ≡ l.k) × (length l.sums.items ≡ l.p.graph.vertex_count)
    × ((family : List (List (List ℕ))) → AreSkeletonSystems l.p.tree family → FollowsFamily l.p.tree family l.p.rotation → (j : ℕ) → j < l.k → NumberFaces (skeleton_graph l.p.tree j) (system_at family j) (numbers_at l.faces j))
