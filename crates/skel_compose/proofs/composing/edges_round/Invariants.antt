use Rattle.std.proofs.Common.{◌≡◌, ◌++◌, ◌-◌, ℕ, true, List, length}
use Rattle.permutations.specs.Cyclic.{successor}
use Rattle.permutations.specs.Ring.{images}
use Rattle.permutations.specs.Members.{is_member}
use Rattle.multigraph.specs.Graph.{incident_edges}
use Rattle.rotations.specs.Rotation.{order_at, IsRotationSystem}
use Rattle.skeletons.specs.Families.{FollowsFamily}
use Rattle.skel_compose.specs.Followers.{IsTableOf}
use Rattle.skel_compose.proofs.composing.edges_round.Given as goal

abbrev pub invariant-loop-turn : goal.invariant-loop-turn
invariant-loop-turn l = (family : List (List (List ℕ))) → IsTableOf l.tree l.table family → (r : List (List ℕ)) → IsRotationSystem l.g r → FollowsFamily l.tree family r
    → (l.edges.items ++ images (successor (order_at r l.v)) (length (incident_edges l.g l.v) - l._turn) l.e ≡ order_at r l.v) × (is_member l.e (order_at r l.v) ≡ true)
