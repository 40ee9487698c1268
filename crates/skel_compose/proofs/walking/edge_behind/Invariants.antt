use Rattle.std.proofs.Common.{ℕ, List}
use Rattle.permutations.specs.Cyclic.{successor}
use Rattle.rotations.specs.Rotation.{order_at, IsRotationSystem}
use Rattle.skeletons.specs.Families.{FollowsFamily}
use Rattle.skel_compose.specs.Followers.{IsTableOf}
use Rattle.skel_compose.proofs.Walk.{LeadsOn, IsNear}
use Rattle.skel_compose.proofs.walking.edge_behind.Given as goal

abbrev pub invariant-loop-links : goal.invariant-loop-links
invariant-loop-links l = (family : List (List (List ℕ))) → IsTableOf l.tree l.table family → (r : List (List ℕ)) → IsRotationSystem l.g r → FollowsFamily l.tree family r
    → LeadsOn l.tree family l.v l.e (successor (order_at r l.v) l.e) l.k l.i × IsNear l.tree (successor (order_at r l.v) l.e) l.k l._links
