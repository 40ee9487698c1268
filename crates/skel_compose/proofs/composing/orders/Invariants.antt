use Rattle.std.proofs.Common.{◌≡◌, ℕ, List}
use Rattle.rotations.specs.Rotation.{IsRotationSystem}
use Rattle.skeletons.specs.Families.{FollowsFamily}
use Rattle.skel_compose.specs.Followers.{IsTableOf}
use Rattle.skel_compose.specs.Orders.{orders_below}
use Rattle.skel_compose.proofs.composing.orders.Given as goal

abbrev pub invariant-loop-v : goal.invariant-loop-v
invariant-loop-v l = (family : List (List (List ℕ))) → IsTableOf l.tree l.table family → (r : List (List ℕ)) → IsRotationSystem l.g r → FollowsFamily l.tree family r → l.lists ≡ orders_below r l.v
