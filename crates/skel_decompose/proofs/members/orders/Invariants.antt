use Rattle.std.proofs.Common.{◌≡◌, ℕ, List}
use Rattle.skeletons.specs.Families.{system_at, AreSkeletonSystems}
use Rattle.skel_compose.specs.Orders.{orders_below}
use Rattle.skel_compose.specs.Followers.{HasFollowers}
use Rattle.skel_decompose.proofs.members.orders.Given as goal

abbrev pub invariant-loop-p : goal.invariant-loop-p
invariant-loop-p l = (family : List (List (List ℕ))) → AreSkeletonSystems l.tree family → HasFollowers l.tree family l.table → l.lists ≡ orders_below (system_at family l.k) l.p
