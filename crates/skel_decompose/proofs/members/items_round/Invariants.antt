use Rattle.std.proofs.Common.{◌≡◌, ◌++◌, ◌-◌, ℕ, true, List, length}
use Rattle.permutations.specs.Cyclic.{successor}
use Rattle.permutations.specs.Ring.{images}
use Rattle.permutations.specs.Members.{is_member}
use Rattle.multigraph.specs.Graph.{incident_edges}
use Rattle.rotations.specs.Rotation.{order_at}
use Rattle.skeletons.specs.Families.{skeleton_graph, system_at, AreSkeletonSystems}
use Rattle.skel_compose.specs.Followers.{HasFollowers}
use Rattle.skel_decompose.proofs.members.items_round.Given as goal

abbrev pub invariant-loop-turn : goal.invariant-loop-turn
invariant-loop-turn l = (family : List (List (List ℕ))) → AreSkeletonSystems l.tree family → HasFollowers l.tree family l.table
    → (l.items.items ++ images (successor (order_at (system_at family l.k) l.p)) (length (incident_edges (skeleton_graph l.tree l.k) l.p) - l._turn) l.i ≡ order_at (system_at family l.k) l.p)
    × (is_member l.i (order_at (system_at family l.k) l.p) ≡ true)
