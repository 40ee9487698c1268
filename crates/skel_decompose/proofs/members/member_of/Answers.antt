use Rattle.std.proofs.Common.{◌≡◌, ◌<◌, ℕ, List}
use Rattle.rotations.specs.Given.{given_order}
use Rattle.rotations.specs.Rotation.{order_at, IsRotationSystem}
use Rattle.skeletons.specs.Families.{system_at, AreSkeletonSystems}
use Rattle.skel_compose.proofs.Rounds.{both-ok}
use Rattle.skel_compose.specs.Followers.{HasFollowers}
use Rattle.skel_decompose.proofs.Gathered.{member-made}
use Rattle.skel_decompose.proofs.members.member_of.Goals as goal

pub of_arranged-requires : goal.of_arranged-requires
of_arranged-requires c = let w = c.requires.family in (member-made c.in_ok-graph.graph c.args.tree.now c.args.k c.requires.node w.0 w.1 c.in_ok-graph.ensures.skeleton c.in_ok-lists.lists (c.in_ok-lists.ensures w.0 w.1 w.2)).0

pub returns : goal.returns
returns c = both-ok c.of_arranged.result (IsRotationSystem c.in_ok-graph.graph) (λ r. (v : ℕ) → v < c.in_ok-graph.graph.vertex_count → order_at r v ≡ given_order c.in_ok-graph.graph c.in_ok-lists.lists v)
    (λ member. (family : List (List (List ℕ))) → AreSkeletonSystems c.args.tree.now family → HasFollowers c.args.tree.now family c.args.table.now → member ≡ system_at family c.args.k)
    (λ q s o family f h. (member-made c.in_ok-graph.graph c.args.tree.now c.args.k c.requires.node family f c.in_ok-graph.ensures.skeleton c.in_ok-lists.lists (c.in_ok-lists.ensures family f h)).1 q s o)
    c.of_arranged.ensures.system c.of_arranged.ensures.orders
