use Rattle.std.proofs.Common.{◌≡◌, ℕ, ◌+◌, List}
use Rattle.multigraph.specs.Graph.{Multigraph}
use Rattle.skel_compose.specs.Homes.{home_at}
use Rattle.skel_compose.specs.Followers.{IsTable, item_place}
use Rattle.skel_decompose.specs.Followers.{IsFamily, IsStep, Keeps}
use Rattle.skel_decompose.specs.Ups.{rank_at}
use Rattle.skel_decompose.proofs.Joins.{AreClimbs}
use Rattle.skel_decompose.proofs.climbing.join.Given as goal

abbrev pub invariant-loop-k : goal.invariant-loop-k
invariant-loop-k l = IsTable l.tree l.table × (l.place ≡ item_place l.tree l.k l.i l.v) × ((g : Multigraph) (r : List (List ℕ)) (family : List (List (List ℕ))) → IsStep g l.tree r l.v l.e l.next → IsFamily l.tree r family
    → AreClimbs l.tree l.ranks r family l.table l.v l.e l.next l.fn.home.0 (home_at l.fn.homes l.fn.next).0 l.k l.i l.m l.p × Keeps l.tree family l.initial.table l.table)

abbrev pub decreases-loop-k : goal.decreases-loop-k
decreases-loop-k l = rank_at l.ranks l.k + rank_at l.ranks l.m
