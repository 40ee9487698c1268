-- How far a table of what follows each item has what a rotation system of the block gives.
use Rattle.std.specs.Prelude.{◌≡◌, ℕ, ◌<◌, true, List, map}
use Rattle.permutations.specs.Cyclic.{successor}
use Rattle.multigraph.specs.Graph.{Multigraph, edge_count, is_end, numbers_below, IsWithinLimits}
use Rattle.rotations.specs.Rotation.{order_at, IsRotationSystem}
use Rattle.pair_split.specs.Tutte.{Node, node_item, group}
use Rattle.pair_split.specs.declared.components.What.TheVariants.{Real}
use Rattle.skeletons.specs.Items.{IsBlockTree}
use Rattle.skeletons.specs.Round.{IsContiguous}
use Rattle.skeletons.specs.Families.{system_at, AreSkeletonSystems, FollowsFamily}
use Rattle.skel_compose.specs.Followers.{IsItemEnd, HasFollower}

-- r is a rotation system of the block with this tree, and the groups of each node are in runs
pub record IsInRuns (g : Multigraph) (nodes : List Node) (r : List (List ℕ)) : Type 0 where
  pub block : IsBlockTree g nodes
  pub limits : IsWithinLimits g
  pub system : IsRotationSystem g r
  pub runs : IsContiguous nodes r

-- edge `next` follows edge e around v, one of its ends
pub record IsStep (g : Multigraph) (nodes : List Node) (r : List (List ℕ)) (v e next : ℕ) : Type 0 where
  pub runs : IsInRuns g nodes r
  pub edge : e < edge_count g
  pub end : is_end g v e ≡ true
  pub follows : next ≡ successor (order_at r v) e

-- the family that r follows
pub record IsFamily (nodes : List Node) (r : List (List ℕ)) (family : List (List (List ℕ))) : Type 0 where
  pub systems : AreSkeletonSystems nodes family
  pub follows : FollowsFamily nodes family r

-- what the old table has of the family, the new one has too
abbrev pub Keeps : List Node → List (List (List ℕ)) → List (List ℕ) → List (List ℕ) → Type 0
Keeps nodes family old new = (k i v : ℕ) → IsItemEnd nodes k i v → HasFollower nodes family old k i v → HasFollower nodes family new k i v

-- item i of node k has edge e of v in its group as the last one before another group, or is e
pub record IsLastOf (nodes : List Node) (r : List (List ℕ)) (v e k i : ℕ) : Type 0 where
  pub place : IsItemEnd nodes k i v
  pub own : group nodes k e ≡ (node_item nodes k i).key
  pub apart : group nodes k (successor (order_at r v) e) ≡ (node_item nodes k i).key → (node_item nodes k i).what ≡ Real e

-- the table has what follows such items
abbrev pub HasLast : List Node → List (List ℕ) → List (List (List ℕ)) → List (List ℕ) → ℕ → ℕ → Type 0
HasLast nodes r family table v e = (k i : ℕ) → IsLastOf nodes r v e k i → HasFollower nodes family table k i v

-- at both ends of the edges before n
abbrev pub HaveLasts : Multigraph → List Node → List (List ℕ) → List (List (List ℕ)) → List (List ℕ) → ℕ → Type 0
HaveLasts g nodes r family table n = (x v : ℕ) → x < n → is_end g v x ≡ true → HasLast nodes r family table v x

-- the members of the family for the nodes below n
abbrev pub members_below : List (List (List ℕ)) → ℕ → List (List (List ℕ))
members_below family n = map (system_at family) (numbers_below n)
