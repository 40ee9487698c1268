-- State of a loop: the first nodes have their lists in the table.
use Rattle.std.specs.Prelude.{◌≡◌, ℕ, ◌*◌, ◌<◌, List, length}
use Rattle.pair_split.specs.Tutte.{Node, node_at}
use Rattle.skel_compose.specs.Followers.{row_at}

-- the table has a list for each of the first n nodes, with all its places
pub record AreRows (nodes : List Node) (n : ℕ) (table : List (List ℕ)) : Type 0 where
  pub each : length table ≡ n
  pub places : (k : ℕ) → k < n → length (row_at table k) ≡ 2 * length (node_at nodes k).items
