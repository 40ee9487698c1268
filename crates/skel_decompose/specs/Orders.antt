-- Orders of the nodes of a tree in which each is after its parent.
use Rattle.std.specs.Prelude.{◌≡◌, ℕ, ◌<◌, true, List, length}
use Rattle.permutations.specs.Members.{is_distinct}
use Rattle.pair_split.specs.Tutte.{Node, components, node_item}
use Rattle.pair_split.specs.declared.components.What.{What}
use Rattle.pair_split.specs.declared.components.What.TheVariants.{Real, Link}
use Rattle.spqr_tree.specs.Absent.{absent}
use Rattle.spqr_tree.specs.Keys.{parent_at, AreOrdered}

-- the nodes, each once and after its parent; the root has none
pub record IsOrderOf (nodes : List Node) (parents order : List ℕ) : Type 0 where
  pub root : ℕ
  pub root_in : root < length (components nodes)
  pub ordered : AreOrdered (components nodes) root parents order
  pub distinct : is_distinct order ≡ true
  pub end : parent_at parents root ≡ absent

-- the node at the other end of a link; absent for an edge
abbrev pub far_end : What → ℕ
far_end (Real e) = absent
far_end (Link j) = j

-- the parent of each node is at the other end of its first item
pub record HangFromFirst (nodes : List Node) (parents : List ℕ) : Type 0 where
  pub number : length parents ≡ length nodes
  pub each : (k : ℕ) → k < length nodes → parent_at parents k ≡ far_end (node_item nodes k 0).what
