-- The weights of the links of a tree with a root: each has two, one in each direction, kept at its lower node.
use Rattle.std.specs.Prelude.{◌≡◌, ℕ, ◌==◌, cond, List, length, slice_index_or}
use Rattle.pair_split.specs.Tutte.{Node, node_item}
use Rattle.pair_split.specs.declared.components.What.{What}
use Rattle.pair_split.specs.declared.components.What.TheVariants.{Real, Link}

-- of each node its parent, the weight of the parent's link to it, and the weight of its own link to the parent; the nodes in order; and the greatest
-- weight of a face, and a node that reaches it
pub record Weighing : Type 0 where
  pub parents : List ℕ
  pub order : List ℕ
  pub below : List ℕ
  pub above : List ℕ
  pub most : ℕ
  pub top : ℕ

-- the weight of an item of a node with this parent: an edge weighs one
abbrev pub weight_by : ℕ → (ℕ → ℕ) → ℕ → What → ℕ
weight_by parent below above (Real e) = 1
weight_by parent below above (Link j) = cond (j == parent) above (below j)

-- the weight of item i of node k
abbrev pub weight_of : List Node → Weighing → ℕ → ℕ → ℕ
weight_of nodes w k i = weight_by (slice_index_or w.parents k 0) (λ j. slice_index_or w.below j 0) (slice_index_or w.above k 0) (node_item nodes k i).what

-- there is an entry for each node
pub record IsSized (nodes : List Node) (w : Weighing) : Type 0 where
  pub parents : length w.parents ≡ length nodes
  pub below : length w.below ≡ length nodes
  pub above : length w.above ≡ length nodes
