-- A block in the plane: its graph, its tree, a plane rotation system, the choice of each node, and which nodes are locked.
use Rattle.std.specs.Prelude.{◌≡◌, ℕ, ◌<◌, Bool, false, List, [], length, map, slice_index_or}
use Rattle.multigraph.specs.Graph.{Multigraph, numbers_below}
use Rattle.pair_split.specs.Tutte.{Node}
use Rattle.skeletons.specs.Items.{IsBlockTree}
use Rattle.faces.specs.Euler.{IsPlaneSystem}
use Rattle.skeletons.specs.Choices.{choice}

-- what is kept
pub record BlockState : Type 0 where
  pub graph : Multigraph
  pub tree : List Node
  pub rotation : List (List ℕ)
  pub choices : List (List ℕ)
  pub locks : List Bool

-- whether node k is locked
abbrev pub lock_at : List Bool → ℕ → Bool
lock_at locks k = slice_index_or locks k false

-- the choices of r at all nodes
abbrev pub choices_by : List Node → List (List ℕ) → List (List ℕ)
choices_by nodes r = map (choice nodes r) (numbers_below (length nodes))

-- the list has the choices of r at the first n nodes
pub record AreChoices (nodes : List Node) (r : List (List ℕ)) (n : ℕ) (choices : List (List ℕ)) : Type 0 where
  pub each : length choices ≡ n
  pub is : (k : ℕ) → k < n → slice_index_or choices k [] ≡ choice nodes r k

-- what is kept belongs together
pub record IsBlockState (s : BlockState) : Type 0 where
  pub block : IsBlockTree s.graph s.tree
  pub plane : IsPlaneSystem s.graph s.rotation
  pub choices : AreChoices s.tree s.rotation (length s.tree) s.choices
  pub locks : length s.locks ≡ length s.tree
