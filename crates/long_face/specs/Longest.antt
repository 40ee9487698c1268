-- The longest face of all plane rotation systems of a block, and the moves to one that has it.
use Rattle.std.specs.Prelude.{◌≡◌, ℕ, ◌≤◌, List, [], length, Contains}
use Rattle.multigraph.specs.Graph.{Multigraph}
use Rattle.faces.specs.Euler.{IsPlaneSystem}
use Rattle.faces.specs.Trace.{face_lists}
use Rattle.pair_split.specs.Tutte.{Node}
use Rattle.skeletons.specs.Moves.{Move, moves_between}

-- some face of r has this length, which is its number of pairs of a vertex and an edge
abbrev pub HasFace : Multigraph → List (List ℕ) → ℕ → Type 0
HasFace g r len = (face : List (ℕ × ℕ)) × Contains (face_lists g r) face × (length face ≡ len)

-- no plane rotation system of g has a longer face
abbrev pub NoneLonger : Multigraph → ℕ → Type 0
NoneLonger g len = (q : List (List ℕ)) → IsPlaneSystem g q → (other : ℕ) → HasFace g q other → other ≤ len

-- the moves lead from r to a plane rotation system with a face of the greatest length; there are none where r has such a face
pub record IsLongest (g : Multigraph) (nodes : List Node) (r : List (List ℕ)) (len : ℕ) (moves : List Move) : Type 0 where
  pub system : List (List ℕ)
  pub plane : IsPlaneSystem g system
  pub reached : HasFace g system len
  pub none_longer : NoneLonger g len
  pub moves_are : moves ≡ moves_between nodes r system
  pub stays : HasFace g r len → moves ≡ []
