-- State of loops: the weights of faces, added up along their pairs and noted for their darts.
use Rattle.std.specs.Prelude.{◌≡◌, ℕ, ◌<◌, List, length, slice_index_or}
use Rattle.multigraph.specs.Graph.{Multigraph}
use Rattle.faces.specs.Euler.{dart_count}
use Rattle.skeleton_faces.specs.Faces.{face_weight}

-- the weight that the list has for an edge
abbrev pub weight_in : List ℕ → ℕ → ℕ
weight_in weights i = slice_index_or weights i 0

-- each dart has the weight of its face
pub record AreFaceSums (g : Multigraph) (r : List (List ℕ)) (weights sums : List ℕ) : Type 0 where
  pub number : length sums ≡ dart_count g
  pub each : (d : ℕ) → d < dart_count g → slice_index_or sums d 0 ≡ face_weight g r (weight_in weights) d
