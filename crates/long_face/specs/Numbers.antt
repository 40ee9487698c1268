-- Numbers of faces, by their darts.
use Rattle.std.specs.Prelude.{◌≡◌, ℕ, ◌<◌, ◌==◌, List, length, slice_index_or}
use Rattle.multigraph.specs.Graph.{Multigraph}
use Rattle.faces.specs.Euler.{dart_count}
use Rattle.skeleton_faces.specs.Faces.{on_one_face}

-- the number of dart d
abbrev pub number_at : List ℕ → ℕ → ℕ
number_at numbers d = slice_index_or numbers d 0

-- darts have one number exactly where they are on one face
pub record AreFaceNumbers (g : Multigraph) (r : List (List ℕ)) (numbers : List ℕ) : Type 0 where
  pub places : length numbers ≡ dart_count g
  pub same : (x y : ℕ) → x < dart_count g → y < dart_count g → (number_at numbers x == number_at numbers y) ≡ on_one_face g r x y
