-- The vertices of a contour that can be removed next: those without a chord.
use Rattle.std.specs.Prelude.{◌≡◌, ◌≢◌, ℕ, ◌*◌, ◌<◌, ◌⊎◌, Bool, true, ◌&&◌, ◌==◌, List, ◌∷◌, ◌++◌, map}
use Rattle.permutations.specs.Count.{count, some}
use Rattle.permutations.specs.Members.{is_member}
use Rattle.dart_maps.specs.Map.{twin}
use Rattle.multigraph.specs.Graph.{Multigraph}
use Rattle.faces.specs.Euler.{tail, dart_count}

-- whether some dart leads from vertex w to vertex x
abbrev pub is_adjacent : Multigraph → ℕ → ℕ → Bool
is_adjacent h w x = some (dart_count h) (λ d. (tail h d == w) && (tail h (twin d) == x))

-- whether vertex x is on the contour
abbrev pub on_contour : Multigraph → List ℕ → ℕ → Bool
on_contour h contour x = is_member x (map (tail h) contour)

-- how many neighbours of vertex w are on the contour
abbrev pub contour_neighbours : Multigraph → List ℕ → ℕ → ℕ
contour_neighbours h contour w = count h.vertex_count (λ x. on_contour h contour x && is_adjacent h w x)

-- vertex w is on the contour, is no end of the base, and has two neighbours on the contour, so no chord
pub record IsFree (h : Multigraph) (base : ℕ) (contour : List ℕ) (w : ℕ) : Type 0 where
  pub on : on_contour h contour w ≡ true
  pub not_first : w ≢ tail h base
  pub not_last : w ≢ tail h (twin base)
  pub two : contour_neighbours h contour w ≡ 2

-- the same by darts: w is between two others on the contour, x leads to the left one, y comes from the right one, and no other dart
-- of w leads to the contour
pub record IsFreeAt (m : ℕ) (h : Multigraph) (contour : List ℕ) (w : ℕ) : Type 0 where
  pub first : ℕ
  pub front : List ℕ
  pub x : ℕ
  pub y : ℕ
  pub back : List ℕ
  pub cut : contour ≡ (first ∷ front) ++ x ∷ y ∷ back
  pub leaves : tail h x ≡ w
  pub only : (d : ℕ) → d < 2 * m → tail h d ≡ w → on_contour h contour (tail h (twin d)) ≡ true → (d ≡ x) ⊎ (d ≡ twin y)
