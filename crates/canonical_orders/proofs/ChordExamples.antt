-- Neighbours on the contour, counted in a small graph: a square with one diagonal, between its first and its third vertex.
use Rattle.std.specs.Prelude.{◌≡◌, ℕ, List, [], ◌∷◌}
use mathlib.Core.Path.{refl}
use Rattle.dart_maps.specs.Map.{twin}
use Rattle.multigraph.specs.Graph.{Multigraph}
use Rattle.canonical_orders.specs.Free.{contour_neighbours}

square : Multigraph
square = record { vertex_count = 4; ends = (0, 1) ∷ (1, 2) ∷ (2, 3) ∷ (3, 0) ∷ (0, 2) ∷ [] }

-- from the base 0 1 to the left around the outer face: the vertices 0, 3, 2, 1
outer : List ℕ
outer = 0 ∷ 6 ∷ 4 ∷ 2 ∷ []

-- vertex 3 has no chord
without_chord : contour_neighbours square outer 3 ≡ 2
unfolding square outer twin
without_chord = refl

-- vertex 2 has one
with_chord : contour_neighbours square outer 2 ≡ 3
unfolding square outer twin
with_chord = refl
