-- State of a loop: faces, as a list of steps leads along them; it gives for each dart the one that follows it around its vertex.
use Rattle.std.specs.Prelude.{ℕ, ◌-◌, ◌/◌, List, [], ◌∷◌, ◌++◌, length, map, slice_index}
use Rattle.permutations.specs.Ring.{images, orbit_length}
use Rattle.dart_maps.specs.Map.{twin}

-- the next dart of the face of dart d
abbrev pub along : List ℕ → ℕ → ℕ
along next d = slice_index next (twin d)

-- the face of dart d, without d and without the dart before it
abbrev pub arc_of : List ℕ → ℕ → List ℕ
arc_of next d = images (along next) (orbit_length (length next) (along next) d - 2) (along next d)

-- the edges of these arcs, one after the other
abbrev pub arcs_of : List ℕ → List ℕ → List ℕ
arcs_of next [] = []
arcs_of next (d ∷ ds) = map (λ c. c / 2) (arc_of next d) ++ arcs_of next ds
