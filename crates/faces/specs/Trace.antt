-- The lists of the faces. A dart is represented by the pair of the vertex that it leaves and its edge; darts are ordered by their
-- vertex, then by their edge. Each face is listed along its steps from its least pair on, and the faces in order of these.
use Rattle.std.specs.Prelude.{ℕ, zero, suc, ◌/◌, Bool, not, ◌&&◌, ◌||◌, ◌==◌, nat_lt, List, [], ◌∷◌, ◌++◌, map, filter}
use Rattle.permutations.specs.Count.{some}
use Rattle.permutations.specs.Permutation.{iterate, reaches}
use Rattle.permutations.specs.Ring.{orbit_length}
use Rattle.multigraph.specs.Graph.{Multigraph, incident_edges}
use Rattle.faces.specs.Euler.{tail, dart_from, dart_count, face_step}

-- the pair of a dart
abbrev pub pair_of : Multigraph → ℕ → ℕ × ℕ
pair_of g d = (tail g d, d / 2)

-- whether the pair of dart c is less than that of dart d
abbrev pub precedes : Multigraph → ℕ → ℕ → Bool
precedes g c d =
    nat_lt (tail g c) (tail g d) || ((tail g c == tail g d) && nat_lt (c / 2) (d / 2))

-- the darts that leave the vertices below n, in order
abbrev pub darts_from_below : Multigraph → ℕ → List ℕ
darts_from_below g zero = []
darts_from_below g (suc v) = darts_from_below g v ++ map (dart_from g v) (incident_edges g v)

-- all darts, in order
abbrev pub darts_in_order : Multigraph → List ℕ
darts_in_order g = darts_from_below g g.vertex_count

-- whether d is the least dart of its orbit under f
abbrev pub is_least : Multigraph → (ℕ → ℕ) → ℕ → Bool
is_least g f d = not (some (dart_count g) (λ c. reaches (dart_count g) f d c && precedes g c d))

-- the pairs of the first k darts from d on along the steps of f
abbrev pub pairs_along : Multigraph → (ℕ → ℕ) → ℕ → ℕ → List (ℕ × ℕ)
pairs_along g f d zero = []
pairs_along g f d (suc k) = pairs_along g f d k ++ pair_of g (iterate f k d) ∷ []

-- the pairs of the orbit of d, from d on
abbrev pub orbit_pairs : Multigraph → (ℕ → ℕ) → ℕ → List (ℕ × ℕ)
orbit_pairs g f d = pairs_along g f d (orbit_length (dart_count g) f d)

-- the orbits, each from its least dart on, in order of these
abbrev pub orbit_lists : Multigraph → (ℕ → ℕ) → List (List (ℕ × ℕ))
orbit_lists g f = map (orbit_pairs g f) (filter (is_least g f) (darts_in_order g))

-- the faces, each from its least pair on, in order of these
abbrev pub face_lists : Multigraph → List (List ℕ) → List (List (ℕ × ℕ))
face_lists g r = orbit_lists g (face_step g r)
