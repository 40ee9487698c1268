-- Small maps, computed: a path, a star, and two triangles with a common vertex.
use Rattle.std.proofs.Common.{◌≡◌, ℕ, true, false, ltb, List, [], ◌∷◌, map, get_or, refl}
use Rattle.permutations.specs.Exchange.{swapped, exchange, restricted}
use Rattle.dart_maps.specs.Map.{twin}
use Rattle.multigraph.specs.Graph.{Multigraph}
use Rattle.triangulations.specs.Cutting.{is_triangle, can_cut, cut_graph, cut_next, wait}

-- the function that a table tells
table : List ℕ → ℕ → ℕ
table l d = get_or l d 0

-- the edges 0-1 and 1-2
path : Multigraph
path = record { vertex_count = 3; ends = (0, 1) ∷ (1, 2) ∷ [] }

-- the map of its one rotation system
path_next : ℕ → ℕ
path_next = table (0 ∷ 2 ∷ 1 ∷ 3 ∷ [])

-- its face has four darts; at the first an edge can be added, at the second, which leads to the end and back, it cannot
path-long : is_triangle path_next 0 ≡ false
unfolding path_next table twin
path-long = refl

path-can : can_cut path path_next 0 ≡ true
unfolding path path_next table twin
path-can = refl

path-cannot : can_cut path path_next 2 ≡ false
unfolding path path_next table twin
path-cannot = refl

path-waits : wait path path_next 2 ≡ 1
unfolding path path_next table twin
path-waits = refl

-- with the edge it is a triangle: around each vertex come these darts, and both faces have three
path-cut : cut_graph path path_next 0 ≡ record { vertex_count = 3; ends = (0, 1) ∷ (1, 2) ∷ (0, 2) ∷ [] }
unfolding path path_next table twin
path-cut = refl

path-cut_next : map (cut_next 2 path_next path_next 0) (0 ∷ 1 ∷ 2 ∷ 3 ∷ 4 ∷ 5 ∷ []) ≡ 4 ∷ 2 ∷ 1 ∷ 5 ∷ 0 ∷ 3 ∷ []
unfolding path_next table twin exchange swapped
path-cut_next = refl

path-triangles : map (is_triangle (cut_next 2 path_next path_next 0)) (0 ∷ 1 ∷ 2 ∷ 3 ∷ 4 ∷ 5 ∷ []) ≡ true ∷ true ∷ true ∷ true ∷ true ∷ true ∷ []
unfolding path_next table twin exchange swapped
path-triangles = refl

-- the darts of the path come as before
path-orders : map (restricted 6 (λ d. ltb d 4) (cut_next 2 path_next path_next 0)) (0 ∷ 1 ∷ 2 ∷ 3 ∷ []) ≡ 0 ∷ 2 ∷ 1 ∷ 3 ∷ []
unfolding path_next table twin exchange swapped restricted
path-orders = refl

-- three edges from 0: at a dart that leads to an end no edge can be added, at the next one it can
star : Multigraph
star = record { vertex_count = 4; ends = (0, 1) ∷ (0, 2) ∷ (0, 3) ∷ [] }

star_next : ℕ → ℕ
star_next = table (2 ∷ 1 ∷ 4 ∷ 3 ∷ 0 ∷ 5 ∷ [])

star-waits : map (wait star star_next) (0 ∷ 1 ∷ 2 ∷ 3 ∷ 4 ∷ 5 ∷ []) ≡ 1 ∷ 0 ∷ 1 ∷ 0 ∷ 1 ∷ 0 ∷ []
unfolding star star_next table twin
star-waits = refl

-- two triangles with the common vertex 0: along the long face an edge can be added at every third dart
triangles : Multigraph
triangles = record { vertex_count = 5; ends = (0, 1) ∷ (1, 2) ∷ (2, 0) ∷ (0, 3) ∷ (3, 4) ∷ (4, 0) ∷ [] }

triangles_next : ℕ → ℕ
triangles_next = table (5 ∷ 2 ∷ 1 ∷ 4 ∷ 3 ∷ 6 ∷ 11 ∷ 8 ∷ 7 ∷ 10 ∷ 9 ∷ 0 ∷ [])

triangles-are : map (is_triangle triangles_next) (0 ∷ 1 ∷ 2 ∷ 3 ∷ 4 ∷ 5 ∷ []) ≡ false ∷ true ∷ false ∷ true ∷ false ∷ true ∷ []
unfolding triangles_next table twin
triangles-are = refl

triangles-wait : map (wait triangles triangles_next) (0 ∷ 2 ∷ 4 ∷ 6 ∷ 8 ∷ 10 ∷ []) ≡ 2 ∷ 1 ∷ 0 ∷ 2 ∷ 1 ∷ 0 ∷ []
unfolding triangles triangles_next table twin
triangles-wait = refl
