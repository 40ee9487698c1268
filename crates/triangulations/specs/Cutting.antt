-- State of the loops: which triangles can be cut off, and the map in which one is.
use Rattle.std.specs.Prelude.{◌≡◌, ℕ, ◌+◌, ◌*◌, ◌<◌, ◌≤◌, ◌⊎◌, Bool, true, not, ◌&&◌, ◌||◌, ◌==◌, if◌then◌else◌, List}
use Rattle.permutations.specs.Count.{some}
use Rattle.dart_maps.specs.Map.{twin, face, same_face}
use Rattle.multigraph.specs.Graph.{Multigraph}
use Rattle.faces.specs.Euler.{tail, dart_count}
use Rattle.drawn_maps.specs.Drawn.{with_edge, joined}
use Rattle.triangulations.specs.Triangulation.{IsSimpleMap, Extends}

-- three steps along the face of dart d lead back to it
abbrev pub is_triangle : (ℕ → ℕ) → ℕ → Bool
is_triangle next d = face next (face next (face next d)) == d

-- some dart leads from u to v
abbrev pub are_joined : Multigraph → ℕ → ℕ → Bool
are_joined h u v = some (dart_count h) (λ d. (tail h d == u) && (tail h (twin d) == v))

-- the vertex where two steps along the face lead, from the vertex that dart d leaves
abbrev pub second_head : Multigraph → (ℕ → ℕ) → ℕ → ℕ
second_head h next d = tail h (twin (face next d))

-- an edge between these two vertices can be added: they differ, and no edge joins them
abbrev pub can_cut : Multigraph → (ℕ → ℕ) → ℕ → Bool
can_cut h next d = not (tail h d == second_head h next d) && not (are_joined h (tail h d) (second_head h next d))

-- the graph with this edge
abbrev pub cut_graph : Multigraph → (ℕ → ℕ) → ℕ → Multigraph
cut_graph h next d = with_edge h h.vertex_count (tail h d, second_head h next d)

-- the map with this edge, whose first dart comes before d, and whose second comes after the twin of the next dart along the face
abbrev pub cut_next : ℕ → (ℕ → ℕ) → (ℕ → ℕ) → ℕ → ℕ → ℕ
cut_next m next previous d = joined m (previous d) (twin (face next d)) next

-- after how many steps along the face, at most two, an edge can be added
abbrev pub wait : Multigraph → (ℕ → ℕ) → ℕ → ℕ
wait h next d = (if can_cut h next d then 0 else (if can_cut h next (face next d) then 1 else 2))

-- the map extends that of g; each dart below `start`, and each that is not one of g, is on a triangle
pub record IsFilled (g : Multigraph) (r : List (List ℕ)) (start m : ℕ) (h : Multigraph) (next previous : ℕ → ℕ) : Type 0 where
  pub map : IsSimpleMap m h next previous
  pub extends : Extends g r m h next
  pub triangles : (d : ℕ) → d < 2 * m → (d < start) ⊎ (dart_count g ≤ d) → is_triangle next d ≡ true

-- the same while the face of dart d is filled, from `start` on: these darts are on triangles or on this face
pub record IsFilling (g : Multigraph) (r : List (List ℕ)) (start d m : ℕ) (h : Multigraph) (next previous : ℕ → ℕ) : Type 0 where
  pub map : IsSimpleMap m h next previous
  pub extends : Extends g r m h next
  pub dart : d < 2 * m
  pub triangles : (c : ℕ) → c < 2 * m → (c < start + 1) ⊎ (dart_count g ≤ c) → (is_triangle next c || same_face m next d c) ≡ true
