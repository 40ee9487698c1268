-- A graph with a map of its darts, kept as lists.
use Rattle.std.specs.Prelude.{◌≡◌, ◌≢◌, ℕ, ◌+◌, ◌^◌, ◌<◌, ◌≤◌, true, List, length, slice_index}
use Rattle.multigraph.specs.Graph.{Multigraph, edge_count}
use Rattle.multigraph.specs.Build.{multigraph_of}
use Rattle.dart_maps.specs.Map.{twin, face, IsMap}
use Rattle.faces.specs.Euler.{dart_count}
use Rattle.faces.specs.Maps.{dart_after, dart_before}
use Rattle.triangulations.specs.Triangulation.{IsSimpleMap, IsTriangulation}
use Rattle.triangulations.specs.Cutting.{is_triangle, cut_graph, IsFilled, IsFilling}

-- a graph, the dart that follows each dart, and the one that each dart follows
pub record ListedMap : Type 0 where
  pub graph : Multigraph
  pub next : List ℕ
  pub previous : List ℕ

-- these lists, with the graph of n vertices and these ends
abbrev pub listed : ℕ → List (ℕ × ℕ) → List ℕ → List ℕ → ListedMap
listed n ends next previous = record { graph = multigraph_of n ends; next = next; previous = previous }

-- each dart of the graph has its place in both lists, and darts fit into 32 bits
pub record IsListed (t : ListedMap) : Type 0 where
  pub next_each : length t.next ≡ dart_count t.graph
  pub previous_each : length t.previous ≡ dart_count t.graph
  pub few : dart_count t.graph < 2 ^ 32

-- it adds edges to the graph g with the rotation system r until each face is a triangle
abbrev pub IsTriangulationOf : Multigraph → List (List ℕ) → ListedMap → Type 0
IsTriangulationOf g r t = IsTriangulation g r (edge_count t.graph) t.graph (slice_index t.next) (slice_index t.previous)

-- the lists are a map of the graph's darts
abbrev pub IsMapOf : ListedMap → Type 0
IsMapOf t = IsMap (edge_count t.graph) (slice_index t.next) (slice_index t.previous)

-- and the map is simple
abbrev pub IsSimpleMapOf : ListedMap → Type 0
IsSimpleMapOf t = IsSimpleMap (edge_count t.graph) t.graph (slice_index t.next) (slice_index t.previous)

-- an edge was added between the vertex that dart d leaves and the one where two steps along the face lead. Its first dart comes before d, its
-- second after the twin of the next dart along the face
pub record IsCut (old : ListedMap) (d : ℕ) (new : ListedMap) : Type 0 where
  pub graph : new.graph ≡ cut_graph old.graph (slice_index old.next) d
  pub map : IsMapOf new
  pub corner : slice_index new.next (slice_index old.previous d) ≡ dart_count old.graph
  pub second_corner : slice_index new.next (twin (face (slice_index old.next) d)) ≡ dart_count old.graph + 1
  pub first : slice_index new.next (dart_count old.graph) ≡ d
  pub second : slice_index new.next (dart_count old.graph + 1) ≡ slice_index old.next (twin (face (slice_index old.next) d))
  pub others : (c : ℕ) → c < dart_count old.graph → c ≢ slice_index old.previous d → c ≢ twin (face (slice_index old.next) d) → slice_index new.next c ≡ slice_index old.next c

-- the list has n members, which the function gives
pub record IsTable (f : ℕ → ℕ) (n : ℕ) (table : List ℕ) : Type 0 where
  pub long : length table ≡ n
  pub entries : (d : ℕ) → d < n → slice_index table d ≡ f d

-- the graph g with the map of its rotation system r
pub record IsMapFrom (g : Multigraph) (r : List (List ℕ)) (t : ListedMap) : Type 0 where
  pub graph : t.graph ≡ g
  pub next : IsTable (dart_after g r) (dart_count g) t.next
  pub previous : IsTable (dart_before g r) (dart_count g) t.previous

-- the map extends that of g; each dart below `start`, and each that is not one of g, is on a triangle
abbrev pub IsFilledMap : Multigraph → List (List ℕ) → ℕ → ListedMap → Type 0
IsFilledMap g r start t = IsFilled g r start (edge_count t.graph) t.graph (slice_index t.next) (slice_index t.previous)

-- the same while the face of dart d is filled, from `start` on
abbrev pub IsFillingMap : Multigraph → List (List ℕ) → ℕ → ℕ → ListedMap → Type 0
IsFillingMap g r start d t = IsFilling g r start d (edge_count t.graph) t.graph (slice_index t.next) (slice_index t.previous)

-- what was filled for the darts below `start` in the old map is filled for those below start + 1 in the new one
pub record Fills (start : ℕ) (old new : ListedMap) : Type 0 where
  pub map : IsSimpleMapOf new
  pub vertices : new.graph.vertex_count ≡ old.graph.vertex_count
  pub larger : dart_count old.graph ≤ dart_count new.graph
  pub filled : (g : Multigraph) (r : List (List ℕ)) → IsFilledMap g r start old → IsFilledMap g r (start + 1) new

-- each face is a triangle
abbrev pub AreTriangles : ListedMap → Type 0
AreTriangles t = (d : ℕ) → d < dart_count t.graph → is_triangle (slice_index t.next) d ≡ true

-- a map of g, where nothing was filled, was filled: it is a triangulation of g with whatever rotation system the old map had
abbrev pub FillsAll : Multigraph → ListedMap → ListedMap → Type 0
FillsAll g old new = (r : List (List ℕ)) → IsFilledMap g r 0 old → IsTriangulationOf g r new
