-- What is proved of rotation systems and their faces, as statements.
use Rattle.std.specs.Prelude.{◌≡◌, ◌≢◌, ℕ, ◌+◌, ◌*◌, ◌<◌, ◌≤◌, ◌↔◌, ◌==◌, true, false, List, length}
use Rattle.permutations.specs.Count.{count}
use Rattle.permutations.specs.Relation.{connected}
use Rattle.permutations.specs.Permutation.{reaches}
use Rattle.multigraph.specs.Graph.{Multigraph, IsGraph, edge_count, incident_edges}
use Rattle.rotations.specs.Rotation.{IsRotationSystem}
use Rattle.dart_maps.specs.Map as maps
use Rattle.faces.specs.Euler.{tail, dart_count, face_step, is_isolated, face_count, component_count, IsPlane}
use Rattle.faces.specs.Subgraph.{IsSubgraph, IsRestriction}
use Rattle.graph_theory.specs.Block.{EdgesShareBlock}
use Rattle.faces.specs.Maps.{dart_after, dart_before, IsPlaneMap}
use Rattle.rotations.specs.Runs.{mirror_image}

-- Euler's inequality: for every rotation system of every graph, V + F is at most E + 2C
abbrev pub EulersInequality : Type 0
EulersInequality = (g : Multigraph) (r : List (List ℕ)) → IsGraph g → IsRotationSystem g r → g.vertex_count + face_count g r ≤ edge_count g + 2 * component_count g

-- the darts of a rotation system are a map
abbrev pub RotationSystemIsMap : Type 0
RotationSystemIsMap = (g : Multigraph) (r : List (List ℕ)) → IsGraph g → IsRotationSystem g r → maps.IsMap (edge_count g) (dart_after g r) (dart_before g r)

-- darts are of one vertex of the map exactly where they leave one vertex
abbrev pub MapHasVertices : Type 0
MapHasVertices = (g : Multigraph) (r : List (List ℕ)) → IsGraph g → IsRotationSystem g r → (c d : ℕ) → c < dart_count g → d < dart_count g
    → maps.same_vertex (edge_count g) (dart_after g r) c d ≡ (tail g c == tail g d)

-- the step along a face of the map is the face step
abbrev pub MapHasFaces : Type 0
MapHasFaces = (g : Multigraph) (r : List (List ℕ)) → IsGraph g → (d : ℕ) → d < dart_count g → maps.face (dart_after g r) d ≡ face_step g r d

-- darts are of one component of the map exactly where they leave vertices that edges connect
abbrev pub MapHasComponents : Type 0
MapHasComponents = (g : Multigraph) (r : List (List ℕ)) → IsGraph g → IsRotationSystem g r → (c d : ℕ) → c < dart_count g → d < dart_count g
    → maps.same_component (edge_count g) (dart_after g r) c d ≡ connected g.ends (tail g c) (tail g d)

-- an isolated vertex is a vertex, a face and a component in addition to those of the map
abbrev pub IsolatedVerticesBesides : Type 0
IsolatedVerticesBesides = (g : Multigraph) (r : List (List ℕ)) → IsGraph g → IsRotationSystem g r
    → (maps.vertex_count (edge_count g) (dart_after g r) + count g.vertex_count (is_isolated g) ≡ g.vertex_count)
    × (maps.face_count (edge_count g) (dart_after g r) + count g.vertex_count (is_isolated g) ≡ face_count g r)
    × (maps.component_count (edge_count g) (dart_after g r) + count g.vertex_count (is_isolated g) ≡ component_count g)

-- a rotation system is plane exactly where its map of darts is
abbrev pub PlaneWhereMapIs : Type 0
PlaneWhereMapIs = (g : Multigraph) (r : List (List ℕ)) → IsGraph g → IsRotationSystem g r → (IsPlane g r ↔ IsPlaneMap g r)

-- the mirror image of a rotation system is one
abbrev pub MirrorIsRotationSystem : Type 0
MirrorIsRotationSystem = (g : Multigraph) (r : List (List ℕ)) → IsRotationSystem g r → IsRotationSystem g (mirror_image r)

-- around each vertex it goes back
abbrev pub MirrorGoesBack : Type 0
MirrorGoesBack = (g : Multigraph) (r : List (List ℕ)) → IsGraph g → IsRotationSystem g r → (d : ℕ) → d < dart_count g → dart_after g (mirror_image r) d ≡ dart_before g r d

-- the mirror image of the mirror image is the rotation system
abbrev pub MirrorTwice : Type 0
MirrorTwice = (g : Multigraph) (r : List (List ℕ)) → IsRotationSystem g r → mirror_image (mirror_image r) ≡ r

-- the mirror image has equally many faces
abbrev pub MirrorKeepsFaces : Type 0
MirrorKeepsFaces = (g : Multigraph) (r : List (List ℕ)) → IsGraph g → IsRotationSystem g r → face_count g (mirror_image r) ≡ face_count g r

-- and is plane exactly where the rotation system is
abbrev pub MirrorKeepsPlane : Type 0
MirrorKeepsPlane = (g : Multigraph) (r : List (List ℕ)) → IsGraph g → IsRotationSystem g r → (IsPlane g r ↔ IsPlane g (mirror_image r))

-- where some vertex has three edges or more, it is another one
abbrev pub MirrorDiffers : Type 0
MirrorDiffers = (g : Multigraph) (r : List (List ℕ)) → IsRotationSystem g r → (v : ℕ) → v < g.vertex_count → 3 ≤ length (incident_edges g v) → mirror_image r ≢ r

-- in a plane rotation system of a graph whose edges share a block each face passes each vertex at most once
abbrev pub FacePassesOnce : Type 0
FacePassesOnce = (g : Multigraph) (r : List (List ℕ)) → IsGraph g → IsRotationSystem g r → IsPlane g r → EdgesShareBlock g → (c d : ℕ) → c < dart_count g → d < dart_count g
    → reaches (dart_count g) (face_step g r) c d ≡ true → tail g c ≡ tail g d → c ≡ d

-- what a rotation system leaves of itself on a subgraph: there is such a rotation system of the subgraph
abbrev pub RestrictionExists : Type 0
RestrictionExists = (part g : Multigraph) (edge vertex : ℕ → ℕ) (outer : List (List ℕ)) → IsGraph part → IsGraph g → IsSubgraph part g edge vertex → IsRotationSystem g outer
    → (inner : List (List ℕ)) × IsRotationSystem part inner × IsRestriction part edge vertex outer inner

-- and it is plane where the whole is
abbrev pub RestrictionKeepsPlane : Type 0
RestrictionKeepsPlane = (part g : Multigraph) (edge vertex : ℕ → ℕ) (outer inner : List (List ℕ)) → IsGraph part → IsGraph g → IsSubgraph part g edge vertex → IsRotationSystem g outer → IsRotationSystem part inner
    → IsRestriction part edge vertex outer inner → IsPlane g outer → IsPlane part inner

-- with two edges or more the two darts of an edge lie on different faces
abbrev pub EdgeOnTwoFaces : Type 0
EdgeOnTwoFaces = (g : Multigraph) (r : List (List ℕ)) → IsGraph g → IsRotationSystem g r → IsPlane g r → EdgesShareBlock g → 2 ≤ edge_count g → (d : ℕ) → d < dart_count g
    → reaches (dart_count g) (face_step g r) d (maps.twin d) ≡ false

-- a map in which darts are of one vertex exactly where they leave one vertex of the graph is the map of a rotation system
abbrev pub MapIsRotationSystem : Type 0
MapIsRotationSystem = (g : Multigraph) → IsGraph g → (next previous : ℕ → ℕ) → maps.IsMap (edge_count g) next previous
    → ((c d : ℕ) → c < dart_count g → d < dart_count g → maps.same_vertex (edge_count g) next c d ≡ (tail g c == tail g d))
    → (r : List (List ℕ)) × IsRotationSystem g r × ((d : ℕ) → d < dart_count g → dart_after g r d ≡ next d)

-- and of one only: rotation systems with one map are the same lists
abbrev pub MapTellsRotationSystem : Type 0
MapTellsRotationSystem = (g : Multigraph) (r q : List (List ℕ)) → IsRotationSystem g r → IsRotationSystem g q → ((d : ℕ) → d < dart_count g → dart_after g r d ≡ dart_after g q d) → r ≡ q
