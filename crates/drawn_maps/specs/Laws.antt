-- What is proved of maps that draw a graph, as statements.
use Rattle.std.specs.Prelude.{◌≡◌, ℕ, ◌+◌, ◌*◌, ◌<◌, true, List}
use Rattle.dart_maps.specs.Map.{twin, same_face}
use Rattle.multigraph.specs.Graph.{Multigraph, edge_count, IsGraph}
use Rattle.rotations.specs.Rotation.{IsRotationSystem}
use Rattle.faces.specs.Euler.{tail, IsPlane}
use Rattle.faces.specs.Maps.{dart_after, dart_before}
use Rattle.drawn_maps.specs.Drawn.{IsDrawn, with_edge, hung, joined}

-- the map of a plane rotation system draws its graph
abbrev pub PlaneSystemDraws : Type 0
PlaneSystemDraws = (g : Multigraph) (r : List (List ℕ)) → IsGraph g → IsRotationSystem g r → IsPlane g r → IsDrawn (edge_count g) g (dart_after g r) (dart_before g r)

-- where a map draws a graph, one with a new edge after dart p, to a new vertex, draws the graph with these
abbrev pub EdgeToNewVertex : Type 0
EdgeToNewVertex = (m : ℕ) (g : Multigraph) (f b : ℕ → ℕ) → IsDrawn m g f b → (p : ℕ) → p < 2 * m
    → (back : ℕ → ℕ) × IsDrawn (m + 1) (with_edge g (g.vertex_count + 1) (tail g p, g.vertex_count)) (hung m p f) back

-- and one with a new edge after darts p and q, whose corners are in one face, draws the graph with this edge
abbrev pub EdgeInFace : Type 0
EdgeInFace = (m : ℕ) (g : Multigraph) (f b : ℕ → ℕ) → IsDrawn m g f b → (p : ℕ) → p < 2 * m → (q : ℕ) → q < 2 * m → same_face m f (twin p) (twin q) ≡ true
    → (back : ℕ → ℕ) × IsDrawn (m + 1) (with_edge g g.vertex_count (tail g p, tail g q)) (joined m p q f) back
