-- The map of a plane rotation system draws its graph.
use Rattle.std.proofs.Common.{ℕ, List, refl}
use Rattle.multigraph.specs.Graph.{Multigraph, edge_count, IsGraph}
use Rattle.rotations.specs.Rotation.{IsRotationSystem}
use Rattle.faces.specs.Euler.{IsPlane}
use Rattle.faces.specs.Maps.{dart_after, dart_before}
use Rattle.faces.proofs.MapSteps.{map-permutes, tail-in}
use Rattle.faces.proofs.MapVertices.{map-vertex}
use Rattle.faces.proofs.MapCounts.{plane-map}
use Rattle.drawn_maps.specs.Drawn.{IsDrawn}

-- a plane rotation system draws the graph
pub to-drawn : (g : Multigraph) (r : List (List ℕ)) → IsGraph g → IsRotationSystem g r → IsPlane g r → IsDrawn (edge_count g) g (dart_after g r) (dart_before g r)
to-drawn g r gg is plane = record {
  edges = refl;
  map = map-permutes g r gg is;
  plane = plane-map g r gg is plane;
  told = λ c d l k. map-vertex g r gg is c d l k;
  inside = λ d l. tail-in g d gg l;
}
