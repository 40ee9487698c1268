use Rattle.faces.proofs.MapSteps.{map-face, map-permutes}
use Rattle.faces.proofs.MapVertices.{map-vertex, map-component}
use Rattle.faces.proofs.MapCounts.{map-vertices, map-components, map-faces, plane-map, map-plane}
use Rattle.faces.proofs.laws.rotation_system_is_map.Goals as goal

pub returns : goal.returns
returns c = record {
  is_map = map-permutes;
  vertices = map-vertex;
  faces = λ g r ok d l. map-face g r d ok l;
  components = map-component;
  isolated = λ g r ok s. (map-vertices g r ok s, map-faces g r ok s, map-components g r ok s);
  plane = λ g r ok s. (plane-map g r ok s, map-plane g r ok s);
}
