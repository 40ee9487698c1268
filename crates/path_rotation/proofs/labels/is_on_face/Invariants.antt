-- The walks are on the faces.
use Rattle.std.proofs.Common.{◌≡◌, ◌<◌, true, slice_index}
use Rattle.multigraph.specs.Graph.{edge_count}
use Rattle.dart_maps.specs.Map.{same_face}
use Rattle.faces.specs.Euler.{dart_count}
use Rattle.path_rotation.proofs.labels.is_on_face.Given as goal

abbrev pub invariant-loop : goal.invariant-loop
invariant-loop l = record {
  below : l.here < dart_count l.fn.g;
  face : same_face (edge_count l.fn.g) (slice_index l.fn.next) l.fn.from l.here ≡ true;
  other_below : l.there < dart_count l.fn.g;
  other_face : same_face (edge_count l.fn.g) (slice_index l.fn.next) l.fn.to l.there ≡ true;
}
