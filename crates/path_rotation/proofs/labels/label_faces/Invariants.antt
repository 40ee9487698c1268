-- The faces of the darts so far have their labels.
use Rattle.std.proofs.Common.{◌≡◌, length, slice_index}
use Rattle.dart_maps.specs.Map.{face}
use Rattle.faces.specs.Euler.{dart_count}
use Rattle.path_rotation.proofs.FaceLabels.{LabelOrbits}
use Rattle.path_rotation.proofs.labels.label_faces.Given as goal

abbrev pub invariant-loop-d : goal.invariant-loop-d
invariant-loop-d l = record {
  faces : LabelOrbits (dart_count l.fn.g) (face (slice_index l.fn.next)) 4294967295 l.d l.label;
  size : length l.label ≡ dart_count l.fn.g;
}
