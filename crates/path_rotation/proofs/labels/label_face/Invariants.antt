-- The face is walked along so far, and its darts are labelled.
use Rattle.std.proofs.Common.{◌≡◌, ◌<◌, length, slice_index}
use Rattle.permutations.specs.Permutation.{iterate}
use Rattle.dart_maps.specs.Map.{face}
use Rattle.faces.specs.Euler.{dart_count}
use Rattle.path_rotation.proofs.FaceLabels.{AreWritten}
use Rattle.path_rotation.proofs.labels.label_face.Given as goal

abbrev pub invariant-loop : goal.invariant-loop
invariant-loop l = record {
  written : AreWritten (face (slice_index l.fn.next)) l.fn.start l.counter l.initial.label l.label;
  here : iterate (face (slice_index l.fn.next)) l.counter l.fn.start ≡ l.at;
  below : l.at < dart_count l.fn.g;
  size : length l.label ≡ dart_count l.fn.g;
}
