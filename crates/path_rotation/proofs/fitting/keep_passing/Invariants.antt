-- Those that are kept so far.
use Rattle.std.proofs.Common.{◌≡◌, ◌==◌, filter, take, slice_index}
use Rattle.dart_maps.specs.Map.{twin}
use Rattle.path_rotation.proofs.fitting.keep_passing.Given as goal

abbrev pub invariant-loop-d : goal.invariant-loop-d
invariant-loop-d l = l.kept.items ≡ filter (λ d. slice_index l.fn.passed (slice_index l.fn.label (twin d)) == l.fn.stamp) (take l.d-index l.fn.darts)
