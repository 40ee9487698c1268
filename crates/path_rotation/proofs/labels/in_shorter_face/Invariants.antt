-- Both walks are on darts.
use Rattle.std.proofs.Common.{◌<◌}
use Rattle.faces.specs.Euler.{dart_count}
use Rattle.path_rotation.proofs.labels.in_shorter_face.Given as goal

abbrev pub invariant-loop : goal.invariant-loop
invariant-loop l = record {
  here : l.here < dart_count l.fn.g;
  there : l.there < dart_count l.fn.g;
}
