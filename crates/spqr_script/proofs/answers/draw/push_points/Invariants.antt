use Rattle.std.proofs.Common.{◌≡◌, ◌++◌, drop}
use Rattle.spqr_script.specs.Answers.Draw.{point_texts}
use Rattle.spqr_script.proofs.answers.draw.push_points.Given as goal

abbrev pub invariant-loop-v : goal.invariant-loop-v
invariant-loop-v l = l.out.items ++ point_texts (drop l.v l.part.vertices) (drop l.v l.points) ≡ l.initial.out.items ++ point_texts l.part.vertices l.points
