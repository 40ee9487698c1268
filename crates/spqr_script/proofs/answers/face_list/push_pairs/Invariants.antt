use Rattle.std.proofs.Common.{◌≡◌, ◌++◌, drop}
use Rattle.spqr_script.specs.Answers.Faces.{spaced_pairs}
use Rattle.spqr_script.proofs.answers.face_list.push_pairs.Given as goal

abbrev pub invariant-loop-v : goal.invariant-loop-v
invariant-loop-v l = l.out.items ++ spaced_pairs l.part (drop l.v-index l.pairs) ≡ l.initial.out.items ++ spaced_pairs l.part l.pairs
