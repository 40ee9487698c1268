use Rattle.std.proofs.Common.{◌≡◌, ◌++◌, drop}
use Rattle.spqr_script.specs.Answers.Faces.{face_texts}
use Rattle.spqr_script.proofs.answers.face_list.push_faces.Given as goal

abbrev pub invariant-loop-i : goal.invariant-loop-i
invariant-loop-i l = l.out.items ++ face_texts l.part (drop l.i l.f) ≡ l.initial.out.items ++ face_texts l.part l.f
