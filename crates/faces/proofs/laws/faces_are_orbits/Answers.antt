use Rattle.std.proofs.Common.{◌+◌, ℕ, ap}
use Rattle.permutations.specs.Count.{count}
use Rattle.faces.specs.Euler.{face_step, is_isolated}
use Rattle.faces.proofs.DartLemmas.{face_step-permutes, face_back}
use Rattle.faces.proofs.ListedOnce.{listed-orbit, listed-once, listed-count}
use Rattle.faces.proofs.laws.faces_are_orbits.Goals as goal

pub returns : goal.returns
returns c = record {
  orbits = λ g r ok s. listed-orbit g (face_step g r) ok (face_back g r, face_step-permutes g r ok s);
  once = λ g r ok s. listed-once g (face_step g r) ok (face_back g r, face_step-permutes g r ok s);
  counted = λ g r ok s. ap (λ (k : ℕ). k + count g.vertex_count (is_isolated g)) (listed-count g (face_step g r) ok (face_back g r, face_step-permutes g r ok s));
}
