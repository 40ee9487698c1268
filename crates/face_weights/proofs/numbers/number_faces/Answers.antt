use Rattle.std.proofs.Common.{◌≡◌, ◌++◌, ℕ, List, length, take, drop, slice_index, false, sym, ◌∙◌, subst, arith}
use Rattle.std.proofs.lemmas.Grind.{common_steps}
use Rattle.multigraph.specs.Marks.{is_marked}
use Rattle.faces.proofs.FaceSteps.{steps-permutation}
use Rattle.face_weights.specs.Numbers.{marks_of, AreOrbitsNumbered}
use Rattle.face_weights.proofs.Numbering.{marked-none, steps-tell}
use Rattle.face_weights.proofs.numbers.number_faces.Goals as goal

pub number_orbits-requires-clause-permutation : goal.number_orbits-requires-clause-permutation
number_orbits-requires-clause-permutation c = let q = c.requires in steps-permutation q.0 q.1 c.args.steps.now q.2 q.4 q.5

pub number_orbits-requires-clause-none : goal.number_orbits-requires-clause-none
number_orbits-requires-clause-none c = subst (λ (z : List ℕ). (x : ℕ) → is_marked (marks_of z) x ≡ false) (sym (c.deref_mut.ensures.value ∙ c.in_ok-renew.ensures)) (marked-none (length c.args.steps.now))

pub returns : goal.returns
returns c = λ g r ok system all.
    let s : take c.renew.new.list.len (c.number_orbits.new.numbers ++ drop (length c.number_orbits.new.numbers) c.renew.new.list.items) ≡ c.number_orbits.new.numbers = grind (arith, common_steps) in
    steps-tell g r c.args.steps.now ok system all (take c.renew.new.list.len (c.number_orbits.new.numbers ++ drop (length c.number_orbits.new.numbers) c.renew.new.list.items))
    (subst (AreOrbitsNumbered (length c.args.steps.now) (slice_index c.args.steps.now) (length c.args.steps.now)) (sym s) c.number_orbits.ensures)
