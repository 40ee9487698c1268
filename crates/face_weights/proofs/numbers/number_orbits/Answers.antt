-- Each number begins an orbit or has a number.
use Rattle.std.proofs.Common.{◌<◌, ◌+◌, ℕ, List, length, slice_index, sym, subst, arith}
use Rattle.face_weights.specs.Numbers.{AreOrbitsNumbered}
use Rattle.face_weights.proofs.Numbering.{marked-no, marked-yes, orbits-whole, orbits-skip, orbits-more}
use Rattle.face_weights.proofs.numbers.number_orbits.Goals as goal
use Rattle.face_weights.proofs.numbers.number_orbits.Goals.{then-numbers-start, else-numbers-start}

pub number_orbit-requires-clause-whole : goal.number_orbit-requires-clause-whole
number_orbit-requires-clause-whole c = orbits-whole (length c.args.steps.now) (slice_index c.args.steps.now) c.requires.permutation c.loop-start.start c.loop-start.numbers c.loop-start.invariant (omega (arith, c.loop-start-test.true, c.loop-start.auto.start-end))

pub loop-start-preserved : goal.loop-start-preserved
loop-start-preserved c =
    let n = length c.args.steps.now in
    let f = slice_index c.args.steps.now in
    let s = c.loop-start.start in
    let l : s < n = omega (arith, c.loop-start-test.true, c.loop-start.auto.start-end) in
    let m : s < length c.loop-start.numbers = subst (λ z. s < z) (sym c.loop-start.invariant.places) l in
    elim c.if-numbers-start.branch [
      | then-numbers-start w ↦ subst (λ (z : List ℕ). AreOrbitsNumbered n f (s + 1) z) (sym w.numbers-is)
          (orbits-more n f c.requires.permutation s c.loop-start.numbers w.number_orbit.new.numbers c.loop-start.invariant (marked-no c.loop-start.numbers s m w.if-numbers-start.true) w.number_orbit.ensures)
      | else-numbers-start w ↦ subst (λ (z : List ℕ). AreOrbitsNumbered n f (s + 1) z) (sym w.numbers-is)
          (orbits-skip n f c.requires.permutation s c.loop-start.numbers c.loop-start.invariant l (marked-yes c.loop-start.numbers s m w.if-numbers-start.false))
    ]
