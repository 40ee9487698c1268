-- A step of the walk, and its end.
use Rattle.std.proofs.Common.{◌<◌, ◌∙◌, length, slice_index, sym, subst, arith}
use Rattle.face_weights.proofs.Numbering.{marked-no, marked-yes, upto-more, upto-less, upto-all}
use Rattle.face_weights.proofs.numbers.number_orbit.Goals as goal

pub loop-numbers-smaller : goal.loop-numbers-smaller
loop-numbers-smaller c =
    let w = c.loop-numbers.invariant.0 in
    let l : c.loop-numbers.place < length c.loop-numbers.numbers = subst (λ n. c.loop-numbers.place < n) (sym (w.places ∙ c.requires.places)) c.loop-numbers.invariant.1 in
    upto-less (slice_index c.args.steps.now) c.args.numbers.now c.loop-numbers.numbers c.args.start c.loop-numbers.place w l (omega (arith, c.requires.start_in, c.requires.few)) c.loop-numbers-test.true

pub loop-numbers-preserved : goal.loop-numbers-preserved
loop-numbers-preserved c =
    let w = c.loop-numbers.invariant.0 in
    let l : c.loop-numbers.place < length c.loop-numbers.numbers = subst (λ n. c.loop-numbers.place < n) (sym (w.places ∙ c.requires.places)) c.loop-numbers.invariant.1 in (
      upto-more (slice_index c.args.steps.now) c.args.numbers.now c.loop-numbers.numbers c.args.start c.loop-numbers.place w l (omega (arith, c.requires.start_in, c.requires.few)) c.loop-numbers-test.true,
      c.requires.permutation.1.forth c.loop-numbers.place c.loop-numbers.invariant.1,
    )

pub returns : goal.returns
returns c =
    let w = c.loop-numbers.invariant.0 in
    let l : c.loop-numbers.place < length c.loop-numbers.numbers = subst (λ n. c.loop-numbers.place < n) (sym (w.places ∙ c.requires.places)) c.loop-numbers.invariant.1 in
    upto-all (length c.args.steps.now) (slice_index c.args.steps.now) c.requires.permutation c.args.numbers.now c.loop-numbers.numbers c.args.start c.loop-numbers.place w c.requires.start_in c.requires.whole
    (marked-no c.args.numbers.now c.args.start (subst (λ n. c.args.start < n) (sym c.requires.places) c.requires.start_in) c.requires.unnumbered)
    (marked-yes c.loop-numbers.numbers c.loop-numbers.place l c.loop-numbers-test.false)
