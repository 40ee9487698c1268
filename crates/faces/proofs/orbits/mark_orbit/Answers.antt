-- A step of the walk, and its end.
use Rattle.std.proofs.Common.{◌<◌, length, arith, slice_index}
use Rattle.faces.proofs.Walk.{walked-more, walked-all}
use Rattle.faces.proofs.orbits.mark_orbit.Goals as goal

pub loop-marks-preserved : goal.loop-marks-preserved
loop-marks-preserved c =
    let here : c.loop-marks.place < length c.loop-marks.marks = omega arith in (
      walked-more (slice_index c.args.images.now) c.args.marks.now c.loop-marks.marks c.args.start c.loop-marks.place c.loop-marks.invariant.0 here c.loop-marks-test.true,
      c.requires.permutation.1.forth c.loop-marks.place c.loop-marks.invariant.1,
    )

pub returns : goal.returns
returns c =
    walked-all (length c.args.images.now) (slice_index c.args.images.now) c.requires.permutation c.args.marks.now c.loop-marks.marks c.args.start c.loop-marks.place
    c.loop-marks.invariant.0 c.requires.start_in c.requires.whole_orbits c.requires.unmarked c.loop-marks-test.false
