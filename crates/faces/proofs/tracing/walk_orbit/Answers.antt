-- A step of the walk, and its end.
use Rattle.std.proofs.Common.{◌<◌, ◌∙◌, length, slice_index, arith}
use Rattle.faces.specs.Euler.{dart_count}
use Rattle.faces.proofs.Walk.{walked-all}
use Rattle.faces.proofs.Traced.{traced-none, traced-more, traced-all}
use Rattle.faces.proofs.tracing.walk_orbit.Goals as goal

pub loop-marks-init : goal.loop-marks-init
loop-marks-init c = (
  rw c.clear.ensures.items (traced-none c.args.graph.now (slice_index c.args.images.now) c.args.marks.now c.args.start),
  c.requires.start_in,
)

pub loop-marks-preserved : goal.loop-marks-preserved
loop-marks-preserved c =
    let here : c.loop-marks.place < length c.loop-marks.marks = omega arith in
    let more = traced-more c.args.graph.now (slice_index c.args.images.now) c.args.marks.now c.loop-marks.marks c.args.start c.loop-marks.place c.loop-marks.pairs.items c.loop-marks.invariant.0 here c.loop-marks-test.true in (
      rw (c.in_ok-push.ensures.items, c.pair_of.ensures) more,
      c.requires.permutation.1.forth c.loop-marks.place c.loop-marks.invariant.1,
    )

pub returns-clause-marked : goal.returns-clause-marked
returns-clause-marked c =
    walked-all (dart_count c.args.graph.now) (slice_index c.args.images.now) c.requires.permutation c.args.marks.now c.loop-marks.marks c.args.start c.loop-marks.place
    c.loop-marks.invariant.0.walked c.requires.start_in c.requires.whole_orbits c.requires.unmarked c.loop-marks-test.false

pub returns-clause-listed : goal.returns-clause-listed
returns-clause-listed c =
    traced-all (dart_count c.args.graph.now) c.args.graph.now (slice_index c.args.images.now) c.requires.permutation c.args.marks.now c.loop-marks.marks c.args.start c.loop-marks.place c.loop-marks.pairs.items
    c.loop-marks.invariant.0 c.requires.same_length c.requires.start_in c.requires.whole_orbits c.requires.unmarked c.loop-marks-test.false
