use Rattle.std.proofs.Common.{slice_index, arith}
use Rattle.shift_method.proofs.Writes.{place-member}
use Rattle.shift_method.proofs.shape.cover.Goals as goal

pub bounds-gap-v : goal.bounds-gap-v
bounds-gap-v c = c.requires.gap_within (slice_index c.args.vertices.now c.loop-v.v-index) (place-member c.args.vertices.now c.loop-v.v-index c.loop-v-test.true)

pub bounds-offset-v : goal.bounds-offset-v
bounds-offset-v c = omega (arith, c.loop-v.invariant.size, c.requires.offset_within (slice_index c.args.vertices.now c.loop-v.v-index) (place-member c.args.vertices.now c.loop-v.v-index c.loop-v-test.true))
