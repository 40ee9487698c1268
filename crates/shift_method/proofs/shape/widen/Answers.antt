use Rattle.std.proofs.Common.{◌-◌, length, slice_index, ◌+◌, arith}
use Rattle.std.proofs.Math.ListN.{length-set}
use Rattle.shift_method.proofs.Writes.{place-member, one-more-fits}
use Rattle.shift_method.proofs.shape.widen.Goals as goal

pub bounds-gap-vertices : goal.bounds-gap-vertices
bounds-gap-vertices c = c.requires.within (slice_index c.args.vertices.now 0) (place-member c.args.vertices.now 0 (omega (arith, c.requires.some)))

pub bounds-gap-vertices-3 : goal.bounds-gap-vertices-3
bounds-gap-vertices-3 c =
    omega (
      arith,
      length-set c.args.gap.now (slice_index c.args.vertices.now 0) (slice_index c.args.gap.now (slice_index c.args.vertices.now 0) + 1),
      c.requires.within (slice_index c.args.vertices.now (length c.args.vertices.now - 1)) (place-member c.args.vertices.now (length c.args.vertices.now - 1) (omega (arith, c.requires.some))),
    )

pub overflow_add-gap-2 : goal.overflow_add-gap-2
overflow_add-gap-2 c =
    let i = place-member c.args.vertices.now 0 (omega (arith, c.requires.some)) in
    let j = place-member c.args.vertices.now (length c.args.vertices.now - 1) (omega (arith, c.requires.some)) in
    omega (
      arith,
      one-more-fits c.args.gap.now (slice_index c.args.vertices.now 0) (slice_index c.args.vertices.now (length c.args.vertices.now - 1)) 4294967296
          (c.requires.within (slice_index c.args.vertices.now 0) i) (c.requires.fits (slice_index c.args.vertices.now 0) i) (c.requires.fits (slice_index c.args.vertices.now (length c.args.vertices.now - 1)) j),
    )

pub bounds-gap-vertices-4 : goal.bounds-gap-vertices-4
bounds-gap-vertices-4 c =
    omega (
      arith,
      length-set c.args.gap.now (slice_index c.args.vertices.now 0) (slice_index c.args.gap.now (slice_index c.args.vertices.now 0) + 1),
      c.requires.within (slice_index c.args.vertices.now (length c.args.vertices.now - 1)) (place-member c.args.vertices.now (length c.args.vertices.now - 1) (omega (arith, c.requires.some))),
    )
