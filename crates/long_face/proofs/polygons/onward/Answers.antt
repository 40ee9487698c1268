use Rattle.std.proofs.Common.{◌+◌, ◌-◌, ◌*◌, ◌≤◌, length, slice_index_or, ap, arith, Fits-lit}
use Rattle.std.proofs.Math.Facts.{Fits-le}
use Rattle.skeletons.specs.Families.{system_at}
use Rattle.skel_compose.proofs.EndSums.{sum-in, sum-is, other-is, other-in}
use Rattle.long_face.proofs.PolygonSteps.{leaves-first, leaves-second}
use Rattle.skel_compose.proofs.Found.{items-few}
use Rattle.long_face.proofs.polygons.onward.Goals as goal

pub bounds-sums-v : goal.bounds-sums-v
bounds-sums-v c =
    let y = c.requires.block in
    let f = c.requires.family in
    sum-in y.0 c.args.tree.now y.1 c.args.k c.requires.polygon (system_at f.0 c.args.k) (f.1.systems c.args.k c.requires.polygon.0) c.args.i c.args.v c.requires.end c.args.sums.now c.requires.sums

pub overflow_sub-next : goal.overflow_sub-next
overflow_sub-next c =
    let y = c.requires.block in
    let f = c.requires.family in
    omega (arith, sum-is y.0 c.args.tree.now y.1 c.args.k c.requires.polygon (system_at f.0 c.args.k) (f.1.systems c.args.k c.requires.polygon.0) c.args.i c.args.v c.requires.end c.args.sums.now c.requires.sums)

pub bounds-items-next : goal.bounds-items-next
bounds-items-next c =
    let y = c.requires.block in
    let f = c.requires.family in
    omega (
      arith,
      ap length c.items.ensures,
      other-is y.0 c.args.tree.now y.1 c.args.k c.requires.polygon (system_at f.0 c.args.k) (f.1.systems c.args.k c.requires.polygon.0) c.args.i c.args.v c.requires.end c.args.sums.now c.requires.sums,
      other-in y.0 c.args.tree.now y.1 c.args.k c.requires.polygon (system_at f.0 c.args.k) (f.1.systems c.args.k c.requires.polygon.0) c.args.i c.args.v c.requires.end,
    )

pub overflow_mul-result : goal.overflow_mul-result
overflow_mul-result c =
    let y = c.requires.block in
    let f = c.requires.family in
    let h : 2 * (slice_index_or c.args.sums.now c.args.v 0 - c.args.i) ≤ 100001 = omega (
      arith,
      other-is y.0 c.args.tree.now y.1 c.args.k c.requires.polygon (system_at f.0 c.args.k) (f.1.systems c.args.k c.requires.polygon.0) c.args.i c.args.v c.requires.end c.args.sums.now c.requires.sums,
      other-in y.0 c.args.tree.now y.1 c.args.k c.requires.polygon (system_at f.0 c.args.k) (f.1.systems c.args.k c.requires.polygon.0) c.args.i c.args.v c.requires.end,
      items-few y.0 c.args.tree.now y.1 c.args.k c.requires.polygon.0 y.2,
    ) in
    Fits-le h (Fits-lit tt)

pub overflow_mul-result-else-items-next : goal.overflow_mul-result-else-items-next
overflow_mul-result-else-items-next c =
    let y = c.requires.block in
    let f = c.requires.family in
    let h : 2 * (slice_index_or c.args.sums.now c.args.v 0 - c.args.i) ≤ 100001 = omega (
      arith,
      other-is y.0 c.args.tree.now y.1 c.args.k c.requires.polygon (system_at f.0 c.args.k) (f.1.systems c.args.k c.requires.polygon.0) c.args.i c.args.v c.requires.end c.args.sums.now c.requires.sums,
      other-in y.0 c.args.tree.now y.1 c.args.k c.requires.polygon (system_at f.0 c.args.k) (f.1.systems c.args.k c.requires.polygon.0) c.args.i c.args.v c.requires.end,
      items-few y.0 c.args.tree.now y.1 c.args.k c.requires.polygon.0 y.2,
    ) in
    Fits-le h (Fits-lit tt)

pub overflow_add-result : goal.overflow_add-result
overflow_add-result c =
    let y = c.requires.block in
    let f = c.requires.family in
    let h : 2 * (slice_index_or c.args.sums.now c.args.v 0 - c.args.i) + 1 ≤ 100001 = omega (
      arith,
      other-is y.0 c.args.tree.now y.1 c.args.k c.requires.polygon (system_at f.0 c.args.k) (f.1.systems c.args.k c.requires.polygon.0) c.args.i c.args.v c.requires.end c.args.sums.now c.requires.sums,
      other-in y.0 c.args.tree.now y.1 c.args.k c.requires.polygon (system_at f.0 c.args.k) (f.1.systems c.args.k c.requires.polygon.0) c.args.i c.args.v c.requires.end,
      items-few y.0 c.args.tree.now y.1 c.args.k c.requires.polygon.0 y.2,
    ) in
    Fits-le h (Fits-lit tt)

-- the dart of the other item
pub returns-then-items-next : goal.returns-then-items-next
returns-then-items-next c = λ family f.
    let y = c.requires.block in
    let x = slice_index_or c.args.sums.now c.args.v 0 - c.args.i in
    leaves-first y.0 c.args.tree.now y.1 c.args.k c.requires.polygon family f c.args.i c.args.v c.requires.end c.items.result.now c.items.ensures x
    (other-is y.0 c.args.tree.now y.1 c.args.k c.requires.polygon (system_at family c.args.k) (f.systems c.args.k c.requires.polygon.0) c.args.i c.args.v c.requires.end c.args.sums.now c.requires.sums) c.if-items-next.true

pub returns-else-items-next : goal.returns-else-items-next
returns-else-items-next c = λ family f.
    let y = c.requires.block in
    let x = slice_index_or c.args.sums.now c.args.v 0 - c.args.i in
    leaves-second y.0 c.args.tree.now y.1 c.args.k c.requires.polygon family f c.args.i c.args.v c.requires.end c.items.result.now c.items.ensures x
    (other-is y.0 c.args.tree.now y.1 c.args.k c.requires.polygon (system_at family c.args.k) (f.systems c.args.k c.requires.polygon.0) c.args.i c.args.v c.requires.end c.args.sums.now c.requires.sums) c.if-items-next.false
