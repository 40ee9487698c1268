-- Each dart of the order is the least of its orbit or marked.
use Rattle.std.proofs.Common.{◌<◌, ◌≤◌, length, slice_index, sym, subst, arith}
use Rattle.faces.specs.Euler.{dart_count}
use Rattle.faces.proofs.Order.{InOrder, order-all}
use Rattle.faces.proofs.Listed.{listed-whole, listed-skip, listed-more}
use Rattle.faces.proofs.tracing.list_orbits.Goals as goal
use Rattle.faces.proofs.tracing.list_orbits.Goals.{then-not-marks-start+in_ok-walk_orbit+in_ok-push, else-not-marks-start}

pub bounds-marks-start : goal.bounds-marks-start
bounds-marks-start c =
    let g = c.args.graph.now in
    let in_order : InOrder g g.vertex_count c.args.order.now = subst (InOrder g g.vertex_count) (sym c.requires.in_order) (order-all g c.requires.graph) in
    let dart : slice_index c.args.order.now c.loop-start.start-index < dart_count g = in_order.darts c.loop-start.start-index c.loop-start-test.true in
    omega arith

pub walk_orbit-requires-clause-start_in : goal.walk_orbit-requires-clause-start_in
walk_orbit-requires-clause-start_in c =
    let g = c.args.graph.now in
    let in_order : InOrder g g.vertex_count c.args.order.now = subst (InOrder g g.vertex_count) (sym c.requires.in_order) (order-all g c.requires.graph) in
    in_order.darts c.loop-start.start-index c.loop-start-test.true

pub walk_orbit-requires-clause-whole_orbits : goal.walk_orbit-requires-clause-whole_orbits
walk_orbit-requires-clause-whole_orbits c =
    let g = c.args.graph.now in
    let in_order : InOrder g g.vertex_count c.args.order.now = subst (InOrder g g.vertex_count) (sym c.requires.in_order) (order-all g c.requires.graph) in
    let within : c.loop-start.start-index ≤ length c.args.order.now = omega arith in
    listed-whole g (slice_index c.args.images.now) c.args.order.now g.vertex_count c.loop-start.start-index c.loop-start.marks c.loop-start.faces c.requires.permutation in_order c.loop-start.invariant within

pub loop-start-preserved : goal.loop-start-preserved
loop-start-preserved c =
    let g = c.args.graph.now in
    let f = slice_index c.args.images.now in
    let order = c.args.order.now in
    let k = c.loop-start.start-index in
    let marks = c.loop-start.marks in
    let lists = c.loop-start.faces in
    let in_order : InOrder g g.vertex_count c.args.order.now = subst (InOrder g g.vertex_count) (sym c.requires.in_order) (order-all g c.requires.graph) in
    elim c.if-not-marks-start.branch [
      | then-not-marks-start+in_ok-walk_orbit+in_ok-push w ↦
          let more = listed-more g f order k marks w.walk_orbit.new.marks lists w.walk_orbit.new.pairs.items c.requires.graph c.requires.permutation in_order c.loop-start.invariant c.loop-start-test.true w.if-not-marks-start.true w.in_ok-walk_orbit.ensures.marked w.in_ok-walk_orbit.ensures.listed in
          rw (w.marks-is, w.faces-is, w.in_ok-push.ensures, w.deref.ensures.value) more
      | else-not-marks-start w ↦
          rw (w.marks-is, w.faces-is) (listed-skip g f order k marks lists c.requires.graph c.requires.permutation in_order c.loop-start.invariant c.loop-start-test.true w.if-not-marks-start.false)
    ]
