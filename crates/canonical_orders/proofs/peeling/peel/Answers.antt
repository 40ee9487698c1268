-- One vertex more is removed, until two are left.
use Rattle.std.proofs.Common.{◌<◌, ℕ, List, sym, subst, arith}
use Rattle.faces.specs.Euler.{dart_count}
use Rattle.canonical_orders.specs.Order.{Removed}
use Rattle.canonical_orders.specs.State.{IsPartOrder}
use Rattle.canonical_orders.proofs.OrderStart.{second-in}
use Rattle.canonical_orders.proofs.PartOrders.{part-free, part-ready, part-step, part-end}
use Rattle.canonical_orders.proofs.peeling.peel.Goals as goal

pub head-requires : goal.head-requires
head-requires c = subst (λ (d : ℕ). d < dart_count c.args.map.now.graph) (sym c.face.ensures) (second-in c.args.map.now c.requires)

pub loop-init : goal.loop-init
loop-init c =
    let t = c.args.map.now in
    let contour = c.in_ok-contour.contour in (
      subst (λ (order : List Removed). IsPartOrder t order contour.left.items contour.on.items contour.met.items) (sym c.new-order.ensures.items) c.in_ok-contour.ensures,
      omega (arith, c.new-order.ensures.len),
    )

pub next_free-vertex-requires-clause-met : goal.next_free-vertex-requires-clause-met
next_free-vertex-requires-clause-met c = c.loop.invariant.0.kept.counted

pub next_free-vertex-requires-clause-some_free : goal.next_free-vertex-requires-clause-some_free
next_free-vertex-requires-clause-some_free c =
    let s = c.loop.contour in
    part-free c.args.map.now c.requires c.loop.order.items s.left.items s.on.items s.met.items c.loop.invariant.0 (omega (arith, c.loop.invariant.1, c.loop-test.true, c.vertex_count-end.ensures))

pub remove-requires-clause-ready : goal.remove-requires-clause-ready
remove-requires-clause-ready c =
    let s = c.loop.contour in
    part-ready c.args.map.now c.requires c.loop.order.items s.left.items s.on.items s.met.items c.loop.invariant.0 c.next_free-vertex.result c.next_free-vertex.ensures

pub loop-preserved : goal.loop-preserved
loop-preserved c =
    let t = c.args.map.now in
    let s = c.loop.contour in
    let new = c.remove.new.self in (
      subst (λ (order : List Removed). IsPartOrder t order new.left.items new.on.items new.met.items) (sym c.in_ok-push-2.ensures.items)
          (part-step t c.requires c.loop.order.items s.left.items s.on.items s.met.items c.loop.invariant.0 c.next_free-vertex.result c.in_ok-removal.removal new.left.items new.on.items new.met.items c.next_free-vertex.ensures c.in_ok-removal.ensures),
      omega (arith, c.in_ok-push-2.ensures.len, c.loop.invariant.1),
    )

pub returns : goal.returns
returns c =
    let s = c.loop.contour in
    part-end c.args.map.now c.requires c.loop.order.items s.left.items s.on.items s.met.items c.loop.invariant.0 (omega (arith, c.loop.invariant.1, c.loop-test.false, c.vertex_count-end.ensures, c.requires.map.three, c.loop.auto.counter-end))
