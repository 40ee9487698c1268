use Rattle.std.proofs.Common.{arith}
use Rattle.path_rotation.proofs.DartsAt.{incident-below, darts-step_yes, darts-step_no, darts-end}
use Rattle.path_rotation.proofs.fitting.darts_at.Goals as goal
use Rattle.path_rotation.proofs.fitting.darts_at.Goals.{then-drawn-edge+in_ok-push, else-drawn-edge}

pub bounds-drawn-edge : goal.bounds-drawn-edge
bounds-drawn-edge c = omega (arith, incident-below c.args.g.now c.args.v c.incident-edge-items.result.now c.incident-edge-items.ensures.value c.loop-edge.edge-index c.loop-edge-test.true, c.requires.each)

pub dart_from-requires : goal.dart_from-requires
dart_from-requires c = incident-below c.args.g.now c.args.v c.incident-edge-items.result.now c.incident-edge-items.ensures.value c.loop-edge.edge-index c.loop-edge-test.true

pub loop-edge-preserved : goal.loop-edge-preserved
loop-edge-preserved c =
    let g = c.args.g.now in
    let edges = c.incident-edge-items.result.now in
    elim c.if-drawn-edge.branch [
      | then-drawn-edge+in_ok-push w ↦
          rw (w.darts-is, w.in_ok-push.ensures.items, w.dart_from.ensures)
          (darts-step_yes g c.args.drawn.now c.args.v edges c.incident-edge-items.ensures.value c.loop-edge.edge-index c.loop-edge.darts.items c.loop-edge-test.true w.if-drawn-edge.true c.loop-edge.invariant)
      | else-drawn-edge w ↦
          rw w.darts-is
          (darts-step_no g c.args.drawn.now c.args.v edges c.incident-edge-items.ensures.value c.loop-edge.edge-index c.loop-edge.darts.items c.loop-edge-test.true w.if-drawn-edge.false c.loop-edge.invariant)
    ]

pub returns : goal.returns
returns c =
    darts-end c.args.g.now c.incident-edge-items.ensures.graph c.args.drawn.now c.args.v c.incident-edge-items.result.now c.incident-edge-items.ensures.value c.loop-edge.edge-index c.loop-edge.darts.items
    c.loop-edge-test.false c.loop-edge.invariant
