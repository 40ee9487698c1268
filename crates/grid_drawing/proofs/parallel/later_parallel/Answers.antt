use Rattle.std.proofs.Common.{◌∙◌, sym}
use Rattle.grid_drawing.proofs.SameEnds.{met-edge, met-end, pass-not_after, pass-not_same, met-one, met-none}
use Rattle.grid_drawing.proofs.parallel.later_parallel.Goals as goal
use Rattle.grid_drawing.proofs.parallel.later_parallel.Goals.{else-a-b-via-then-a-b+else-other_end-far, else-a-b-via-else-a-b}

pub other_end-requires-clause-edge : goal.other_end-requires-clause-edge
other_end-requires-clause-edge c = met-edge c.args.g.now c.lesser_end-near.result c.incident-b-items.result.now c.incident-b-items.ensures.value c.loop-b.b-index c.loop-b-test.true

pub other_end-requires-clause-end : goal.other_end-requires-clause-end
other_end-requires-clause-end c = met-end c.args.g.now c.lesser_end-near.result c.incident-b-items.result.now c.incident-b-items.ensures.value c.loop-b.b-index c.loop-b-test.true

pub loop-b-preserved : goal.loop-b-preserved
loop-b-preserved c =
    let g = c.args.g.now in
    let near = c.lesser_end-near.result in
    let edges = c.incident-b-items.result.now in
    elim c.else-a-b.branch [
      | else-a-b-via-then-a-b+else-other_end-far w ↦
          pass-not_same g c.lesser_end-near.ensures.graph near c.args.a c.requires c.lesser_end-near.ensures.end edges c.incident-b-items.ensures.value c.loop-b.b-index c.loop-b-test.true c.loop-b.invariant
          (λ e. w.if-other_end-far.false (w.other_end.ensures ∙ (e ∙ sym c.other_end-far.ensures)))
      | else-a-b-via-else-a-b w ↦
          pass-not_after g c.lesser_end-near.ensures.graph near c.args.a c.requires c.lesser_end-near.ensures.end edges c.incident-b-items.ensures.value c.loop-b.b-index c.loop-b-test.true c.loop-b.invariant w.if-a-b.false
    ]

pub returns-then-other_end-far : goal.returns-then-other_end-far
returns-then-other_end-far c =
    met-one c.args.g.now c.lesser_end-near.ensures.graph c.lesser_end-near.result c.args.a c.requires c.lesser_end-near.ensures.end c.incident-b-items.result.now c.incident-b-items.ensures.value
    c.loop-b.b-index c.loop-b-test.true c.loop-b.invariant c.if-a-b.true (sym c.other_end.ensures ∙ (c.if-other_end-far.true ∙ c.other_end-far.ensures))

pub returns : goal.returns
returns c =
    met-none c.args.g.now c.lesser_end-near.ensures.graph c.lesser_end-near.result c.args.a c.lesser_end-near.ensures.end c.incident-b-items.result.now c.incident-b-items.ensures.value
    c.loop-b.b-index c.loop-b-test.false c.loop-b.invariant
