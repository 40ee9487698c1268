use Rattle.std.proofs.Common.{◌+◌, ◌-◌, ℕ, List, slice_index_or, take, sym, subst, arith}
use Rattle.pair_split.proofs.Marking.{nothing}
use Rattle.pair_split.proofs.WritingSteps.{IsNoted, noted-set, noted-skip, noted-all}
use Rattle.pair_split.proofs.writing.note_layer.Goals as goal
use Rattle.pair_split.proofs.writing.note_layer.Goals.{then-edge-m, else-edge-m}

pub loop-edge-preserved : goal.loop-edge-preserved
loop-edge-preserved g c = (
  elim c.if-edge-m.branch [
    | then-edge-m w ↦ subst (λ (ups : List ℕ). IsNoted c.args.m c.args.layer (take (c.loop-edge.edge-index + 1) c.args.edges.now) c.args.ups.now ups) (sym w.ups-is)
        (noted-set c.args.m c.args.layer c.args.edges.now c.loop-edge.edge-index c.args.ups.now c.loop-edge.ups ((slice_index_or c.args.edges.now c.loop-edge.edge-index nothing).name - c.args.m) c.loop-edge-test.true c.loop-edge.invariant.0
        (omega (arith, w.if-edge-m.true)) (omega (arith, w.if-edge-m.true, c.loop-edge.auto.ups, c.requires c.loop-edge.edge-index nothing c.loop-edge-test.true)))
    | else-edge-m w ↦ subst (λ (ups : List ℕ). IsNoted c.args.m c.args.layer (take (c.loop-edge.edge-index + 1) c.args.edges.now) c.args.ups.now ups) (sym w.ups-is)
        (noted-skip c.args.m c.args.layer c.args.edges.now c.loop-edge.edge-index c.args.ups.now c.loop-edge.ups c.loop-edge-test.true c.loop-edge.invariant.0 (omega (arith, w.if-edge-m.false)))
  ],
  omega (arith, c.tick.ensures, c.loop-edge.invariant.1),
)

pub returns-clause-noted : goal.returns-clause-noted
returns-clause-noted g c = (noted-all c.args.m c.args.layer c.args.edges.now c.loop-edge.edge-index c.args.ups.now c.loop-edge.ups c.loop-edge-test.false c.loop-edge.invariant.0).0

pub returns-clause-kept : goal.returns-clause-kept
returns-clause-kept g c = (noted-all c.args.m c.args.layer c.args.edges.now c.loop-edge.edge-index c.args.ups.now c.loop-edge.ups c.loop-edge-test.false c.loop-edge.invariant.0).1
