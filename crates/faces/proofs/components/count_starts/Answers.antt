-- Each vertex leads its component or is marked.
use Rattle.std.proofs.Common.{arith}
use Rattle.permutations.specs.Relation.{connected}
use Rattle.permutations.proofs.Relation.{connected-transitive}
use Rattle.faces.proofs.Found.{found-few, found-more, found-skip}
use Rattle.faces.proofs.Neighbours.{found-alike}
use Rattle.faces.proofs.components.count_starts.Goals as goal
use Rattle.faces.proofs.components.count_starts.Goals.{then-not-marks-start+in_ok-mark_component, else-not-marks-start}

pub overflow_add-components : goal.overflow_add-components
overflow_add-components c =
    let few = found-few (connected c.args.graph.now.ends) c.loop-start.start c.loop-start.marks c.loop-start.components c.loop-start.invariant in
    omega arith

pub mark_component-requires-clause-whole_components : goal.mark_component-requires-clause-whole_components
mark_component-requires-clause-whole_components c = found-alike c.args.graph.now c.loop-start.start c.loop-start.marks c.loop-start.components c.loop-start.invariant

pub loop-start-preserved : goal.loop-start-preserved
loop-start-preserved c =
    let r = connected c.args.graph.now.ends in
    elim c.if-not-marks-start.branch [
      | then-not-marks-start+in_ok-mark_component w ↦
          rw (w.marks-is, w.components-is) (found-more r c.loop-start.start c.loop-start.marks w.mark_component.new.marks c.loop-start.components c.loop-start.invariant w.if-not-marks-start.true w.in_ok-mark_component.ensures)
      | else-not-marks-start w ↦
          rw (w.marks-is, w.components-is) (found-skip r c.loop-start.start c.loop-start.marks c.loop-start.components (λ y x k. connected-transitive c.args.graph.now.ends y c.loop-start.start x) c.loop-start.invariant w.if-not-marks-start.false)
    ]
