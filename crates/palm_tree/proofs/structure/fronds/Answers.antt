use Rattle.std.proofs.Common.{◌+◌, false, not, sym, subst, ap, arith}
use Rattle.palm_tree.specs.Growing.{Tells, is_tree_edge}
use Rattle.search_forest.proofs.Telling.{tells-more}
use Rattle.palm_tree.proofs.structure.fronds.Goals as goal

pub loop-edge-preserved : goal.loop-edge-preserved
loop-edge-preserved g c = (
  subst (Tells false (λ e. not (is_tree_edge c.args.search.now e)) (c.loop-edge.edge + 1)) (sym c.in_ok-push.ensures.items)
      (tells-more false (λ e. not (is_tree_edge c.args.search.now e)) c.loop-edge.edge c.loop-edge.fronds.items (not c.is_tree_edge.result) c.loop-edge.invariant.0 (ap not c.is_tree_edge.ensures)),
  omega (arith, c.tick.ensures, c.loop-edge.invariant.1),
)
