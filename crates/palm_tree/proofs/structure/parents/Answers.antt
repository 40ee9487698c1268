use Rattle.std.proofs.Common.{◌+◌, None, sym, subst, arith}
use Rattle.palm_tree.specs.Growing.{Tells, parent_at}
use Rattle.search_forest.proofs.Telling.{tells-more}
use Rattle.palm_tree.proofs.structure.parents.Goals as goal

pub loop-vertex-preserved : goal.loop-vertex-preserved
loop-vertex-preserved g c = (
  subst (Tells None (parent_at c.args.search.now) (c.loop-vertex.vertex + 1)) (sym c.in_ok-push.ensures.items)
      (tells-more None (parent_at c.args.search.now) c.loop-vertex.vertex c.loop-vertex.parents.items c.parent_at.result c.loop-vertex.invariant.0 c.parent_at.ensures),
  omega (arith, c.tick.ensures, c.loop-vertex.invariant.1),
)
