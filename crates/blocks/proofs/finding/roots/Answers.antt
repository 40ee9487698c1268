use Rattle.std.proofs.Common.{◌+◌, sym, subst}
use Rattle.blocks.specs.Finding.{AreRoots}
use Rattle.blocks.proofs.Heads.{roots-more}
use Rattle.blocks.proofs.finding.roots.Goals as goal

pub loop-vertex-preserved : goal.loop-vertex-preserved
loop-vertex-preserved c =
    subst (AreRoots c.args.search.now (c.loop-vertex.vertex + 1)) (sym c.in_ok-push.ensures.items)
    (roots-more c.args.search.now c.loop-vertex.vertex c.loop-vertex.roots.items c.is_root.result c.loop-vertex.invariant c.is_root.ensures.root c.is_root.ensures.other)
