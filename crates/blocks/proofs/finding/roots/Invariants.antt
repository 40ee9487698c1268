use Rattle.blocks.specs.Finding.{AreRoots}
use Rattle.blocks.proofs.finding.roots.Given as goal

abbrev pub invariant-loop-vertex : goal.invariant-loop-vertex
invariant-loop-vertex l = AreRoots l.search l.vertex l.roots.items
