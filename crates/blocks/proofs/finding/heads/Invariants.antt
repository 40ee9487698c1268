use Rattle.blocks.specs.Finding.{AreHeads}
use Rattle.blocks.proofs.finding.heads.Given as goal

abbrev pub invariant-loop-vertex : goal.invariant-loop-vertex
invariant-loop-vertex l = AreHeads l.search l.low l.vertex l.heads.items
