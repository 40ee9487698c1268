use Rattle.std.proofs.Common.{◌≡◌, false}
use Rattle.permutations.specs.Count.{some}
use Rattle.blocks.proofs.Meeting.{differs}
use Rattle.blocks.proofs.cuts.meets_two.Given as goal

abbrev pub invariant-loop-edge : goal.invariant-loop-edge
invariant-loop-edge l = some l.edge-index (differs l.numbers l.edges) ≡ false
