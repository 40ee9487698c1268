use Rattle.triangulations.specs.Pairs.{KnowsEdges}
use Rattle.triangulations.proofs.pairs.Pairs.of.Given as goal

abbrev pub invariant-loop-e : goal.invariant-loop-e
invariant-loop-e l = KnowsEdges l.g l.e l.pairs.held
