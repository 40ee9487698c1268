use Rattle.pair_split.specs.Bridges.{family_of}
use Rattle.pair_split.specs.Search.{IsBest, IsLeastBefore}
use Rattle.pair_split.proofs.search.best_side.Given as goal

abbrev pub invariant-loop-a : goal.invariant-loop-a
invariant-loop-a l = (IsBest (family_of l.edges) l.best) × (IsLeastBefore (family_of l.edges) l.a 0 l.best.size)
