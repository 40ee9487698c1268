use Rattle.pair_split.specs.Bridges.{family_of}
use Rattle.pair_split.specs.Search.{IsBest, IsLeastBefore}
use Rattle.pair_split.proofs.search.best_at.Given as goal

abbrev pub invariant-loop-b : goal.invariant-loop-b
invariant-loop-b l = (IsBest (family_of l.edges) l.best) × (IsLeastBefore (family_of l.edges) l.a l.b l.best.size)
