use Rattle.std.proofs.Common.{◌≡◌, not, filter}
use Rattle.multigraph.specs.Graph.{numbers_below}
use Rattle.minimal_graphs.specs.Whole.{is_far}
use Rattle.minimal_graphs.proofs.reading.sides.Given as goal

abbrev pub invariant-loop-v : goal.invariant-loop-v
invariant-loop-v l = (l.far.items ≡ filter (is_far l.g) (numbers_below l.v)) × (l.near.items ≡ filter (λ v. not (is_far l.g v)) (numbers_below l.v))
