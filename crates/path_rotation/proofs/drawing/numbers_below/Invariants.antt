use Rattle.std.proofs.Common.{◌≡◌}
use Rattle.multigraph.specs.Graph.{numbers_below}
use Rattle.path_rotation.proofs.drawing.numbers_below.Given as goal

abbrev pub invariant-loop-number : goal.invariant-loop-number
invariant-loop-number l = l.numbers.items ≡ numbers_below l.number
