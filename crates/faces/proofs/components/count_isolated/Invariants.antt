-- The vertices without edges so far.
use Rattle.std.proofs.Common.{◌≡◌}
use Rattle.permutations.specs.Count.{count}
use Rattle.faces.specs.Euler.{is_isolated}
use Rattle.faces.proofs.components.count_isolated.Given as goal

abbrev pub invariant-loop-vertex : goal.invariant-loop-vertex
invariant-loop-vertex l = l.isolated ≡ count l.vertex (is_isolated l.graph)
