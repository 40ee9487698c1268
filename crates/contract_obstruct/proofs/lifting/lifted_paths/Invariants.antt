use Rattle.std.proofs.Common.{◌≡◌, map, take}
use Rattle.kuratowski.specs.Subdivision.{pattern_edges}
use Rattle.contract_obstruct.specs.Lifting.{lifted_path}
use Rattle.contract_obstruct.proofs.lifting.lifted_paths.Given as goal

abbrev pub invariant-loop-pair : goal.invariant-loop-pair
invariant-loop-pair l = l.lifted.items ≡ map (λ p. lifted_path l.level l.kind l.paths l.branch p p) (take l.pair-index (pattern_edges l.kind))
