use Rattle.std.proofs.Common.{◌≡◌, ℕ, map, take}
use Rattle.kuratowski.specs.declared.subdivision.Pattern.TheVariants.{K5, K33}
use Rattle.kuratowski.specs.Subdivision.{pattern_edges}
use Rattle.planarity.specs.Lift.{split_over}
use Rattle.contract_obstruct.specs.Lifting.{lifted_path}
use Rattle.contract_obstruct.proofs.lifting.split_paths.Given as goal

abbrev pub invariant-loop-pair : goal.invariant-loop-pair
invariant-loop-pair l = l.made.items ≡ map (λ (k : ℕ × ℕ). lifted_path l.level K5 l.paths l.branch k (split_over l.m l.off.0 l.off.1 l.on.0 l.on.1 k.0, split_over l.m l.off.0 l.off.1 l.on.0 l.on.1 k.1)) (take l.pair-index (pattern_edges K33))
