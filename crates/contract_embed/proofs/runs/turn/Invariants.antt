use Rattle.std.proofs.Common.{◌<◌, ℕ}
use Rattle.contract_embed.specs.Runs.{Turns}
use Rattle.contract_embed.proofs.runs.turn.Given as goal

abbrev pub invariant-loop-dart : goal.invariant-loop-dart
invariant-loop-dart l = (d : ℕ) → d < l.dart → Turns l.level l.next l.from l.to d → ⊥
