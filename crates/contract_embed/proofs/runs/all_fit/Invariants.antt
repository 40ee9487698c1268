use Rattle.std.proofs.Common.{◌<◌, ℕ}
use Rattle.contract_embed.specs.Runs.{FitsAt}
use Rattle.contract_embed.proofs.runs.all_fit.Given as goal

abbrev pub invariant-loop-dart : goal.invariant-loop-dart
invariant-loop-dart l = (d : ℕ) → d < l.dart → FitsAt l.level l.next l.first l.last d
