use Rattle.std.proofs.Common.{◌≡◌, ℕ, ◌<◌, false}
use Rattle.contract_embed.specs.Steps.{leads}
use Rattle.contract_embed.proofs.darts.first_dart.Given as goal

abbrev pub invariant-loop-dart : goal.invariant-loop-dart
invariant-loop-dart l = (d : ℕ) → d < l.dart → leads l.g l.u l.v d ≡ false
