use Rattle.std.proofs.Common.{◌≡◌, ◌<◌, ℕ, slice_index}
use Rattle.contract_embed.proofs.runs.before.Given as goal

abbrev pub invariant-loop-dart : goal.invariant-loop-dart
invariant-loop-dart l = (c : ℕ) → c < l.dart → slice_index l.next c ≡ l.d → ⊥
