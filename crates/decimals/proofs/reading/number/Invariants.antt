use Rattle.std.proofs.Common.{◌≡◌, ◌^◌, ◌<◌, length}
use Rattle.decimals.proofs.Digits.{number_behind}
use Rattle.decimals.proofs.reading.number.Given as goal

abbrev pub invariant-loop-digit : goal.invariant-loop-digit
invariant-loop-digit l =
    (number_behind (2 ^ 128) l.value l.rest ≡ number_behind (2 ^ 128) 0 l.text) × (l.value < 2 ^ 128)

abbrev pub decreases-loop-digit : goal.decreases-loop-digit
decreases-loop-digit l = length l.rest
