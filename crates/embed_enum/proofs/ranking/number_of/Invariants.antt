use Rattle.std.proofs.Common.{◌≡◌, ◌+◌, ◌*◌, ◌-◌, length, drop}
use Rattle.choice_lists.specs.Arrangements.{factorial, factorial_number}
use Rattle.embed_enum.proofs.ranking.number_of.Given as goal

abbrev pub invariant-loop-i : goal.invariant-loop-i
invariant-loop-i l = l.number * factorial (length l.keys - l.i) + factorial_number (drop l.i l.keys) ≡ factorial_number l.keys
