use Rattle.std.proofs.Common.{◌≡◌, ◌++◌, drop}
use Rattle.decimals.specs.Text.{spaced_numbers}
use Rattle.decimals.proofs.writing.push_spaced_wide.Given as goal

abbrev pub invariant-loop-n : goal.invariant-loop-n
invariant-loop-n l =
    l.out.items ++ spaced_numbers (drop l.n-index l.numbers) ≡ l.initial.out.items ++ spaced_numbers l.numbers
