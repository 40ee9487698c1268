use Rattle.std.proofs.Common.{◌≡◌, ◌≤◌, length}
use Rattle.spqr_script.specs.Line.{is_passed_over, tokens_of}
use Rattle.spqr_script.proofs.tokens.skip_blanks.Given as goal

abbrev pub invariant-loop-b : goal.invariant-loop-b
invariant-loop-b l =
    (tokens_of l.rest ≡ tokens_of l.line) × (is_passed_over l.rest ≡ is_passed_over l.line) × (length l.rest ≤ length l.line)

abbrev pub decreases-loop-b : goal.decreases-loop-b
decreases-loop-b l = length l.rest
