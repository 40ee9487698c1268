use Rattle.std.proofs.Common.{◌≡◌, ◌<◌, ℕ, None, get_or}
use Rattle.arrangements.proofs.kept.forget.Given as goal

-- nothing is expected at the places so far
abbrev pub invariant-loop-next : goal.invariant-loop-next
invariant-loop-next l = (k : ℕ) → k < l.next-index → get_or l.expected k None ≡ None
