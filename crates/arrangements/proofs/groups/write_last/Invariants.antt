use Rattle.std.proofs.Common.{◌≡◌, ◌<◌, ◌≤◌, ℕ, length, slice_index}
use Rattle.arrangements.proofs.groups.write_last.Given as goal

-- the places so far
abbrev pub invariant-loop-i : goal.invariant-loop-i
invariant-loop-i l = record {
  ends : (p : ℕ) → p < l.i → p ≤ slice_index l.last (slice_index l.ranks p);
  size : length l.last ≡ length l.fn.last;
}
