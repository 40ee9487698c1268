use Rattle.std.proofs.Common.{◌≡◌, ◌+◌, ◌<◌, ◌≤◌, ℕ, length, slice_index}
use Rattle.arrangements.proofs.groups.write_first.Given as goal

-- the last i places
abbrev pub invariant-loop-i : goal.invariant-loop-i
invariant-loop-i l = record {
  begins : (p : ℕ) → length l.ranks ≤ p + l.i → p < length l.ranks → slice_index l.first (slice_index l.ranks p) ≤ p;
  there : (p : ℕ) → length l.ranks ≤ p + l.i → p < length l.ranks → slice_index l.ranks (slice_index l.first (slice_index l.ranks p)) ≡ slice_index l.ranks p;
  size : length l.first ≡ length l.fn.first;
}
