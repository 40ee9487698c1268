use Rattle.std.proofs.Common.{◌≡◌, ◌<◌, ◌≤◌, ℕ, true, length, slice_index}
use Rattle.arrangements.specs.Groups.{is_noted}
use Rattle.arrangements.proofs.groups.note_starts.Given as goal

-- the groups so far
abbrev pub invariant-loop-k : goal.invariant-loop-k
invariant-loop-k l = record {
  noted : (k : ℕ) → l.from ≤ k → k < l.k → is_noted l.noted (slice_index l.ranks (slice_index l.starts k)) ≡ true;
  kept : (r : ℕ) → is_noted l.fn.noted r ≡ true → is_noted l.noted r ≡ true;
  size : length l.noted ≡ length l.fn.noted;
}
