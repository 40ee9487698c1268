use Rattle.std.proofs.Common.{◌<◌, ◌≤◌, ℕ, length, slice_index}
use Rattle.arrangements.proofs.groups.begun_until.Given as goal

-- the groups on top so far
abbrev pub invariant-loop-count : goal.invariant-loop-count
invariant-loop-count l = record {
  within : l.count ≤ length l.starts;
  later : (k : ℕ) → l.count ≤ k → k < length l.starts → l.place < slice_index l.starts k;
}

abbrev pub decreases-loop-count : goal.decreases-loop-count
decreases-loop-count l = l.count
