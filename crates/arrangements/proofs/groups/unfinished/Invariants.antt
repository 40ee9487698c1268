use Rattle.std.proofs.Common.{◌<◌, ◌≤◌, ℕ, length, slice_index}
use Rattle.arrangements.proofs.groups.unfinished.Given as goal

-- the groups on top so far
abbrev pub invariant-loop-count : goal.invariant-loop-count
invariant-loop-count l = record {
  within : l.count ≤ length l.ends;
  finished : (k : ℕ) → l.count ≤ k → k < length l.ends → slice_index l.ends k < l.place;
}

abbrev pub decreases-loop-count : goal.decreases-loop-count
decreases-loop-count l = l.count
