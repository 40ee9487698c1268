use Rattle.std.proofs.Common.{◌≡◌, ◌<◌, ℕ, false, length}
use Rattle.arrangements.specs.Crossings.{cross_ranks}
use Rattle.arrangements.proofs.crossings.crossing.Given as goal

-- none of the ranks so far crosses another
abbrev pub invariant-loop-rank : goal.invariant-loop-rank
invariant-loop-rank l = record {
  none : (d e : ℕ) → d < l.rank → cross_ranks d e l.ranks ≡ false;
  size : length l.met ≡ length l.fn.met;
}
