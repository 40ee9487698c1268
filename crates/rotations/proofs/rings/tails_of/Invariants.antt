use Rattle.std.proofs.Common.{◌≡◌, ℕ, ◌+◌, ◌*◌, ◌<◌, length, get_or}
use Rattle.multigraph.specs.Graph.{ends_of}
use Rattle.rotations.proofs.rings.tails_of.Given as goal

-- the tails of the darts so far
abbrev pub invariant-loop-e : goal.invariant-loop-e
invariant-loop-e l = record {
  long : length l.tails.items ≡ 2 * l.e;
  first : (k : ℕ) → k < l.e → get_or l.tails.items (2 * k) 0 ≡ (ends_of l.g k).0;
  second : (k : ℕ) → k < l.e → get_or l.tails.items (2 * k + 1) 0 ≡ (ends_of l.g k).1;
}
