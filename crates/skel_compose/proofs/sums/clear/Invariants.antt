use Rattle.std.proofs.Common.{◌≡◌, ℕ, ◌<◌, length, slice_index_or}
use Rattle.skel_compose.proofs.sums.clear.Given as goal

abbrev pub invariant-loop-v : goal.invariant-loop-v
invariant-loop-v l = (length l.sums ≡ length l.initial.sums) × ((p : ℕ) → p < l.v-index → slice_index_or l.sums (slice_index_or l.vertices p 0) 0 ≡ 0)
