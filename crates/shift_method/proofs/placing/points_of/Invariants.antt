use Rattle.std.proofs.Common.{◌≡◌, ℕ, ◌<◌, length, slice_index, slice_index_or}
use Rattle.shift_method.proofs.placing.points_of.Given as goal

abbrev pub invariant-loop-v : goal.invariant-loop-v
invariant-loop-v l = (length l.points.items ≡ l.v) × ((u : ℕ) → u < l.v → slice_index_or l.points.items u (0, 0) ≡ (slice_index l.x u, slice_index l.shape.height u))
