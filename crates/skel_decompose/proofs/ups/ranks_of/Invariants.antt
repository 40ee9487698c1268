use Rattle.std.proofs.Common.{◌≡◌, ℕ, ◌<◌, length, slice_index_or}
use Rattle.skel_decompose.specs.Ups.{rank_at}
use Rattle.skel_decompose.proofs.ups.ranks_of.Given as goal

abbrev pub invariant-loop-q : goal.invariant-loop-q
invariant-loop-q l = (length l.ranks.items ≡ length l.tree) × ((h : ℕ) → h < l.q → rank_at l.ranks.items (slice_index_or l.order.nodes.items h 0) ≡ h)
