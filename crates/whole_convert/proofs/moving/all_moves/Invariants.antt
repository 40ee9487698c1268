use Rattle.std.proofs.Common.{◌≡◌, ◌<◌, ℕ, length, slice_index}
use Rattle.whole_embed.specs.Cuts.{blocks_in}
use Rattle.whole_convert.specs.Between.{as_steps, moves_below, is_moved}
use Rattle.whole_convert.specs.Led.{is_marked}
use Rattle.whole_convert.proofs.moving.all_moves.Given as goal

abbrev pub invariant-loop-j : goal.invariant-loop-j
invariant-loop-j l = (as_steps l.list.items ≡ moves_below l.frame (blocks_in l.old) (blocks_in l.new) l.j)
    × (length l.marks ≡ length l.old)
    × ((i : ℕ) → i < l.j → is_marked l.marks (slice_index l.frame.blocks i) ≡ is_moved (blocks_in l.old) (blocks_in l.new) (slice_index l.frame.blocks i))
