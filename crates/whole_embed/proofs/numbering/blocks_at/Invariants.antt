use Rattle.std.proofs.Common.{◌≡◌, map, take, slice_index}
use Rattle.whole_embed.proofs.numbering.blocks_at.Given as goal

abbrev pub invariant-loop-edge : goal.invariant-loop-edge
invariant-loop-edge l = l.numbers.items ≡ map (slice_index l.frame.edge_blocks) (take l.edge-index l.inner)
