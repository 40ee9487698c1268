use Rattle.std.proofs.Common.{◌≡◌, map, take, slice_index}
use Rattle.whole_embed.proofs.component.blocks_of_edges.Given as goal

abbrev pub invariant-loop-edge : goal.invariant-loop-edge
invariant-loop-edge l = l.list.items ≡ map (slice_index l.table.items) (take l.edge-index l.edges)
