use Rattle.std.proofs.Common.{◌≡◌, map, take, slice_index}
use Rattle.whole_embed.proofs.numbering.edges_at.Given as goal

abbrev pub invariant-loop-edge : goal.invariant-loop-edge
invariant-loop-edge l = l.edges.items ≡ map (slice_index l.part.edges) (take l.edge-index l.inner)
