use Rattle.std.proofs.Common.{◌≡◌, map, take, slice_index}
use Rattle.contract_obstruct.proofs.paths.edges_before.Given as goal

abbrev pub invariant-loop-edge : goal.invariant-loop-edge
invariant-loop-edge l = l.edges.items ≡ map (slice_index l.kept) (take l.edge-index l.path)
