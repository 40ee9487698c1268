use Rattle.std.proofs.Common.{◌≡◌, map, take, slice_index}
use Rattle.graph_paths.proofs.search.whole_edges.Given as goal

abbrev pub invariant-loop-edge : goal.invariant-loop-edge
invariant-loop-edge l = l.along.items ≡ map (λ e. slice_index l.fn.part.edges e) (take l.edge-index l.fn.edges)
