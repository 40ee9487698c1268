use Rattle.std.proofs.Common.{◌≡◌, ◌<◌, ◌++◌, All, map, slice_index, length}
use Rattle.multigraph.specs.Graph.{edge_count}
use Rattle.spqr_session.proofs.commands.kept_line.set_numbers.Given as goal

-- with what is left the numbers are those of the walk
abbrev pub invariant-loop-e : goal.invariant-loop-e
invariant-loop-e l = record {
  rest : l.numbers.items ++ map (slice_index l.part.edges) l.round ≡ map (slice_index l.part.edges) l.initial.round;
  within : All (λ e. e < edge_count l.part.graph) l.round;
}

abbrev pub decreases-loop-e : goal.decreases-loop-e
decreases-loop-e l = length l.round
