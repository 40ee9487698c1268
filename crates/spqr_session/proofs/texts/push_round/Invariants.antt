use Rattle.std.proofs.Common.{◌≡◌, ◌<◌, All, map, slice_index, length}
use Rattle.multigraph.specs.Graph.{edge_count}
use Rattle.spqr_session.specs.Texts.{with_numbers}
use Rattle.spqr_session.proofs.texts.push_round.Given as goal

-- with what is left the text is what it is to be
abbrev pub invariant-loop-e : goal.invariant-loop-e
invariant-loop-e l = record {
  rest : with_numbers l.text.items (map (slice_index l.part.edges) l.round) ≡ with_numbers l.initial.text.items (map (slice_index l.part.edges) l.initial.round);
  within : All (λ e. e < edge_count l.part.graph) l.round;
}

abbrev pub decreases-loop-e : goal.decreases-loop-e
decreases-loop-e l = length l.round
