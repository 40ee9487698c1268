use Rattle.std.proofs.Common.{ℕ, ◌<◌, slice_index_or}
use Rattle.multigraph.specs.Graph.{edge_count}
use Rattle.text_tests.proofs.scripts.are_edges.Given as goal

abbrev pub invariant-loop-number : goal.invariant-loop-number
invariant-loop-number l = (k : ℕ) → k < l.number-index → slice_index_or l.numbers k 0 < edge_count l.g
