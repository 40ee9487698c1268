-- The ends of the edges so far, without a refusal.
use Rattle.std.proofs.Common.{◌≡◌, map, slice_index_or, Ok}
use Rattle.gml_text.specs.Document.{empty}
use Rattle.gml_graph.specs.Answer.{each_below, ends_by}
use Rattle.gml_graph.proofs.edges.edge_ends.Given as goal

abbrev pub invariant-loop-k : goal.invariant-loop-k
invariant-loop-k l = each_below l.k (λ k. ends_by l.ids k (slice_index_or (map (λ edge. edge.now) l.edges) k empty)) ≡ Ok l.ends.items
