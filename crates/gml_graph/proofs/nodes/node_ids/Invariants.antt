-- The ids of the nodes so far, without a refusal.
use Rattle.std.proofs.Common.{◌≡◌, map, length, Ok}
use Rattle.gml_graph.specs.Answer.{each_below, node_id}
use Rattle.gml_graph.proofs.nodes.node_ids.Given as goal

abbrev pub invariant-loop-k : goal.invariant-loop-k
invariant-loop-k l = record {
  accepted : each_below l.k (node_id (map (λ node. node.now) l.nodes)) ≡ Ok l.ids;
  count : length l.ids ≡ l.k;
}
