-- Accepted ends are those of a graph.
use Rattle.std.proofs.Common.{rules, ◌≡◌, ◌∙◌, ap, ◌≤◌, List, length, map, arith}
use Rattle.std.proofs.lemmas.List.{length-map}
use Rattle.multigraph.specs.Graph.{max_vertices, max_edges}
use Rattle.gml_text.specs.Document.{Document}
use Rattle.multigraph.specs.Build.{multigraph_of}
use Rattle.gml_graph.proofs.Behind.{refused-behind, start-behind}
use Rattle.gml_graph.proofs.Each.{each_below-length}
use Rattle.gml_graph.proofs.Sound.{edge_ends-graph, edge_ends-limits}
use Rattle.gml_graph.specs.Answer.{Refuses, graph_between, node_id}
use Rattle.gml_graph.proofs.named.graph_between.Goals as goal

pub of_ends-requires-clause-graph : goal.of_ends-requires-clause-graph
of_ends-requires-clause-graph c =
    let edges : List Document = map (λ edge. edge.now) c.args.edges.now in
    rw c.len.ensures (edge_ends-graph c.in_ok-ids.ids edges c.in_ok-ends.ends.items c.in_ok-ends.ensures)

-- within the limits, as there are not too many nodes and edges
pub of_ends-requires-clause-limits : goal.of_ends-requires-clause-limits
of_ends-requires-clause-limits c =
    let nodes : List Document = map (λ node. node.now) c.args.nodes.now in
    let edges : List Document = map (λ edge. edge.now) c.args.edges.now in
    let few : length c.in_ok-ids.ids ≤ max_vertices = omega (arith, each_below-length (node_id nodes) (length nodes) c.in_ok-ids.ids c.in_ok-ids.ensures, length-map c.args.nodes.now (λ node. node.now), c.if-nodes.false) in
    let many : length edges ≤ max_edges = omega (arith, length-map c.args.edges.now (λ edge. edge.now), c.if-edges-gt-MAX_EDGES.false) in
    rw c.len.ensures (edge_ends-limits c.in_ok-ids.ids edges c.in_ok-ends.ends.items few many c.in_ok-ends.ensures)

pub returns-in_err-ends : goal.returns-in_err-ends
returns-in_err-ends c =
    let nodes : List Document = map (λ node. node.now) c.args.nodes.now in
    let edges : List Document = map (λ edge. edge.now) c.args.edges.now in
    let refuses : Refuses (graph_between nodes edges) c.in_err-ends.field-0.0 =
    refused-behind nodes edges c.in_ok-ids.ids (omega (arith, length-map c.args.nodes.now (λ node. node.now), c.if-nodes.false)) (omega (arith, length-map c.args.edges.now (λ edge. edge.now), c.if-edges-gt-MAX_EDGES.false)) c.in_ok-ids.ensures c.in_err-ends.field-0.0 c.in_err-ends.ensures in
    search rules

-- there is a node for each vertex
pub start_of-requires : goal.start_of-requires
start_of-requires c =
    let nodes : List Document = map (λ node. node.now) c.args.nodes.now in
    omega (arith, each_below-length (node_id nodes) (length nodes) c.in_ok-ids.ids c.in_ok-ids.ensures, length-map c.args.nodes.now (λ node. node.now), c.len.ensures, ap (λ g. g.vertex_count) c.in_ok-graph.ensures)

pub returns-in_err-start : goal.returns-in_err-start
returns-in_err-start c =
    let nodes : List Document = map (λ node. node.now) c.args.nodes.now in
    let edges : List Document = map (λ edge. edge.now) c.args.edges.now in
    let graph : c.in_ok-graph.graph ≡ multigraph_of (length c.in_ok-ids.ids) c.in_ok-ends.ends.items = c.in_ok-graph.ensures ∙ ap (λ n. multigraph_of n c.in_ok-ends.ends.items) c.len.ensures in
    let refuses : Refuses (graph_between nodes edges) c.in_err-start.field-0.0 =
    start-behind nodes edges c.in_ok-ids.ids (omega (arith, length-map c.args.nodes.now (λ node. node.now), c.if-nodes.false)) (omega (arith, length-map c.args.edges.now (λ edge. edge.now), c.if-edges-gt-MAX_EDGES.false)) c.in_ok-ids.ensures c.in_ok-ends.ends.items c.in_err-start.field-0.0 c.in_ok-ends.ensures
    (rw graph at c.in_err-start.ensures.due) in
    search rules
