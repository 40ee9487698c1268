-- What is at a vertex is an edge.
use Rattle.std.proofs.Common.{◌<◌, length, slice_index, sym, subst}
use Rattle.multigraph.specs.Graph.{edge_count, incident_edges}
use Rattle.multigraph.proofs.Incident.{incident_at-edge}
use Rattle.faces.proofs.darts.push_darts.Goals as goal

pub dart_from-requires : goal.dart_from-requires
dart_from-requires c =
    let g = c.args.graph.now in
    let edges = c.incident-edge-items.ensures.value in
    let l : c.loop-edge.edge-index < length (incident_edges g c.args.vertex) = subst (λ s. c.loop-edge.edge-index < length s) edges c.loop-edge-test.true in
    subst (λ s. slice_index s c.loop-edge.edge-index < edge_count g) (sym edges) (incident_at-edge g c.args.vertex c.loop-edge.edge-index 0 l)
