use Rattle.std.proofs.Common.{◌≡◌, ◌<◌, ℕ, List, length, get_or, sym, ap, ◌∙◌, subst}
use Rattle.multigraph.specs.Graph.{Multigraph, edge_count, incident_edges}
use Rattle.multigraph.proofs.Incident.{incident_at-edge}
use Rattle.whole_embed.proofs.numbering.edges_at.Goals as goal

pub edge-requires : goal.edge-requires
edge-requires c =
    let g = c.args.part.now.graph in
    let i = c.loop-edge.edge-index in
    let is : c.incident-inner.result.now ≡ incident_edges g c.args.i = c.incident-inner.ensures.value ∙ ap (λ (h : Multigraph). incident_edges h c.args.i) c.graph.ensures.value in
    subst (λ (l : List ℕ). get_or l i 0 < edge_count g) (sym is) (incident_at-edge g c.args.i i 0 (subst (λ (l : List ℕ). i < length l) is c.loop-edge-test.true))
