use Rattle.std.proofs.Common.{◌≡◌, ◌<◌, ℕ, List, length, get_or, sym, ap, ◌∙◌, subst, arith}
use Rattle.multigraph.specs.Graph.{Multigraph, edge_count, incident_edges}
use Rattle.multigraph.specs.Part.{GraphPart}
use Rattle.multigraph.proofs.Incident.{incident_at-edge}
use Rattle.whole_embed.proofs.numbering.blocks_at.Goals as goal

pub bounds-edge_blocks-edge : goal.bounds-edge_blocks-edge
bounds-edge_blocks-edge c =
    let g = c.args.frame.now.part.graph in
    let i = c.loop-edge.edge-index in
    let is : c.incident-inner.result.now ≡ incident_edges g c.args.i = c.incident-inner.ensures.value ∙ ap (λ (h : Multigraph). incident_edges h c.args.i) (c.graph.ensures.value ∙ ap (λ (p : GraphPart). p.graph) c.part.ensures.value) in
    let l : get_or c.incident-inner.result.now i 0 < edge_count g =
    subst (λ (l : List ℕ). get_or l i 0 < edge_count g) (sym is) (incident_at-edge g c.args.i i 0 (subst (λ (l : List ℕ). i < length l) is c.loop-edge-test.true)) in
    omega (arith, l, c.part.ensures.numbered.edge_each, c.part.ensures.frame.edge_each, ap length c.edge_blocks.ensures)
