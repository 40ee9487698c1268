use Rattle.std.proofs.Common.{◌≡◌, ◌<◌, ℕ, List, All, sym, ap, ◌∙◌, subst}
use Rattle.std.proofs.lemmas.List.Elements.{All-from_get_or}
use Rattle.multigraph.specs.Graph.{Multigraph, edge_count, incident_edges}
use Rattle.multigraph.specs.Part.{GraphPart}
use Rattle.multigraph.proofs.Incident.{incident_at-edge}
use Rattle.rotations.specs.Rotation.{order_at}
use Rattle.spqr_script.proofs.Within.{round-within}
use Rattle.spqr_session.specs.Embedded.{IsEmbedded}
use Rattle.spqr_session.proofs.texts.push_own.Goals as goal

-- the edges around a vertex of a planar block are its edges
pub push_round-requires : goal.push_round-requires
push_round-requires c =
    let part = c.args.block.now.tree.part in
    let r = c.in-Plane.plane.rotation in
    let is = subst (IsEmbedded part) c.in-Plane.is c.outcome.ensures.right in
    let order : c.list.result ≡ order_at r c.args.i = c.list.ensures ∙ ap (λ (s : List (List ℕ)). order_at s c.args.i) c.rotation.ensures.value in
    subst (λ (p : GraphPart). All (λ e. e < edge_count p.graph) c.list.result) (sym c.part-part.ensures)
    (subst (All (λ e. e < edge_count part.graph)) (sym order) (round-within part.graph r c.args.i is.entry.0.system c.requires))

-- and so are those at a vertex of another
pub push_edges-requires : goal.push_edges-requires
push_edges-requires c =
    let g = c.part-part.result.now.graph in
    subst (All (λ e. e < edge_count g)) (sym (c.incident.ensures.value ∙ ap (λ (h : Multigraph). incident_edges h c.args.i) c.graph.ensures.value))
    (All-from_get_or (λ e. e < edge_count g) (incident_edges g c.args.i) 0 (λ k l. incident_at-edge g c.args.i k 0 l))
