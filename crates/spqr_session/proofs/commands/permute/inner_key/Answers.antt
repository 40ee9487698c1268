use Rattle.std.proofs.Common.{◌≡◌, sym, subst, ap, ◌∙◌, length}
use Rattle.multigraph.specs.Graph.{edge_count}
use Rattle.multigraph.specs.Part.{GraphPart, IsPlace}
use Rattle.spqr_session.proofs.InnerKeys.{edge-found, edge-missed}
use Rattle.spqr_session.proofs.commands.permute.inner_key.Goals as goal

pub returns-in-Some : goal.returns-in-Some
returns-in-Some c = edge-found c.args.block.now.tree.part.edges c.args.key c.in-Some.edge c.inner_edge.result (subst (λ (p : GraphPart). IsPlace p.edges c.args.key c.inner_edge.result) c.part-part.ensures c.inner_edge.ensures) c.in-Some.is

pub returns-in-None : goal.returns-in-None
returns-in-None c =
    let numbered = subst (λ (p : GraphPart). length p.edges ≡ edge_count p.graph) c.part-part.ensures c.graph.ensures.numbered.edge_each in
    edge-missed c.args.block.now.tree.part.edges c.args.key c.edge_count.result c.inner_edge.result (subst (λ (p : GraphPart). IsPlace p.edges c.args.key c.inner_edge.result) c.part-part.ensures c.inner_edge.ensures) c.in-None.is
    (numbered ∙ ap (λ (p : GraphPart). edge_count p.graph) (sym c.part-part.ensures) ∙ ap edge_count (sym c.graph.ensures.value) ∙ sym c.edge_count.ensures.value)
