use Rattle.std.proofs.Common.{refl, sym, ap, ◌∙◌}
use Rattle.multigraph.specs.Graph.{edge_count}
use Rattle.rotations.proofs.PartEdges.{place-found, place-none}
use Rattle.rotations.proofs.outer.inner_edge.Goals as goal

pub returns-in-Some : goal.returns-in-Some
returns-in-Some c = place-found c.args.p.now.edges c.args.e c.in-Some.k c.graph.ensures.numbered.edges_rise ((c.in-Some.ensures.some c.in-Some.k).0 refl)

pub returns-in-None : goal.returns-in-None
returns-in-None c = c.edge_count-count.ensures.value ∙ (ap edge_count c.graph.ensures.value ∙ (sym c.graph.ensures.numbered.edge_each ∙ sym (place-none c.args.p.now.edges c.args.e (c.in-None.ensures.none.0 refl))))
