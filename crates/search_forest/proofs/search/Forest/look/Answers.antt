use Rattle.std.proofs.Common.{refl, sym, ap, ◌∙◌, subst, ℕ, List, get_or, ◌<◌}
use Rattle.multigraph.specs.Graph.{incident_edges}
use Rattle.search_forest.specs.Forest.{degree}
use Rattle.search_forest.proofs.Turns.{next-edge}
use Rattle.search_forest.proofs.Turns.{look-turned, last-in, position-fits}
use Rattle.search_forest.proofs.search.Forest.look.Goals as goal

pub see-requires-clause-edge_in : goal.see-requires-clause-edge_in
see-requires-clause-edge_in c =
    (next-edge c.args.graph.now c.args.vertex c.position_of-position.result (get_or c.incident.result.now c.position_of-position.result 0) c.incident.result.now c.incident.ensures.value
    (subst (λ (x : ℕ). x < degree c.args.graph.now c.args.vertex) (sym c.position_of-position.ensures) c.requires.more) refl).0

pub see-requires-clause-end : goal.see-requires-clause-end
see-requires-clause-end c =
    (next-edge c.args.graph.now c.args.vertex c.position_of-position.result (get_or c.incident.result.now c.position_of-position.result 0) c.incident.result.now c.incident.ensures.value
    (subst (λ (x : ℕ). x < degree c.args.graph.now c.args.vertex) (sym c.position_of-position.ensures) c.requires.more) refl).1

pub look_further-requires-clause-fits : goal.look_further-requires-clause-fits
look_further-requires-clause-fits c = position-fits c.args.graph.now c.incident.ensures.limits c.args.self.now c.see.new.self c.args.vertex (get_or c.incident.result.now c.position_of-position.result 0) c.requires.more (c.in_ok-see.ensures {u = tt})

pub returns : goal.returns
returns c =
    look-turned c.args.graph.now c.args.self.now c.see.new.self c.look_further.new.self c.args.vertex (get_or c.incident.result.now c.position_of-position.result 0)
    (last-in c.args.graph.now c.args.self.now c.args.vertex c.requires.forest c.requires.last) c.requires.more
    (ap (λ (l : List ℕ). get_or l c.position_of-position.result 0) c.incident.ensures.value ∙ ap (λ (x : ℕ). get_or (incident_edges c.args.graph.now c.args.vertex) x 0) c.position_of-position.ensures)
    (c.in_ok-see.ensures {u = tt}) c.look_further.ensures
