use Rattle.std.proofs.Common.{◌<◌, ℕ, List, length, get_or, sym, subst}
use Rattle.multigraph.specs.Graph.{incident_edges}
use Rattle.multigraph.proofs.Incident.{incident_at-edge}
use Rattle.blocks.proofs.cuts.cut_vertices.Goals as goal

pub meets_two-is_cut-requires : goal.meets_two-is_cut-requires
meets_two-is_cut-requires c = λ k l.
    subst (λ (z : List ℕ). get_or z k 0 < length c.args.numbers.now) (sym c.incident.ensures.value)
    (subst (λ (z : ℕ). get_or (incident_edges c.args.graph.now c.loop-vertex.vertex) k 0 < z) (sym c.requires)
    (incident_at-edge c.args.graph.now c.loop-vertex.vertex k 0 (subst (λ (z : List ℕ). k < length z) c.incident.ensures.value l)))
