use Rattle.std.proofs.Common.{◌≡◌, ℕ, ◌<◌, List, length, get_or, ap, arith}
use Rattle.multigraph.proofs.Incident.{length-incident, incident_at-edge}
use Rattle.rotations.proofs.rings.ring_of.Goals as goal

-- the least edge has its two darts
pub dart_at-requires-clause-is_edge : goal.dart_at-requires-clause-is_edge
dart_at-requires-clause-is_edge c =
    let some : 0 < length c.incident-edges.result.now = c.in-Some.ensures.item.3.0 in
    let first : c.in-Some.e.now ≡ get_or c.incident-edges.result.now 0 0 = c.in-Some.ensures.item.3.1 0 in
    let below = incident_at-edge c.args.g.now c.args.v 0 0 (omega (arith, some, ap length c.incident-edges.ensures.value)) in
    omega (arith, first, ap (λ (xs : List ℕ). get_or xs 0 0) c.incident-edges.ensures.value, below, c.requires.tails.long)

-- there are at most as many edges at a vertex as edges
pub overflow_cast-result : goal.overflow_cast-result
overflow_cast-result c = omega (arith, ap length c.incident-edges.ensures.value, length-incident c.args.g.now c.args.v, c.incident-edges.ensures.limits.few_edges)
