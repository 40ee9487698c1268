use Rattle.std.proofs.Common.{length, ap, arith}
use Rattle.multigraph.proofs.Incident.{length-incident}
use Rattle.multigraph.proofs.structure.Graph.degree.Goals as goal

-- there are at most as many edges at a vertex as edges
pub overflow_cast-result : goal.overflow_cast-result
overflow_cast-result c = omega (arith, ap length c.incident.ensures.value, length-incident c.args.self.now c.args.v, c.incident.ensures.limits.few_edges)
