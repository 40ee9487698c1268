use Rattle.std.proofs.Common.{ℕ, List, length, ap, sym, subst, arith}
use Rattle.std.specs.Result.{IfOk}
use Rattle.multigraph.specs.Part.{HoldEnds, IsPartOn}
use Rattle.multigraph.proofs.Places.{rises-short}
use Rattle.multigraph.proofs.structure.Graph.part_on.Goals as goal

-- the vertices of a graph are few
pub part_with-requires-clause-few : goal.part_with-requires-clause-few
part_with-requires-clause-few c =
    omega (arith, ap length c.in_ok-vertices.ensures.items, rises-short c.args.vertices.now c.args.self.now.vertex_count c.requires.increasing_vertices c.requires.vertices_within, c.keeps_limits.ensures.limits.few_vertices)

pub part_with-requires-clause-ends : goal.part_with-requires-clause-ends
part_with-requires-clause-ends c = subst (λ (l : List ℕ). HoldEnds c.args.self.now c.args.edges.now l) (sym c.in_ok-vertices.ensures.items) c.requires.ends

-- the copy holds the same vertices
pub returns : goal.returns
returns c = subst (λ (l : List ℕ). IfOk c.part_with.result (IsPartOn c.args.self.now l c.args.edges.now)) c.in_ok-vertices.ensures.items c.part_with.ensures
