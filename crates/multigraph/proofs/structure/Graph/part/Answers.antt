use Rattle.std.proofs.lemmas.Result.{IfOk-weaker}
use Rattle.multigraph.specs.Part.{GraphPart, IsPart, IsPartOn}
use Rattle.multigraph.proofs.Ends.{part-from}
use Rattle.multigraph.proofs.structure.Graph.part.Goals as goal

-- the vertices contain the ends
pub part_with-requires-clause-ends : goal.part_with-requires-clause-ends
part_with-requires-clause-ends c v = (c.in_ok-vertices.ensures.ends v).1

-- they are the ends
pub returns : goal.returns
returns c =
    IfOk-weaker c.part_with.result (IsPartOn c.args.self.now c.in_ok-vertices.vertices.items c.args.edges.now) (IsPart c.args.self.now c.args.edges.now)
    (λ (part : GraphPart). part-from c.args.self.now c.in_ok-vertices.vertices.items c.args.edges.now part c.in_ok-vertices.ensures.ends) c.part_with.ensures
