use Rattle.std.proofs.Common.{arith}
use Rattle.multigraph.specs.Graph.{edge_count}
use Rattle.permutations.proofs.Search.{none-some}
use Rattle.grid_drawing.specs.Parallel.{has_later}
use Rattle.grid_drawing.proofs.SameEnds.{pair-first}
use Rattle.grid_drawing.proofs.parallel.first_parallel.Goals as goal

pub returns-in-Some : goal.returns-in-Some
returns-in-Some c = let t = c.in-Some.ensures in
    pair-first c.args.g.now c.loop-a.a c.in-Some.b (omega (arith, c.loop-a-test.true, c.edge_count-a-end.ensures.value)) c.loop-a.invariant t.0 t.1

pub returns : goal.returns
returns c = none-some (edge_count c.args.g.now) (has_later c.args.g.now) (λ a l. c.loop-a.invariant a (omega (arith, l, c.loop-a-test.false, c.edge_count-a-end.ensures.value)))
