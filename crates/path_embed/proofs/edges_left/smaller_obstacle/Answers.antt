use Rattle.std.proofs.Common.{arith, below_more}
use Rattle.std.proofs.lemmas.Option.{MatchOption-at_none, MatchOption-at_some}
use Rattle.minimal_graphs.specs.Laws.{IsPlaneWithout}
use Rattle.path_embed.specs.Found.{IsSmaller}
use Rattle.path_embed.proofs.edges_left.smaller_obstacle.Goals as goal

pub loop-e-preserved : goal.loop-e-preserved
loop-e-preserved c = below_more (IsPlaneWithout c.args.g.now) c.loop-e.e c.loop-e.invariant (MatchOption-at_none (IsPlaneWithout c.args.g.now c.loop-e.e) (IsSmaller c.args.g.now) c.in-None.is c.in_ok-answer.ensures)

pub returns-in-Some : goal.returns-in-Some
returns-in-Some c = MatchOption-at_some (IsPlaneWithout c.args.g.now c.loop-e.e) (IsSmaller c.args.g.now) c.in-Some.found c.in-Some.is c.in_ok-answer.ensures

pub returns : goal.returns
returns c = λ f l. c.loop-e.invariant f (omega (arith, l, c.loop-e-test.false, c.edge_count-e-end.ensures.value))
