use Rattle.std.proofs.Common.{arith, below_more}
use Rattle.std.proofs.lemmas.Option.{MatchOption-at_none, MatchOption-at_some}
use Rattle.path_embed.specs.Planar.{IsPlanarNode, IsNonplanarNode}
use Rattle.path_embed.proofs.deciding.nonplanar_node.Goals as goal

pub loop-k-preserved : goal.loop-k-preserved
loop-k-preserved c = below_more (IsPlanarNode c.args.tree.now) c.loop-k.k c.loop-k.invariant (MatchOption-at_none (IsPlanarNode c.args.tree.now c.loop-k.k) (IsNonplanarNode c.args.tree.now c.loop-k.k) c.in-None.is c.in_ok-answer.ensures)

pub returns-in-Some : goal.returns-in-Some
returns-in-Some c = MatchOption-at_some (IsPlanarNode c.args.tree.now c.loop-k.k) (IsNonplanarNode c.args.tree.now c.loop-k.k) c.in-Some.skeleton c.in-Some.is c.in_ok-answer.ensures

pub returns : goal.returns
returns c = λ k l. c.loop-k.invariant k (omega (arith, l, c.loop-k-test.false, c.node_count-k-end.ensures))
