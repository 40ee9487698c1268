use Rattle.std.proofs.Common.{arith}
use Rattle.rotations.proofs.Turns.{walk-more}
use Rattle.rotations.proofs.round.walk_ring.Goals as goal

pub loop-left-preserved : goal.loop-left-preserved
loop-left-preserved c = record {
  edges = walk-more c.args.next.now c.args.ring.first c.args.ring.degree c.loop-left.dart c.loop-left.left c.loop-left.round.items c.push.new.self.items c.loop-left-test.true c.loop-left.invariant.edges c.in_ok-push.ensures.items;
  within = λ some. c.requires.leads c.loop-left.dart (c.loop-left.invariant.within (omega (arith, c.loop-left-test.true)));
}
