use Rattle.embed_enum.proofs.Walks.{rest-then}
use Rattle.embed_tests.proofs.conversions.go_on.Goals as goal

pub loop-step-preserved : goal.loop-step-preserved
loop-step-preserved c = rest-then c.args.block.now c.loop-step.block c.next.new.p c.loop-step.invariant c.next.ensures.rest
