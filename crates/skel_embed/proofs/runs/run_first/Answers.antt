use Rattle.rotations.specs.Rotation.{order_at}
use Rattle.pair_split.specs.Tutte.{group}
use Rattle.skel_embed.specs.Steps.{BeginsRun}
use Rattle.std.proofs.Common.{sym}
use Rattle.std.proofs.lemmas.Bool.{true≢false}
use Rattle.skel_embed.proofs.RunSteps.{incident-in, none-more, none-found}
use Rattle.skel_embed.proofs.runs.run_first.Goals as goal

pub is_first-requires-clause-around : goal.is_first-requires-clause-around
is_first-requires-clause-around c = incident-in c.args.g.now c.args.r.now c.args.v c.loop-e.e-index c.incident-e-items.result.now c.requires.system c.requires.vertex c.incident-e-items.ensures.value c.loop-e-test.true

pub loop-e-preserved : goal.loop-e-preserved
loop-e-preserved c = none-more (λ x. BeginsRun (group c.args.t.now c.args.k) (order_at c.args.r.now c.args.v) c.args.key x) c.incident-e-items.result.now c.loop-e.e-index c.loop-e-test.true c.loop-e.invariant
    (λ b. true≢false (sym ((c.if-is_first.ensures {u = tt}).1 b)))

pub returns : goal.returns
returns c = absurd (none-found c.args.g.now c.args.r.now c.args.v c.loop-e.e-index c.args.key c.requires.begins.0 (group c.args.t.now c.args.k) c.incident-e-items.result.now c.requires.system c.requires.vertex c.incident-e-items.ensures.value c.loop-e-test.false c.loop-e.invariant c.requires.begins.1)
