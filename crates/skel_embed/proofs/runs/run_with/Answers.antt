use Rattle.rotations.specs.Rotation.{order_at}
use Rattle.pair_split.specs.Tutte.{group}
use Rattle.skel_embed.proofs.RunSteps.{some-last}
use Rattle.skel_embed.proofs.runs.run_with.Goals as goal

pub run_end-end-requires-clause-ends : goal.run_end-end-requires-clause-ends
run_end-end-requires-clause-ends c = some-last (group c.args.t.now c.args.k) (order_at c.args.r.now c.args.v) c.run_first-first.result c.requires.runs c.run_first-first.ensures.within
