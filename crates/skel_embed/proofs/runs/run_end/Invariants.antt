use Rattle.rotations.specs.Rotation.{order_at}
use Rattle.pair_split.specs.Tutte.{group}
use Rattle.skel_embed.proofs.RunSteps.{IsWalking}
use Rattle.skel_embed.proofs.runs.run_end.Given as goal

abbrev pub invariant-loop-step : goal.invariant-loop-step
invariant-loop-step l = IsWalking (group l.t l.k) (order_at l.r l.v) l.e l.at l._step
