use Rattle.rotations.specs.Rotation.{order_at, IsRotationSystem}
use Rattle.rotations.specs.Runs.{IsKeptElsewhere}
use Rattle.pair_split.specs.Tutte.{group}
use Rattle.skel_embed.specs.Arranged.{directed}
use Rattle.skel_embed.proofs.ArrangeSteps.{IsArranging}
use Rattle.skel_embed.proofs.arranging.arrange_round.Given as goal

abbrev pub invariant-loop-i : goal.invariant-loop-i
invariant-loop-i l = IsRotationSystem l.g l.r × IsKeptElsewhere l.initial.r l.r l.v × IsArranging (group l.t l.k) (order_at l.initial.r l.v) (directed l.backwards l.end l.keys) (order_at l.r l.v) l.i l.last
