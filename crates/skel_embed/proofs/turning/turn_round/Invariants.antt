use Rattle.std.proofs.Common.{◌≡◌}
use Rattle.rotations.specs.Rotation.{order_at, IsRotationSystem}
use Rattle.rotations.specs.Runs.{IsKeptElsewhere}
use Rattle.pair_split.specs.Tutte.{group}
use Rattle.skel_embed.proofs.TurnSteps.{IsTurningAt}
use Rattle.skel_embed.proofs.turning.turn_round.Given as goal

abbrev pub invariant-loop-turn : goal.invariant-loop-turn
invariant-loop-turn l =
    IsRotationSystem l.g l.r × IsKeptElsewhere l.initial.r l.r l.v × (l.ahead.next_key ≡ group l.t l.k l.ahead.next)
    × IsTurningAt (group l.t l.k) (order_at l.initial.r l.v) (order_at l.r l.v) l.front.last l._turn l.ahead.next
