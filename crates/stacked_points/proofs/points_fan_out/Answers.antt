use Rattle.stacked_points.proofs.Stacking.{fan_turns, fan_is_apart, fan_goes_around}
use Rattle.stacked_points.proofs.points_fan_out.Goals as goal

pub returns : goal.returns
returns c = record { turn = fan_turns; apart = fan_is_apart; around = fan_goes_around }
