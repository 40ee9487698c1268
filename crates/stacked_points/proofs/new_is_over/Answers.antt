use Rattle.stacked_points.proofs.Stacking.{new_is_over as is_over, new_meets_old, new_meets_segments, new_is_not_under}
use Rattle.stacked_points.proofs.new_is_over.Goals as goal

pub returns : goal.returns
returns c = record { over = is_over; meet = new_meets_old; segment = new_meets_segments; new = new_is_not_under }
