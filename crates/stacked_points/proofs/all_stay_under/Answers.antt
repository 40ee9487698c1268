use Rattle.stacked_points.proofs.Under.{stays_contour, old_stays_under, new_is_under}
use Rattle.stacked_points.proofs.all_stay_under.Goals as goal

pub returns : goal.returns
returns c = record { contour = stays_contour; old = old_stays_under; new = new_is_under }
