use Rattle.plane_points.proofs.Laws.{parts_go_around, one_more_goes_around}
use Rattle.plane_points.proofs.lists_go_around.Goals as goal

pub returns : goal.returns
returns c = record { part = parts_go_around; more = one_more_goes_around }
