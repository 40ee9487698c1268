use Rattle.plane_points.proofs.Laws.{directions_are_ordered as ordered, falls_tell}
use Rattle.plane_points.proofs.directions_are_ordered.Goals as goal

pub returns : goal.returns
returns c = record { order = ordered; falls = falls_tell }
