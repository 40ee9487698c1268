use Rattle.stacked_points.proofs.Corners.{sides_differ, first_differ, last_differ}
use Rattle.stacked_points.proofs.neighbours_differ.Goals as goal

pub returns : goal.returns
returns c = record { sides = sides_differ; first = first_differ; last = last_differ }
