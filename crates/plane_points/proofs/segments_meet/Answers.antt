use Rattle.plane_points.proofs.Laws.{segments_meet as all_meet, points_of_segments}
use Rattle.plane_points.proofs.segments_meet.Goals as goal

pub returns : goal.returns
returns c = record { meet = all_meet; point = points_of_segments }
