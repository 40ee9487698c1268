use Rattle.plane_points.proofs.Laws.{rays_are_apart, rays_meet as another}
use Rattle.plane_points.proofs.rays_meet.Goals as goal

pub returns : goal.returns
returns c = record { apart = rays_are_apart; meet = another }
