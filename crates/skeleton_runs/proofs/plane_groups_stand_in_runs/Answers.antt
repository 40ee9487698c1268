use Rattle.skeleton_runs.proofs.Contiguous.{plane-contiguous}
use Rattle.skeleton_runs.proofs.plane_groups_stand_in_runs.Goals as goal

pub returns : goal.returns
returns c = record { contiguous = plane-contiguous }
