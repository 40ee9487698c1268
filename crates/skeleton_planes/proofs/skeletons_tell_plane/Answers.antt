use Rattle.skeleton_planes.proofs.Followed.{plane-members}
use Rattle.skeleton_planes.proofs.Planar.{planar-skeletons}
use Rattle.skeleton_planes.proofs.skeletons_tell_plane.Goals as goal

pub returns : goal.returns
returns c = record { members = plane-members; planar = planar-skeletons }
