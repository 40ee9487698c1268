use Rattle.skeleton_choices.proofs.Plane.{move-plane}
use Rattle.skeleton_choices.proofs.laws.moves_keep_plane.Goals as goal

pub returns : goal.returns
returns c = move-plane
