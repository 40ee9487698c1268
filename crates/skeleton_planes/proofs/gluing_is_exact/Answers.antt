use Rattle.skeleton_planes.proofs.Exact.{gluing-exact}
use Rattle.skeleton_planes.proofs.gluing_is_exact.Goals as goal

pub returns : goal.returns
returns c = gluing-exact
