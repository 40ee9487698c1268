use Rattle.planarity.proofs.SubdivisionExcludes.{subdivision-excludes}
use Rattle.planarity.proofs.subdivision_excludes_plane.Goals as goal

pub returns : goal.returns
returns c = subdivision-excludes
