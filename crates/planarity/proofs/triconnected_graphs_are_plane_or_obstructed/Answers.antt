use Rattle.planarity.proofs.PlaneOrSubdivision.{plane-or_written}
use Rattle.planarity.proofs.triconnected_graphs_are_plane_or_obstructed.Goals as goal

pub returns : goal.returns
returns c = plane-or_written
