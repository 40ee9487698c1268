use Rattle.faces.proofs.MapParts.{part-plane}
use Rattle.faces.proofs.MapPartOrders.{part-orders}
use Rattle.faces.proofs.laws.restriction_keeps_plane.Goals as goal

pub returns : goal.returns
returns c = record { exists = part-orders; plane = part-plane }
