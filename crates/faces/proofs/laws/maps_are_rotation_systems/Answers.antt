use Rattle.faces.proofs.MapToLists.{map-orders, orders-told}
use Rattle.faces.proofs.laws.maps_are_rotation_systems.Goals as goal

pub returns : goal.returns
returns c = record { exists = map-orders; unique = orders-told }
