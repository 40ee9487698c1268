use Rattle.dart_maps.proofs.Bond.{bond-plane, bond-plane-back}
use Rattle.dart_maps.proofs.bond_is_plane.Goals as goal

pub returns : goal.returns
returns c = λ m f g b l t a k o. (bond-plane-back m f g b l t a k o, bond-plane m f g b l t a k o)
