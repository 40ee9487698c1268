use Rattle.dart_maps.proofs.Renumber.{renumber-plane, renumber-plane-back}
use Rattle.dart_maps.proofs.renumbering_is_exact.Goals as goal

pub returns : goal.returns
returns c = λ k h i s m f g b t j r z. (renumber-plane k h i s m f g b t j r z, renumber-plane-back k h i s m f g b t j r z)
