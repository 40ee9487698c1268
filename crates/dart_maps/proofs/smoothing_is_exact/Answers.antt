use Rattle.dart_maps.proofs.Smooth.{smooth-plane, smooth-plane-back}
use Rattle.dart_maps.proofs.SmoothPaths.{smooth-paths-plane, smooth-paths-plane-back}
use Rattle.dart_maps.proofs.smoothing_is_exact.Goals as goal

pub returns : goal.returns
returns c = record {
  one = λ m path f g b c t. (smooth-plane m path f g b c t, smooth-plane-back m path f g b c t);
  all = λ m paths f g b t. (smooth-paths-plane m paths f g b t, smooth-paths-plane-back m paths f g b t);
}
