use Rattle.std.proofs.Common.{◌*◌}
use Rattle.permutations.proofs.Restriction.{restricted-orbit, restricted-permutes}
use Rattle.dart_maps.proofs.Parts.{parts-plane, parts-plane-back}
use Rattle.dart_maps.proofs.Plane.{restricted-plane, split-plane}
use Rattle.dart_maps.proofs.plane_is_inherited.Goals as goal

pub returns : goal.returns
returns c = record {
  split = split-plane;
  restriction = restricted-plane;
  restriction_is_map = λ m. restricted-permutes (2 * m);
  restriction_keeps_vertices = λ m. restricted-orbit (2 * m);
  in_parts = λ m f g b t keep whole. (parts-plane-back m f g b t keep whole, λ w. parts-plane m f g b t keep whole (w.0) (w.1));
}
