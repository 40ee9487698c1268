use Rattle.faces.proofs.MapMirror.{mirror-system, mirror-after, mirror-image-twice, mirror-image-faces, mirror-image-plane, mirror-image-plane-back, mirror-image-differs}
use Rattle.faces.proofs.laws.mirror_image.Goals as goal

pub returns : goal.returns
returns c = record {
  system = mirror-system;
  backward = mirror-after;
  twice = mirror-image-twice;
  faces = mirror-image-faces;
  plane = λ g r ok s. (mirror-image-plane g r ok s, mirror-image-plane-back g r ok s);
  differs = mirror-image-differs;
}
