use Rattle.dart_maps.proofs.Flip.{flip-component, flip-defect, flip-faces, flip-vertex}
use Rattle.dart_maps.proofs.FlipOne.{alone-component, alone-faces, alone-vertex, one-component, one-faces, one-vertex}
use Rattle.dart_maps.proofs.flip_keeps_faces.Goals as goal

pub returns : goal.returns
returns c = record {
  vertices = λ m f g h. flip-vertex m f g h;
  components = flip-component;
  faces = flip-faces;
  defect = flip-defect;
  at_one_vertex = λ m f g h e t a b z. (one-vertex m f g h e t a b z, one-component m f g h e t a b z, one-faces m f g h e t a b z);
  whole_components = λ m f g h e t z. (alone-vertex m f g h e t z, alone-component m f g h e t z, alone-faces m f g h e t z);
}
