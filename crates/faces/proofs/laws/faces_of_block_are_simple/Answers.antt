use Rattle.faces.proofs.MapBlocks.{block-face_once}
use Rattle.faces.proofs.MapTwins.{block-two_faces}
use Rattle.faces.proofs.laws.faces_of_block_are_simple.Goals as goal

pub returns : goal.returns
returns c = record { once = block-face_once; two_faces = block-two_faces }
