use Rattle.drawn_maps.proofs.Drawn.{hang, hung_back, cross, joined_back}
use Rattle.drawn_maps.proofs.edges_are_drawn.Goals as goal

pub returns : goal.returns
returns c = record {
  to_new_vertex = λ m g f b d p l. (hung_back m p b, hang m g f b d p l);
  in_face = λ m g f b d p l q k h. (joined_back m p q b, cross m g f b d p l q k h);
}
