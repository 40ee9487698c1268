use Rattle.grid_drawing.proofs.OfMaps.{drawn_is_drawing}
use Rattle.grid_drawing.proofs.laws.triangulations_draw_graphs.Goals as goal

pub returns : goal.returns
returns c = drawn_is_drawing
