use Rattle.drawn_maps.proofs.Systems.{to-drawn}
use Rattle.drawn_maps.proofs.plane_systems_draw.Goals as goal

pub returns : goal.returns
returns c = to-drawn
