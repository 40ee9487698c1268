use Rattle.stacked_maps.proofs.Base.{base_is_drawn}
use Rattle.stacked_maps.proofs.Stacked.{stacking_keeps_drawings}
use Rattle.stacked_maps.proofs.drawings_are_stacked.Goals as goal

pub returns : goal.returns
returns c = record { base = base_is_drawn; stacking = stacking_keeps_drawings }
