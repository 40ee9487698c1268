use Rattle.skeleton_choices.proofs.Told.{choices-tell, choice-possible, selection-exists}
use Rattle.skeleton_choices.proofs.laws.choices_tell_plane_systems.Goals as goal

pub returns : goal.returns
returns c = record { tell = choices-tell; possible = choice-possible; exists = selection-exists }
