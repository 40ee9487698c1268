use Rattle.skeleton_choices.proofs.Listed.{list-exists, last-mirror}
use Rattle.skeleton_choices.proofs.laws.lists_of_plane_systems.Goals as goal

pub returns : goal.returns
returns c = record { exists = list-exists; last = last-mirror }
