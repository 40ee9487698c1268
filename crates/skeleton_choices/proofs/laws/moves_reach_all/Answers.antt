use Rattle.skeleton_choices.proofs.Reached.{lead, kept, list-kept}
use Rattle.skeleton_choices.proofs.laws.moves_reach_all.Goals as goal

pub returns : goal.returns
returns c = record { kept = kept; lists = list-kept; lead = lead }
