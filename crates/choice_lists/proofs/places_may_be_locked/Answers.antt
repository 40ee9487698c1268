use Rattle.choice_lists.proofs.Laws.{locked-radices, locked-place, locked-listed, locked-rise, none-locked}
use Rattle.choice_lists.proofs.places_may_be_locked.Goals as goal

pub returns : goal.returns
returns c = record { listed = locked-listed; rise = locked-rise; none = none-locked; radices = locked-radices; digits = locked-place }
