use Rattle.arrangements.proofs.Laws.{arranged_by_options, option_exists, filled_is_first, following_is_next, no_greater_is_last}
use Rattle.arrangements.proofs.arrangements_by_options.Goals as goal

pub returns : goal.returns
returns c = record { exact = arranged_by_options; some = option_exists; first = filled_is_first; next = following_is_next; last = no_greater_is_last }
