-- The laws, with their premises in the order of their statements.
use Rattle.arrangements.specs.Laws.{CrossIsAlternate, KeptInEachTurn, CrossInEachTurn, ArrangementsAtAreListed, FirstArrangementIsFirst, ArrangedOrRefused, ArrangedByOptions, OptionExists, FilledIsFirst, FollowingIsNext, NoGreaterIsLast}
use Rattle.arrangements.proofs.Changes.{cross-is_alternate}
use Rattle.arrangements.proofs.Built.{option-exists}
use Rattle.arrangements.proofs.Listed.{arrangements-listed, first-is_first, arranged-by_options, filled-first, following-next, no_greater-last}
use Rattle.arrangements.proofs.Refusals.{arranged-or_refused}
use Rattle.arrangements.proofs.Turns.{keeps-turn, cross-turn}

pub cross_is_alternate : CrossIsAlternate
cross_is_alternate = cross-is_alternate

pub kept_in_each_turn : KeptInEachTurn
kept_in_each_turn = keeps-turn

pub cross_in_each_turn : CrossInEachTurn
cross_in_each_turn = cross-turn

pub arrangements_are_listed : ArrangementsAtAreListed
arrangements_are_listed = arrangements-listed

pub first_is_first : FirstArrangementIsFirst
first_is_first = first-is_first

pub arranged_or_refused : ArrangedOrRefused
arranged_or_refused = arranged-or_refused

pub arranged_by_options : ArrangedByOptions
arranged_by_options block order edges l o long first = arranged-by_options block order edges o l long first

pub option_exists : OptionExists
option_exists block order edges l o h short = option-exists block order edges o l h short

pub filled_is_first : FilledIsFirst
filled_is_first block order edges l o long h = filled-first block order edges o l long h

pub following_is_next : FollowingIsNext
following_is_next block order edges l k i o a c = following-next block order edges o l k i a c

pub no_greater_is_last : NoGreaterIsLast
no_greater_is_last block order edges l o c h = no_greater-last block order edges o l c h
