use Rattle.std.proofs.Common.{inl, inr, arith}
use Rattle.std.proofs.lemmas.Bool.{cases_lt}
use Rattle.contract_obstruct.proofs.obstructing.triple_places.Goals as goal

pub returns-in_default-common_place : goal.returns-in_default-common_place
returns-in_default-common_place c = λ i j w. elim (cases_lt i c.in-Some.i) [
  | inl l ↦ c.in-Some.ensures.3 i (omega (arith, w.behind)) l w.second
  | inr l ↦ c.in_default-common_place.ensures j (omega (arith, l, w.rise)) w.within w.third
]
