use Rattle.std.proofs.Common.{arith}
use Rattle.arrangements.proofs.making.step.Goals as goal

-- increased at the last place where a greater edge may come
pub returns-clause-next : goal.returns-clause-next
returns-clause-next c = λ t block order a b.
    let w = c.increase.ensures.increased block order a b in
    record {
      place = c.last_greater-place.result;
      after_first = omega (arith, c.if-place-eq0.false);
      within = c.last_greater-place.ensures.within (omega (arith, c.if-place-eq0.false));
      same_length = w.same_length;
      same_before = w.same_before;
      greater = w.greater;
      last = c.last_greater-place.ensures.last block order a b;
      filled = w.filled;
    }
