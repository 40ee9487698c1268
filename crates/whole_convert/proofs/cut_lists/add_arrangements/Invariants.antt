use Rattle.std.proofs.Common.{◌≡◌, ◌++◌, [], slice_index_or}
use Rattle.whole_convert.specs.Between.{as_steps, arrangements_below}
use Rattle.whole_convert.proofs.cut_lists.add_arrangements.Given as goal

abbrev pub invariant-loop-i : goal.invariant-loop-i
invariant-loop-i l = as_steps l.list.items ≡ as_steps l.initial.list.items ++ arrangements_below l.after.component (λ j. slice_index_or l.after.lists j []) l.q l.i
