-- A range gives its numbers in order.
use Rattle.std.proofs.Common.{ℕ, List, length, slice_index, refl, ap, ◌∙◌, arith}
use Rattle.std.proofs.lemmas.Iterator.{YieldsList-from_range, items_from_collect}
use Rattle.std.proofs.lemmas.List.FromFn.{get_or-range_with_len, length-range_with_len}
use Rattle.std.proofs.lemmas.Result.{IfOk-weaker}
use Rattle.contractions.proofs.numbers.numbers_below.Goals as goal

pub returns-clause-own : goal.returns-clause-own
returns-clause-own c = IfOk-weaker c.collect.result _ _ (λ w e k l. ap (λ (z : List ℕ). slice_index z k) e ∙ (get_or-range_with_len 0 c.args.n k 0 l ∙ omega arith))
    (items_from_collect c.collect.result c.collect.ensures.ran (YieldsList-from_range 0 c.args.n c.args.n refl (omega arith)))

pub returns-clause-number : goal.returns-clause-number
returns-clause-number c = IfOk-weaker c.collect.result _ _ (λ w e. ap (λ (z : List ℕ). length z) e ∙ length-range_with_len 0 c.args.n)
    (items_from_collect c.collect.result c.collect.ensures.ran (YieldsList-from_range 0 c.args.n c.args.n refl (omega arith)))
