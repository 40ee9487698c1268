use Rattle.std.proofs.Common.{ℕ, List, get_or, sym, subst, Contains}
use Rattle.whole_embed.proofs.Ranks.{number-there}
use Rattle.whole_embed.proofs.numbering.ranks_of.Goals as goal

pub place_in-requires-clause-has : goal.place_in-requires-clause-has
place_in-requires-clause-has c =
    let i = c.loop-number.number-index in
    subst (λ (l : List ℕ). Contains l (get_or c.args.numbers.now i 0)) (sym c.deref.ensures.value) (number-there c.args.numbers.now c.in_ok-list.list.items i (c.in_ok-list.ensures {u = tt}).same c.loop-number-test.true)
