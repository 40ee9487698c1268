use Rattle.std.proofs.Common.{sym, ◌∙◌, arith}
use Rattle.embed_enum.proofs.States.{state-length, none-below}
use Rattle.embed_enum.proofs.reaching.moves_to_rank.Goals as goal

pub returns-in-None-clause-refused : goal.returns-in-None-clause-refused
returns-in-None-clause-refused c = λ l m. none-below _ _ _ (state-length c.args.p.now c.belongs.ensures l m) (c.in-None.ensures {u = tt})

pub returns-then-rank-count-clause-refused : goal.returns-then-rank-count-clause-refused
returns-then-rank-count-clause-refused c = λ l m.
    let w = c.in-Some.ensures {u = tt} in
    (w.1 ∙ sym (state-length c.args.p.now c.belongs.ensures l m), c.if-rank-count.true)

pub returns-in-Ok-clause-within : goal.returns-in-Ok-clause-within
returns-in-Ok-clause-within c = λ l m. let w = c.in-Some.ensures {u = tt} in let e = state-length c.args.p.now c.belongs.ensures l m in omega (arith, w.0, e)
