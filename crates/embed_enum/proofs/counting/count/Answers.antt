use Rattle.std.proofs.Common.{sym, ◌∙◌}
use Rattle.embed_enum.proofs.States.{state-length, none-below}
use Rattle.embed_enum.proofs.counting.count.Goals as goal

pub returns-in-Some-clause-counted : goal.returns-in-Some-clause-counted
returns-in-Some-clause-counted c = λ l m. let w = c.in-Some.ensures {u = tt} in w.1 ∙ sym (state-length c.args.p.now c.belongs.ensures l m)

pub returns-in-None-clause-over : goal.returns-in-None-clause-over
returns-in-None-clause-over c = λ l m. none-below _ _ _ (state-length c.args.p.now c.belongs.ensures l m) (c.in-None.ensures {u = tt})
