use Rattle.std.proofs.Common.{sym, arith, subst}
use Rattle.skeletons.specs.Lists.{IsRank}
use Rattle.embed_enum.proofs.States.{state-length, state-rank, none-below}
use Rattle.embed_enum.proofs.ranking.rank.Goals as goal

pub returns-in-Some-clause-ranked : goal.returns-in-Some-clause-ranked
returns-in-Some-clause-ranked c = λ l m. subst (IsRank l c.args.p.now.rotation) (sym c.number.ensures) (state-rank c.args.p.now c.belongs.ensures l m)

pub returns-in-Some-clause-within : goal.returns-in-Some-clause-within
returns-in-Some-clause-within c = λ l m. let w = c.in-Some.ensures {u = tt} in let e = state-length c.args.p.now c.belongs.ensures l m in omega (arith, w.0, e)

pub returns-in-None-clause-over : goal.returns-in-None-clause-over
returns-in-None-clause-over c = λ l m. none-below _ _ _ (state-length c.args.p.now c.belongs.ensures l m) (c.in-None.ensures {u = tt})
