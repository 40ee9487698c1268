use Rattle.std.proofs.Common.{arith, ap, sym, ◌∙◌, subst}
use Rattle.std.proofs.lemmas.List.{take_all}
use Rattle.spqr_session.specs.Board.{clearings, Clears}
use Rattle.spqr_session.proofs.ListsSet.{clears-there, clearings-step}
use Rattle.spqr_session.proofs.kept.KeptLists.cleared.Goals as goal

pub loop-v-preserved : goal.loop-v-preserved
loop-v-preserved c = clearings-step c.args.self.now c.args.vertices.now c.loop-v.cuts.items c.clear.new.cuts.items c.loop-v.v-index c.loop-v-test.true c.loop-v.invariant (c.in_ok-clear.ensures {u = tt})

pub returns : goal.returns
returns c =
    let vertices = c.args.vertices.now in
    let lists = c.args.self.now in
    subst (Clears vertices lists) (sym (c.of.ensures ∙ c.loop-v.invariant ∙ ap (clearings lists) (take_all c.loop-v.v-index vertices (omega (arith, c.loop-v-test.false))))) (clears-there lists vertices)
