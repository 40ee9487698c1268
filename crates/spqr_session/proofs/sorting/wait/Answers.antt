use Rattle.std.proofs.Common.{◌+◌, ℕ, List, length, take, sym, subst, arith}
use Rattle.std.proofs.lemmas.List.{take_all}
use Rattle.spqr_session.specs.Sorting.{AreWaiting}
use Rattle.spqr_session.proofs.SortedEdges.{waits-next}
use Rattle.spqr_session.proofs.sorting.wait.Goals as goal

-- one edge more waits
pub loop-e-preserved : goal.loop-e-preserved
loop-e-preserved c =
    subst (AreWaiting c.args.of_edge.now (take (c.loop-e.e-index + 1) c.args.list.now) (length c.args.waiting.now.items)) (sym c.in_ok-add_edge.ensures)
    (waits-next c.args.of_edge.now c.args.list.now (length c.args.waiting.now.items) c.loop-e.e-index c.loop-e.waiting.items c.loop-e-test.true c.loop-e.invariant (c.requires.known c.loop-e.e-index 0 c.loop-e-test.true).1)

-- all do
pub returns : goal.returns
returns c =
    subst (λ (l : List ℕ). AreWaiting c.args.of_edge.now l (length c.args.waiting.now.items) c.loop-e.waiting.items) (take_all c.loop-e.e-index c.args.list.now (omega (arith, c.loop-e-test.false))) c.loop-e.invariant
