use Rattle.std.proofs.Common.{◌≡◌, ◌+◌, ◌-◌, ◌++◌, ℕ, List, slice_index, sym, subst, arith}
use Rattle.permutations.specs.Ring.{turns}
use Rattle.contract_obstruct.proofs.Orders.{turns-next, turns-end}
use Rattle.contract_obstruct.proofs.rounds.turns.Goals as goal

pub loop-turn-preserved : goal.loop-turn-preserved
loop-turn-preserved c = (
  subst (λ (l : List ℕ). l ++ turns c.args.next.now (slice_index c.args.next.now c.loop-turn.dart) (c.args.many - (c.loop-turn._turn + 1)) ≡ turns c.args.next.now c.args.start c.args.many) (sym c.in_ok-push.ensures.items)
      (turns-next c.args.next.now c.loop-turn.edges.items c.loop-turn.dart c.args.many c.loop-turn._turn (turns c.args.next.now c.args.start c.args.many) (omega (arith, c.loop-turn-test.true)) c.loop-turn.invariant.0),
  c.requires.within c.loop-turn.dart c.loop-turn.invariant.1,
)

pub returns : goal.returns
returns c = turns-end c.args.next.now c.loop-turn.edges.items c.loop-turn.dart c.args.many c.loop-turn._turn (turns c.args.next.now c.args.start c.args.many) (omega (arith, c.loop-turn-test.false)) c.loop-turn.invariant.0
