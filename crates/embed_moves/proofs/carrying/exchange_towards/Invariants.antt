use Rattle.embed_moves.specs.Made.{KeepsOthers}
use Rattle.embed_moves.proofs.carrying.exchange_towards.Given as goal

abbrev pub invariant-loop-i : goal.invariant-loop-i
invariant-loop-i l = KeepsOthers l.initial.p l.p l.k
