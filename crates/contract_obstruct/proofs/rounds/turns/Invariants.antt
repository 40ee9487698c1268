use Rattle.std.proofs.Common.{◌≡◌, ◌<◌, ◌-◌, ◌++◌, length}
use Rattle.permutations.specs.Ring.{turns}
use Rattle.contract_obstruct.proofs.rounds.turns.Given as goal

abbrev pub invariant-loop-turn : goal.invariant-loop-turn
invariant-loop-turn l = (l.edges.items ++ turns l.next l.dart (l.many - l._turn) ≡ turns l.next l.fn.start l.many) × (l.dart < length l.next)
