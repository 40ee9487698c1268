-- One less at the heads so far.
use Rattle.std.proofs.Common.{take}
use Rattle.canonical_orders.specs.State.{heads_of}
use Rattle.canonical_orders.proofs.Counting.{IsRaised}
use Rattle.canonical_orders.proofs.rings.count_down.Given as goal

abbrev pub invariant-loop-dart : goal.invariant-loop-dart
invariant-loop-dart l = IsRaised (heads_of l.map.graph (take l.dart-index l.darts)) l.met l.initial.met
