use Rattle.triangulations.specs.Pairs.{KnowsPairs}
use Rattle.triangulations.proofs.FillLoop.{IsFillingFrom, left_in}
use Rattle.triangulations.proofs.filling.fill.Given as goal

abbrev pub invariant-loop-map : goal.invariant-loop-map
invariant-loop-map l = record {
  state : IsFillingFrom l.start l.initial.map l.dart l.map;
  pairs : KnowsPairs l.map.graph l.pairs.held;
}

abbrev pub decreases-loop-map : goal.decreases-loop-map
decreases-loop-map l = left_in l.map l.dart
