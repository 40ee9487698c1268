use Rattle.triangulations.specs.Pairs.{KnowsPairs}
use Rattle.triangulations.proofs.FillLoop.{AreFilled}
use Rattle.triangulations.proofs.filling.fill_faces.Given as goal

abbrev pub invariant-loop-dart : goal.invariant-loop-dart
invariant-loop-dart l = record {
  filled : AreFilled l.g l.dart l.initial.map l.map;
  pairs : KnowsPairs l.map.graph l.pairs.held;
}
