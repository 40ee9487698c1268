use Rattle.faces.specs.Maps.{dart_before}
use Rattle.triangulations.specs.Listed.{IsTable}
use Rattle.triangulations.proofs.starting.darts_before.Given as goal

abbrev pub invariant-loop-dart : goal.invariant-loop-dart
invariant-loop-dart l = IsTable (dart_before l.g l.r) l.dart l.table.items
