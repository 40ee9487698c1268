use Rattle.faces.specs.Maps.{dart_after}
use Rattle.triangulations.specs.Listed.{IsTable}
use Rattle.triangulations.proofs.starting.darts_after.Given as goal

abbrev pub invariant-loop-dart : goal.invariant-loop-dart
invariant-loop-dart l = IsTable (dart_after l.g l.r) l.dart l.table.items
