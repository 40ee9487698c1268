use Rattle.contract_embed.specs.Runs.{CarriedBelow}
use Rattle.contract_embed.proofs.expanding.carry_all.Given as goal

abbrev pub invariant-loop-dart : goal.invariant-loop-dart
invariant-loop-dart l = CarriedBelow l.level l.next l.dart l.wide.items
