use Rattle.embed_enum.specs.Walk.{KeepsRest}
use Rattle.embed_tests.proofs.conversions.go_on.Given as goal

abbrev pub invariant-loop-step : goal.invariant-loop-step
invariant-loop-step l = KeepsRest l.initial.block l.block
