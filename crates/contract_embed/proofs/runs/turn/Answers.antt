use Rattle.std.proofs.Common.{ap, arith}
use Rattle.faces.specs.Euler.{dart_count}
use Rattle.std.proofs.lemmas.Bool.{both_ways}
use Rattle.contract_embed.specs.Runs.{Turns}
use Rattle.contract_obstruct.proofs.BelowNext.{below-next}
use Rattle.contract_embed.proofs.runs.turn.Goals as goal

pub loop-dart-preserved : goal.loop-dart-preserved
loop-dart-preserved c = below-next (λ d. Turns c.args.level.now c.args.next.now c.args.from c.args.to d → ⊥) c.loop-dart.dart c.loop-dart.invariant
    (λ t. both_ways c.turns_at.result c.if-turns_at.false (c.turns_at.ensures.1 t))

pub returns : goal.returns
returns c = λ d l. c.loop-dart.invariant d (omega (arith, c.dart_count-dart-end.ensures.value, ap dart_count c.requires.contraction, c.loop-dart-test.false))
