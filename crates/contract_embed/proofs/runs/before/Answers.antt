use Rattle.std.proofs.Common.{ap, arith}
use Rattle.faces.specs.Euler.{dart_count}
use Rattle.contract_embed.proofs.Carried.{some-before}
use Rattle.contract_embed.proofs.runs.before.Goals as goal

pub unreachable-requires : goal.unreachable-requires
unreachable-requires c =
    let w = some-before c.args.level.now c.requires.level c.args.next.now c.requires.steps c.args.d c.requires.dart in
    c.loop-dart.invariant w.0 (omega (arith, w.1, c.dart_count-dart-end.ensures.value, ap dart_count c.requires.contraction, c.loop-dart-test.false)) w.2
