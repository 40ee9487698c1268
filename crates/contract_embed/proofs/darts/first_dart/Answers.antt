use Rattle.std.proofs.Common.{◌≡◌, false, sym, ◌∙◌, arith}
use Rattle.permutations.proofs.Search.{least-is, least-none, none-some}
use Rattle.faces.specs.Euler.{dart_count}
use Rattle.contract_embed.specs.Steps.{leads}
use Rattle.contract_obstruct.proofs.BelowNext.{below-next}
use Rattle.contract_embed.proofs.darts.first_dart.Goals as goal

pub returns-then-leads : goal.returns-then-leads
returns-then-leads c = sym (least-is (dart_count c.args.g.now) (leads c.args.g.now c.args.u c.args.v) c.loop-dart.dart (omega (arith, c.dart_count-dart-end.ensures.value, c.loop-dart-test.true))
    (sym c.leads.ensures ∙ c.if-leads.true) c.loop-dart.invariant)

pub loop-dart-preserved : goal.loop-dart-preserved
loop-dart-preserved c = below-next (λ d. leads c.args.g.now c.args.u c.args.v d ≡ false) c.loop-dart.dart c.loop-dart.invariant (sym c.leads.ensures ∙ c.if-leads.false)

pub returns : goal.returns
returns c = c.dart_count.ensures.value ∙ sym (least-none (dart_count c.args.g.now) (leads c.args.g.now c.args.u c.args.v)
    (none-some (dart_count c.args.g.now) (leads c.args.g.now c.args.u c.args.v) (λ d l. c.loop-dart.invariant d (omega (arith, c.dart_count-dart-end.ensures.value, c.loop-dart-test.false)))))
