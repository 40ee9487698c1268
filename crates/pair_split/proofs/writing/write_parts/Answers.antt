use Rattle.std.proofs.Common.{◌+◌, List, sym, subst, arith}
use Rattle.pair_split.specs.Writing.{ArePartsWritten}
use Rattle.pair_split.specs.declared.components.Comp.{Comp}
use Rattle.pair_split.proofs.WritingSteps.{parts-more}
use Rattle.pair_split.proofs.CountedParts.{total-more, total-some}
use Rattle.pair_split.proofs.writing.write_parts.Goals as goal

pub loop-k-preserved : goal.loop-k-preserved
loop-k-preserved g c = (
  subst (λ (comps : List Comp). ArePartsWritten c.args.m c.args.parts.now c.args.ups.now (c.loop-k.k + 1) comps) (sym c.in_ok-push.ensures.items)
      (parts-more c.args.m c.args.parts.now c.args.ups.now c.loop-k.k c.loop-k.comps.items c.in_ok-part_of.field-0 c.index-parts-k.result c.loop-k-test.true c.index-parts-k.is c.loop-k.invariant.0 c.in_ok-part_of.ensures.kind c.in_ok-part_of.ensures.written),
  omega (arith, c.tick.ensures, c.in_ok-part_of.ensures.cost, c.loop-k.invariant.1, total-more c.args.parts.now c.loop-k.k c.index-parts-k.result c.loop-k-test.true c.index-parts-k.is),
)

pub returns-in_err-part_of-clause-at_most : goal.returns-in_err-part_of-clause-at_most
returns-in_err-part_of-clause-at_most g c = omega (arith, c.tick.ensures, c.part_of.ensures.at_most, c.loop-k.invariant.1, c.loop-k-test.true, total-more c.args.parts.now c.loop-k.k c.index-parts-k.result c.loop-k-test.true c.index-parts-k.is, total-some c.args.parts.now (c.loop-k.k + 1))

pub returns-in_err-push-clause-at_most : goal.returns-in_err-push-clause-at_most
returns-in_err-push-clause-at_most g c = omega (arith, c.tick.ensures, c.part_of.ensures.at_most, c.loop-k.invariant.1, c.loop-k-test.true, total-more c.args.parts.now c.loop-k.k c.index-parts-k.result c.loop-k-test.true c.index-parts-k.is, total-some c.args.parts.now (c.loop-k.k + 1))
