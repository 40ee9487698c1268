use Rattle.std.proofs.Common.{◌-◌, [], length, arith, ap, ◌∙◌}
use Rattle.std.proofs.lemmas.List.{get_or_default}
use Rattle.canonical_orders.specs.Order.{Removed}
use Rattle.shift_method.proofs.Fitting.{stack-told, placed-on}
use Rattle.shift_method.proofs.shape.Shape.place_all.Goals as goal

pub place-requires : goal.place-requires
place-requires c = record {
  stack = stack-told (length c.args.self.now.gap) c.args.self.now c.requires.fresh c.requires.small c.requires.peeled.0 c.requires.peeled.1 c.args.removals.now c.requires.peeled.2
      c.loop-k.k c.loop-k-test.true c.loop-k.invariant.0 c.loop-k.self c.loop-k.invariant.1 c.vertex.result c.heads.result.now
      (c.vertex.ensures ∙ ap (λ (r : Removed). r.0) (c.index-removals-k.is ∙ get_or_default c.args.removals.now (c.loop-k.k - 1) c.index-removals-k.result (0, []) (omega (arith, c.loop-k-test.true, c.loop-k.invariant.0))))
      (c.heads.ensures ∙ ap (λ (r : Removed). r.1) (c.index-removals-k-in-loop-k.is ∙ get_or_default c.args.removals.now (c.loop-k.k - 1) c.index-removals-k-in-loop-k.result (0, []) (omega (arith, c.loop-k-test.true, c.loop-k.invariant.0))));
}

pub loop-k-preserved : goal.loop-k-preserved
loop-k-preserved c = (
  omega (arith, c.loop-k.invariant.0),
  placed-on c.args.self.now c.args.removals.now c.loop-k.k c.loop-k-test.true c.loop-k.invariant.0 c.loop-k.self c.place.new.self c.loop-k.invariant.1 c.vertex.result c.heads.result.now
      (c.vertex.ensures ∙ ap (λ (r : Removed). r.0) (c.index-removals-k.is ∙ get_or_default c.args.removals.now (c.loop-k.k - 1) c.index-removals-k.result (0, []) (omega (arith, c.loop-k-test.true, c.loop-k.invariant.0))))
      (c.heads.ensures ∙ ap (λ (r : Removed). r.1) (c.index-removals-k-in-loop-k.is ∙ get_or_default c.args.removals.now (c.loop-k.k - 1) c.index-removals-k-in-loop-k.result (0, []) (omega (arith, c.loop-k-test.true, c.loop-k.invariant.0))))
      c.place.ensures,
)
