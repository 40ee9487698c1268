use Rattle.std.proofs.Common.{refl, arith}
use Rattle.contractions.proofs.Tried.{tried-all}
use Rattle.contractions.proofs.contractible.is_contractible.Goals as goal

pub returns : goal.returns
returns c = (
  λ e. tried-all c.args.g.now c.vertex_count-z-end.ensures.graph c.requires c.args.x c.args.y (λ z l. c.loop-z.invariant z (omega (arith, c.vertex_count-z-end.ensures.value, c.loop-z-test.false))),
  λ h. refl,
)
