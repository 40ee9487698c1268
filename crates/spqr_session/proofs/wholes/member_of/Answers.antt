use Rattle.std.proofs.Common.{◌∙◌}
use Rattle.spqr_session.proofs.WholesMade.{plane-member, not-member}
use Rattle.spqr_session.proofs.wholes.member_of.Goals as goal

pub returns-in_ok-own-in-Plane : goal.returns-in_ok-own-in-Plane
returns-in_ok-own-in-Plane c = plane-member c.args.block.now c.outcome.result.now c.outcome.ensures.view c.outcome.ensures.right c.in-Plane.plane c.in_ok-own-in-Plane.own c.in_ok-part.part c.in-Plane.is (c.in_ok-part.ensures {u = tt} ∙ c.part.ensures) (c.in_ok-own-in-Plane.ensures {u = tt})

pub returns-in-Not : goal.returns-in-Not
returns-in-Not c = not-member c.args.block.now c.outcome.result.now c.outcome.ensures.view c.outcome.ensures.right c.in-Not.field-0 c.in_ok-part.part c.in-Not.is (c.in_ok-part.ensures {u = tt} ∙ c.part.ensures)
