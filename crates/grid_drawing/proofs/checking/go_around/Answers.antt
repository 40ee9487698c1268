use Rattle.std.proofs.Common.{refl, sym, ◌∙◌, arith}
use Rattle.std.proofs.lemmas.Bool.{false≢true}
use Rattle.plane_points.proofs.Falls.{falls-tell}
use Rattle.grid_drawing.specs.Drawing.{point_at, points_around}
use Rattle.grid_drawing.proofs.checking.go_around.Goals as goal

pub returns-then-not-goes_around : goal.returns-then-not-goes_around
returns-then-not-goes_around c = (
  (λ h. absurd (false≢true h)),
  (λ all. absurd (false≢true (sym c.if-not-goes_around.true ∙ c.goes_around.ensures.1
      ((falls-tell (point_at c.args.points.now c.loop-v.v) (points_around c.args.g.now c.args.r.now c.args.points.now c.loop-v.v)).1 (all c.loop-v.v (omega (arith, c.loop-v-test.true, c.vertex_count-v-end.ensures.value))))))),
)

pub returns : goal.returns
returns c = ((λ _ v l. (falls-tell (point_at c.args.points.now v) (points_around c.args.g.now c.args.r.now c.args.points.now v)).0 (c.loop-v.invariant v (omega (arith, l, c.loop-v-test.false, c.vertex_count-v-end.ensures.value)))), (λ _. refl))
