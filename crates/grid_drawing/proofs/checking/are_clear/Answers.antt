use Rattle.std.proofs.Common.{◌≡◌, ℕ, ◌<◌, true, refl, arith, below_more}
use Rattle.multigraph.specs.Graph.{ends_of}
use Rattle.grid_drawing.specs.Drawing.{point_at}
use Rattle.grid_drawing.specs.Tests as tests
use Rattle.grid_drawing.proofs.checking.are_clear.Goals as goal

pub loop-e-preserved : goal.loop-e-preserved
loop-e-preserved c = λ e f l k. below_more (λ (e : ℕ). (f : ℕ) → f < e → tests.is_clear (point_at c.args.points.now) (ends_of c.args.g.now e) (ends_of c.args.g.now f) ≡ true) c.loop-e.e (λ e l f k. c.loop-e.invariant e f l k) (c.is_clear_of_earlier.ensures.0 c.if-not-is_clear_of_earlier.false) e l f k

pub returns : goal.returns
returns c = ((λ _ e f l k. c.loop-e.invariant e f (omega (arith, l, c.loop-e-test.false, c.edge_count-e-end.ensures.value)) k), (λ _. refl))
