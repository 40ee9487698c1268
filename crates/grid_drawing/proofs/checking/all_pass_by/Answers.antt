use Rattle.std.proofs.Common.{◌≡◌, ℕ, ◌<◌, true, below_more}
use Rattle.grid_drawing.specs.Drawing.{point_at}
use Rattle.grid_drawing.specs.Tests as tests
use Rattle.grid_drawing.proofs.checking.all_pass_by.Goals as goal

pub loop-e-preserved : goal.loop-e-preserved
loop-e-preserved c = λ e v l k. below_more (λ (e : ℕ). (v : ℕ) → v < c.args.g.now.vertex_count → tests.passes_by c.args.g.now (point_at c.args.points.now) e v ≡ true) c.loop-e.e (λ e l v k. c.loop-e.invariant e v l k) (c.passes_by_all.ensures.0 c.if-not-passes_by_all.false) e l v k
