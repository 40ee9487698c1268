use Rattle.std.proofs.Common.{◌≡◌, ℕ, true, sym, ◌∙◌, below_more}
use Rattle.multigraph.specs.Graph.{ends_of}
use Rattle.grid_drawing.specs.Drawing.{point_at}
use Rattle.grid_drawing.specs.Tests as tests
use Rattle.grid_drawing.proofs.checking.is_clear_of_earlier.Goals as goal

pub loop-f-preserved : goal.loop-f-preserved
loop-f-preserved c = below_more (λ (f : ℕ). tests.is_clear (point_at c.args.points.now) (ends_of c.args.g.now c.args.e) (ends_of c.args.g.now f) ≡ true) c.loop-f.f c.loop-f.invariant (sym c.is_clear.ensures ∙ c.if-not-is_clear.false)
