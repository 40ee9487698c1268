use Rattle.std.proofs.Common.{◌≡◌, ℕ, true, sym, ◌∙◌, below_more}
use Rattle.grid_drawing.specs.Drawing.{point_at}
use Rattle.grid_drawing.specs.Tests as tests
use Rattle.grid_drawing.proofs.checking.passes_by_all.Goals as goal

pub loop-v-preserved : goal.loop-v-preserved
loop-v-preserved c = below_more (λ (v : ℕ). tests.passes_by c.args.g.now (point_at c.args.points.now) c.args.e v ≡ true) c.loop-v.v c.loop-v.invariant (sym c.passes_by.ensures ∙ c.if-not-passes_by.false)
