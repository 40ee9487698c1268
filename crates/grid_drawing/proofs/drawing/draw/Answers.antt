use Rattle.std.proofs.Common.{ℕ, List, sym, subst, ◌∙◌}
use Rattle.grid_drawing.specs.Grid.{IsGridDrawing}
use Rattle.grid_drawing.proofs.TwoVertices.{none-parallel, two-drawn}
use Rattle.grid_drawing.proofs.drawing.draw.Goals as goal

pub returns-then-vertex_count-eq2-clause-drawn : goal.returns-then-vertex_count-eq2-clause-drawn
returns-then-vertex_count-eq2-clause-drawn c = subst (λ (p : List (ℕ × ℕ)). IsGridDrawing c.args.g.now c.args.r.now p) (sym c.in_ok-of.ensures)
    (two-drawn c.args.g.now c.args.r.now c.vertex_count.ensures.graph c.requires.system.system (sym c.vertex_count.ensures.value ∙ c.if-vertex_count-eq2.true) c.in_default.ensures)

pub draw_triangulated-requires-clause-simple : goal.draw_triangulated-requires-clause-simple
draw_triangulated-requires-clause-simple c = none-parallel c.args.g.now c.in_default.ensures
