-- Each connected graph without parallel edges has a drawing on the grid in the order of each plane rotation system.
use Rattle.std.proofs.Common.{ℕ, ◌^◌, ◌<◌, inl, inr, subst, sym, arith}
use Rattle.std.proofs.lemmas.Bool.{cases_lt}
use Rattle.grid_drawing.proofs.TwoVertices.{none-parallel, two-drawn}
use Rattle.drawing_exists.specs.Laws.{DrawingExists}
use Rattle.drawing_exists.proofs.Triangulated.{triangulated}
use Rattle.drawing_exists.proofs.Ordered.{ordered}
use Rattle.drawing_exists.proofs.Positioned.{points, positioned}

pub drawing_exists : DrawingExists
drawing_exists g r graph few connected two plane simple = elim (cases_lt g.vertex_count 3) [
  | inl l ↦ (_, two-drawn g r graph plane.system (omega (arith, l, two)) simple)
  | inr three ↦
      let t = triangulated g r graph connected three plane (none-parallel g simple) in
      let vertices = t.1.extends.vertices in
      let order = ordered t.0 t.1.triangulated (subst (λ (n : ℕ). n < 2 ^ 32) (sym vertices) few) in
      (points g r graph plane.system three t.0 t.1 order.0 order.1, positioned g r graph plane.system three t.0 t.1 order.0 order.1)
]
