use Rattle.std.proofs.Common.{ℕ, List, slice_index, sym, subst}
use Rattle.multigraph.specs.Graph.{edge_count}
use Rattle.canonical_orders.specs.State.{IsCanonicalOrderOf}
use Rattle.grid_drawing.specs.Grid.{IsGridDrawing}
use Rattle.grid_drawing.proofs.Shifted.{some-dart, shifted}
use Rattle.grid_drawing.proofs.drawing.draw_triangulated.Goals as goal

pub head-requires : goal.head-requires
head-requires c = some-dart (edge_count c.in_ok-map.map.graph) c.in_ok-map.map.graph (slice_index c.in_ok-map.map.next) (slice_index c.in_ok-map.map.previous) c.in_ok-map.ensures.triangulated

pub returns : goal.returns
returns c = subst (λ (p : List (ℕ × ℕ)). IsGridDrawing c.args.g.now c.args.r.now p) (sym c.from_vec.ensures)
    (shifted c.args.g.now c.args.r.now c.in_ok-map.map c.deref.result.now c.vertex_count-vertices.result c.tail.result c.head.result c.in_ok-points.points.items
    c.in_ok-map.ensures (subst (IsCanonicalOrderOf c.in_ok-map.map) (sym c.deref.ensures.value) c.in_ok-order.ensures) c.vertex_count-vertices.ensures.value c.tail.ensures c.head.ensures c.vertex_count-vertices.ensures.graph c.requires.system.system c.requires.three
    c.in_ok-points.ensures.drawn c.in_ok-points.ensures.number c.in_ok-points.ensures.wide c.in_ok-points.ensures.high)
