use Rattle.std.proofs.Common.{◌∙◌, ◌++◌, ◌<◌, ℕ, slice_index_or, arith, ap}
use Rattle.multigraph.specs.Graph.{Multigraph}
use Rattle.spqr_script.specs.Answers.Draw.{point_text}
use Rattle.spqr_script.proofs.PointText.{points-more, points-end}
use Rattle.spqr_script.proofs.answers.draw.push_points.Goals as goal

pub loop-v-preserved : goal.loop-v-preserved
loop-v-preserved c =
    let part = c.args.part.now in
    let points = c.args.points.now in
    let within : c.loop-v.v < part.graph.vertex_count = omega (arith, c.loop-v-test.true, c.vertex_count-v-end.ensures.value, ap (λ (g : Multigraph). g.vertex_count) c.graph.ensures.value) in
    points-more part.vertices points c.loop-v.out.items c.push_point.new.out.items _ c.loop-v.v (omega (arith, within, c.graph.ensures.numbered.vertex_each)) (omega (arith, within, c.requires)) c.loop-v.invariant
    (c.in_ok-push_point.ensures ∙ ap (λ (v : ℕ). c.loop-v.out.items ++ point_text v (slice_index_or points c.loop-v.v (0, 0))) c.vertex.ensures)

pub returns : goal.returns
returns c =
    let part = c.args.part.now in
    points-end part.vertices c.args.points.now c.loop-v.out.items _ c.loop-v.v
    (omega (arith, c.loop-v-test.false, c.vertex_count-v-end.ensures.value, ap (λ (g : Multigraph). g.vertex_count) c.graph.ensures.value, c.graph.ensures.numbered.vertex_each)) c.loop-v.invariant
