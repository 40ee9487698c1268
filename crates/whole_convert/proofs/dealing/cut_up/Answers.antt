use Rattle.std.proofs.Common.{◌≡◌, ◌<◌, ◌≤◌, ◌+◌, length, slice_index, refl, sym, ap, ◌∙◌, arith}
use Rattle.multigraph.specs.Graph.{Multigraph, incident_edges}
use Rattle.whole_convert.specs.Led.{degree_in}
use Rattle.whole_convert.proofs.FrameTables.{degree-at}
use Rattle.whole_convert.proofs.Pieces.{cut-within, cut-more, cut-above}
use Rattle.whole_convert.proofs.dealing.cut_up.Goals as goal

pub slice_bounds-push-end : goal.slice_bounds-push-end
slice_bounds-push-end c =
    let part = c.args.part.now in
    let less : c.loop-i.i < part.graph.vertex_count = omega (arith, c.loop-i-test.true, c.vertex_count-i-end.ensures.value, ap (λ (g : Multigraph). g.vertex_count) c.graph.ensures.value) in
    let l : c.loop-i.i < length part.vertices = omega (arith, less, c.keeps_numbers.ensures.vertex_each) in
    let degree : c.degree.result ≡ degree_in part (slice_index part.vertices c.loop-i.i) =
    c.degree.ensures ∙ (ap (λ (g : Multigraph). length (incident_edges g c.loop-i.i)) c.graph-in-loop-i.ensures.value ∙ sym (degree-at part c.loop-i.i c.keeps_numbers.ensures less)) in
    let within : c.loop-i.at + c.degree.result ≤ length c.args.edges.now = omega (arith, degree, cut-within (degree_in part) part.vertices c.args.edges.now c.loop-i.lists c.loop-i.at c.loop-i.i l c.loop-i.invariant) in
    within

pub push-requires : goal.push-requires
push-requires c some =
    let part = c.args.part.now in
    let less : c.loop-i.i < part.graph.vertex_count = omega (arith, c.loop-i-test.true, c.vertex_count-i-end.ensures.value, ap (λ (g : Multigraph). g.vertex_count) c.graph.ensures.value) in
    let l : c.loop-i.i < length part.vertices = omega (arith, less, c.keeps_numbers.ensures.vertex_each) in
    cut-above (degree_in part) part.vertices c.args.edges.now c.loop-i.lists c.loop-i.at c.loop-i.i c.vertex.result c.keeps_numbers.ensures.vertices_rise l c.loop-i.invariant c.vertex.ensures some

pub loop-i-preserved : goal.loop-i-preserved
loop-i-preserved c =
    let part = c.args.part.now in
    let less : c.loop-i.i < part.graph.vertex_count = omega (arith, c.loop-i-test.true, c.vertex_count-i-end.ensures.value, ap (λ (g : Multigraph). g.vertex_count) c.graph.ensures.value) in
    let l : c.loop-i.i < length part.vertices = omega (arith, less, c.keeps_numbers.ensures.vertex_each) in
    let degree : c.degree.result ≡ degree_in part (slice_index part.vertices c.loop-i.i) =
    c.degree.ensures ∙ (ap (λ (g : Multigraph). length (incident_edges g c.loop-i.i)) c.graph-in-loop-i.ensures.value ∙ sym (degree-at part c.loop-i.i c.keeps_numbers.ensures less)) in
    cut-more (degree_in part) part.vertices c.args.edges.now c.loop-i.lists c.push.new.self c.loop-i.at (c.loop-i.at + c.degree.result) c.loop-i.i c.vertex.result _ l c.loop-i.invariant c.vertex.ensures (ap (λ z. c.loop-i.at + z) degree) refl
    (c.in_ok-push.ensures {u = tt})
