-- Each edge at the vertex leads to a marked vertex or to one that is marked now.
use Rattle.std.proofs.Common.{◌≡◌, ◌<◌, length, slice_index, ap, ◌∙◌, sym, arith, subst, true}
use Rattle.multigraph.specs.Graph.{edge_count, is_end, incident_edges, other_end}
use Rattle.multigraph.proofs.Incident.{incident_at-edge, incident_at-end}
use Rattle.multigraph.proofs.OtherEnd.{other_end-in}
use Rattle.faces.proofs.Looks.{looks-more, looks-skip}
use Rattle.faces.proofs.components.visit.Goals as goal
use Rattle.faces.proofs.components.visit.Goals.{then-not-marks-neighbour+in_ok-push, else-not-marks-neighbour}

pub other_end-neighbour-requires-clause-edge : goal.other_end-neighbour-requires-clause-edge
other_end-neighbour-requires-clause-edge c =
    let g = c.args.graph.now in
    let edges = c.incident-edge-items.ensures.value in
    let l : c.loop-edge.edge-index < length (incident_edges g c.args.vertex) = subst (λ s. c.loop-edge.edge-index < length s) edges c.loop-edge-test.true in
    subst (λ s. slice_index s c.loop-edge.edge-index < edge_count g) (sym edges) (incident_at-edge g c.args.vertex c.loop-edge.edge-index 0 l)

pub other_end-neighbour-requires-clause-end : goal.other_end-neighbour-requires-clause-end
other_end-neighbour-requires-clause-end c =
    let g = c.args.graph.now in
    let edges = c.incident-edge-items.ensures.value in
    let l : c.loop-edge.edge-index < length (incident_edges g c.args.vertex) = subst (λ s. c.loop-edge.edge-index < length s) edges c.loop-edge-test.true in
    subst (λ s. is_end g c.args.vertex (slice_index s c.loop-edge.edge-index) ≡ true) (sym edges) (incident_at-end g c.args.vertex c.loop-edge.edge-index 0 l)

pub loop-edge-preserved : goal.loop-edge-preserved
loop-edge-preserved c =
    let g = c.args.graph.now in
    let v = c.args.vertex in
    let k = c.loop-edge.edge-index in
    let y = c.other_end-neighbour.result in
    let edges = c.incident-edge-items.ensures.value in
    let to : other_end g (slice_index (incident_edges g v) k) v ≡ y = sym (ap (λ s. other_end g (slice_index s k) v) edges) ∙ sym c.other_end-neighbour.ensures in
    let l : k < length (incident_edges g v) = subst (λ s. k < length s) edges c.loop-edge-test.true in
    let inside : other_end g (slice_index (incident_edges g v) k) v < g.vertex_count = other_end-in g (slice_index (incident_edges g v) k) v c.incident-edge-items.ensures.graph (incident_at-edge g v k 0 l) in
    let in_marks : y < length c.loop-edge.marks = omega arith in
    elim c.if-not-marks-neighbour.branch [
      | then-not-marks-neighbour+in_ok-push w ↦
          rw (w.marks-is, w.stack-is, w.in_ok-push.ensures.items) (looks-more g v k y c.args.marks.now c.args.stack.now.items c.loop-edge.marks c.loop-edge.stack.items c.loop-edge.invariant to in_marks w.if-not-marks-neighbour.true)
      | else-not-marks-neighbour w ↦
          rw (w.marks-is, w.stack-is) (looks-skip g v k y c.args.marks.now c.args.stack.now.items c.loop-edge.marks c.loop-edge.stack.items c.loop-edge.invariant to w.if-not-marks-neighbour.false)
    ]
