use Rattle.std.proofs.Common.{◌≡◌, ◌<◌, ℕ, List, length, slice_index, sym, ap, ◌∙◌, subst, arith}
use Rattle.multigraph.specs.Graph.{Multigraph, incident_edges}
use Rattle.multigraph.specs.Part.{GraphPart}
use Rattle.whole_convert.proofs.FrameTables.{edge-within}
use Rattle.whole_convert.proofs.cut_lists.is_marked_at.Goals as goal

pub bounds-edge_blocks-edge : goal.bounds-edge_blocks-edge
bounds-edge_blocks-edge c =
    let k = c.args.frame.now in
    let edges = c.incident-edge-items.result.now in
    let is : edges ≡ incident_edges k.part.graph c.args.i = c.incident-edge-items.ensures.value ∙ ap (λ (g : Multigraph). incident_edges g c.args.i) (c.graph.ensures.value ∙ ap (λ (p : GraphPart). p.graph) c.part.ensures.value) in
    let l = edge-within k c.args.i c.loop-edge.edge-index edges c.part.ensures.numbered c.part.ensures.frame is c.loop-edge-test.true in
    omega (arith, l, ap length c.edge_blocks.ensures)

pub bounds-marks-b : goal.bounds-marks-b
bounds-marks-b c =
    let k = c.args.frame.now in
    let edges = c.incident-edge-items.result.now in
    let is : edges ≡ incident_edges k.part.graph c.args.i = c.incident-edge-items.ensures.value ∙ ap (λ (g : Multigraph). incident_edges g c.args.i) (c.graph.ensures.value ∙ ap (λ (p : GraphPart). p.graph) c.part.ensures.value) in
    let e = slice_index c.incident-edge-items.result.now c.loop-edge.edge-index in
    subst (λ (z : List ℕ). slice_index z e < length c.args.marks.now) (sym c.edge_blocks.ensures)
    (c.requires.within e (edge-within k c.args.i c.loop-edge.edge-index edges c.part.ensures.numbered c.part.ensures.frame is c.loop-edge-test.true))
