-- The edge of this turn is one at the vertex, and its other end is put on the list.
use Rattle.std.proofs.Common.{◌≡◌, ◌<◌, ◌∙◌, ℕ, List, true, length, slice_index, sym, ap, subst, arith}
use Rattle.multigraph.specs.Graph.{edge_count, is_end, incident_edges, other_end}
use Rattle.multigraph.proofs.Incident.{incident_at-edge, incident_at-end, incident-has}
use Rattle.std.proofs.lemmas.List.{get_or_default}
use Rattle.graph_paths.specs.Search.{LeadsFrom}
use Rattle.graph_paths.proofs.Loops.{steps-more}
use Rattle.graph_paths.proofs.search.visit.Goals as goal

pub other_end-y-requires-clause-edge : goal.other_end-y-requires-clause-edge
other_end-y-requires-clause-edge c =
    let g = c.args.g.now in
    let edges = c.incident-edge-items.ensures.value in
    let l : c.loop-edge.edge-index < length (incident_edges g c.args.x) = subst (λ s. c.loop-edge.edge-index < length s) edges c.loop-edge-test.true in
    subst (λ s. slice_index s c.loop-edge.edge-index < edge_count g) (sym edges) (incident_at-edge g c.args.x c.loop-edge.edge-index 0 l)

pub other_end-y-requires-clause-end : goal.other_end-y-requires-clause-end
other_end-y-requires-clause-end c =
    let g = c.args.g.now in
    let edges = c.incident-edge-items.ensures.value in
    let l : c.loop-edge.edge-index < length (incident_edges g c.args.x) = subst (λ s. c.loop-edge.edge-index < length s) edges c.loop-edge-test.true in
    subst (λ s. is_end g c.args.x (slice_index s c.loop-edge.edge-index) ≡ true) (sym edges) (incident_at-end g c.args.x c.loop-edge.edge-index 0 l)

pub loop-edge-preserved : goal.loop-edge-preserved
loop-edge-preserved c =
    let g = c.args.g.now in
    let x = c.args.x in
    let i = c.loop-edge.edge-index in
    let edges = c.incident-edge-items.ensures.value in
    let e = slice_index c.incident-edge-items.result.now i in
    let l : i < length (incident_edges g x) = subst (λ s. i < length s) edges c.loop-edge-test.true in
    let edge : e < edge_count g = subst (λ s. slice_index s i < edge_count g) (sym edges) (incident_at-edge g x i 0 l) in
    let from : is_end g x e ≡ true = subst (λ s. is_end g x (slice_index s i) ≡ true) (sym edges) (incident_at-end g x i 0 l) in
    steps-more (λ y m. LeadsFrom g x y m) (λ j h. other_end g (slice_index (incident_edges g x) j) x ≡ h) i (length c.args.marks.now) c.args.notes.now c.args.list.now.items
    c.loop-edge.marks c.loop-edge.notes c.loop-edge.list.items c.add_once.new.marks c.add_once.new.notes c.add_once.new.list.items c.other_end-y.result e c.loop-edge.invariant
    c.in_ok-add_once.ensures.listed c.in_ok-add_once.ensures.size c.in_ok-add_once.ensures.grows c.in_ok-add_once.ensures.held
    (record { edge = edge; from = from; to = sym c.other_end-y.ensures })
    (λ h q. c.other_end-y.ensures ∙ (ap (λ s. other_end g (slice_index s i) x) edges ∙ q))

pub returns-clause-met : goal.returns-clause-met
returns-clause-met c = λ e l h.
    let g = c.args.g.now in
    let x = c.args.x in
    let w = incident-has g x e l h in
    let at : slice_index (incident_edges g x) w.0 ≡ e = get_or_default (incident_edges g x) w.0 0 e w.1 ∙ w.2 in
    c.loop-edge.invariant.met w.0 (other_end g e x) (omega (arith, w.1, c.loop-edge-test.false, ap (λ (s : List ℕ). length s) c.incident-edge-items.ensures.value)) (ap (λ z. other_end g z x) at)
