-- The edge of this turn is one at the vertex.
use Rattle.std.proofs.Common.{◌≡◌, ◌<◌, ℕ, List, true, false, length, slice_index, sym, ap, subst, arith}
use Rattle.permutations.proofs.Arrangements.{member-from_contains}
use Rattle.multigraph.specs.Graph.{edge_count, is_end, incident_edges}
use Rattle.multigraph.specs.Marks.{is_marked}
use Rattle.multigraph.proofs.Incident.{incident-has, incident_at-edge, incident_at-end}
use Rattle.path_rotation.specs.Settling.{IsTouched}
use Rattle.path_rotation.proofs.Stamps.{at-members}
use Rattle.path_rotation.proofs.settling.is_touched.Goals as goal

pub other_end-y-requires-clause-edge : goal.other_end-y-requires-clause-edge
other_end-y-requires-clause-edge c =
    let g = c.args.g.now in
    let edges = c.incident-edge-items.ensures.value in
    let l : c.loop-edge.edge-index < length (incident_edges g c.args.z) = subst (λ s. c.loop-edge.edge-index < length s) edges c.loop-edge-test.true in
    subst (λ s. slice_index s c.loop-edge.edge-index < edge_count g) (sym edges) (incident_at-edge g c.args.z c.loop-edge.edge-index 0 l)

pub other_end-y-requires-clause-end : goal.other_end-y-requires-clause-end
other_end-y-requires-clause-end c =
    let g = c.args.g.now in
    let edges = c.incident-edge-items.ensures.value in
    let l : c.loop-edge.edge-index < length (incident_edges g c.args.z) = subst (λ s. c.loop-edge.edge-index < length s) edges c.loop-edge-test.true in
    subst (λ s. is_end g c.args.z (slice_index s c.loop-edge.edge-index) ≡ true) (sym edges) (incident_at-end g c.args.z c.loop-edge.edge-index 0 l)

pub returns-then-labels-y-clause-touched : goal.returns-then-labels-y-clause-touched
returns-then-labels-y-clause-touched c = λ _.
    let g = c.args.g.now in
    let edges = c.incident-edge-items.ensures.value in
    let l : c.loop-edge.edge-index < length (incident_edges g c.args.z) = subst (λ s. c.loop-edge.edge-index < length s) edges c.loop-edge-test.true in (
      slice_index c.incident-edge-items.result.now c.loop-edge.edge-index,
      record {
        is_edge = subst (λ s. slice_index s c.loop-edge.edge-index < edge_count g) (sym edges) (incident_at-edge g c.args.z c.loop-edge.edge-index 0 l);
        arrives = subst (λ s. is_end g c.args.z (slice_index s c.loop-edge.edge-index) ≡ true) (sym edges) (incident_at-end g c.args.z c.loop-edge.edge-index 0 l);
        off = subst (λ (y : ℕ). is_marked c.args.on.now y ≡ false) c.other_end-y.ensures c.if-not-on-y.true;
        labelled = subst (λ (y : ℕ). slice_index c.args.labels.now y ≡ c.args.root) c.other_end-y.ensures c.if-labels-y.true;
      },
    )

pub returns-clause-none : goal.returns-clause-none
returns-clause-none c = λ _ _ _ e w.
    let g = c.args.g.now in
    at-members (incident_edges g c.args.z) (λ f. IsTouched g c.args.on.now c.args.labels.now c.args.root c.args.z f → ⊥)
    (λ j l. c.loop-edge.invariant j (omega (arith, l, c.loop-edge-test.false, ap (λ (s : List ℕ). length s) c.incident-edge-items.ensures.value)))
    e (member-from_contains (incident_edges g c.args.z) e (incident-has g c.args.z e w.is_edge w.arrives)) w
