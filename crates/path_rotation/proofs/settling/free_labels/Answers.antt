-- One edge more, or none.
use Rattle.std.proofs.Common.{◌≡◌, ◌∙◌, ℕ, ◌+◌, List, [], ◌∷◌, ◌++◌, length, drop, sym, ap, subst, arith}
use Rattle.std.proofs.lemmas.List.{take_at}
use Rattle.multigraph.specs.Graph.{edge_count}
use Rattle.graph_theory.specs.Labels.{label_at, IsLabelling, AreLabelsBelow}
use Rattle.path_rotation.proofs.FreeLabels.{off_links, off-more, off-skip, free-labelled}
use Rattle.path_rotation.proofs.settling.free_labels.Goals as goal
use Rattle.path_rotation.proofs.settling.free_labels.Goals.{then-is_off_edge, else-is_off_edge}

pub loop-e-preserved : goal.loop-e-preserved
loop-e-preserved c =
    let g = c.args.g.now in
    let on = c.args.on.now in
    let e = c.loop-e.e in
    let old = c.loop-e.labels in
    elim c.if-is_off_edge.branch [
      | then-is_off_edge w ↦
          let before = w.deref_mut.result.now in
          let new = w.merge.new.labels in
          let size : length before ≡ g.vertex_count = ap (λ (l : List ℕ). length l) w.deref_mut.ensures.value ∙ c.loop-e.invariant.size in
          let started : IsLabelling (off_links g on e) [] (label_at before) = subst (λ (l : List ℕ). IsLabelling (off_links g on e) [] (label_at l)) (sym w.deref_mut.ensures.value) c.loop-e.invariant.labelling in
          let joined : IsLabelling (off_links g on e ++ w.ends-a.result ∷ []) [] (label_at new) = w.merge.ensures.merged (off_links g on e) started in
          let kept =
          subst (λ (l : List ℕ). IsLabelling (off_links g on (e + 1)) [] (label_at l) × AreLabelsBelow g.vertex_count l × (length l ≡ g.vertex_count))
          (sym (take_at new (drop (length new) old.items) old.len (w.merge.auto.labels ∙ w.deref_mut.ensures.len))) (
            subst (λ (k : List (ℕ × ℕ)). IsLabelling k [] (label_at new)) (ap (λ (p : ℕ × ℕ). off_links g on e ++ p ∷ []) w.ends-a.ensures.value ∙ off-more g on e (sym c.is_off_edge.ensures ∙ w.if-is_off_edge.true)) joined,
            subst (λ (n : ℕ). AreLabelsBelow n new) size w.merge.ensures.within,
            w.merge.auto.labels ∙ size,
          ) in
          rw w.labels-is (record { labelling = kept.0; below = kept.1; size = kept.2 })
      | else-is_off_edge w ↦
          rw w.labels-is
          (record {
            labelling = subst (λ (k : List (ℕ × ℕ)). IsLabelling k [] (label_at old.items)) (off-skip g on e (sym c.is_off_edge.ensures ∙ w.if-is_off_edge.false)) c.loop-e.invariant.labelling;
            below = c.loop-e.invariant.below;
            size = c.loop-e.invariant.size;
          })
    ]

pub returns : goal.returns
returns c =
    let g = c.args.g.now in
    let on = c.args.on.now in
    let labels = c.loop-e.labels.items in
    let all : c.loop-e.e ≡ edge_count g = omega (arith, c.loop-e-test.false, c.loop-e.auto.e-end, c.edge_count-e-end.ensures.value) in
    free-labelled g on labels c.loop-e.invariant.size (subst (λ (k : ℕ). IsLabelling (off_links g on k) [] (label_at labels)) all c.loop-e.invariant.labelling)
