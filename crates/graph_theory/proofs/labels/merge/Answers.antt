use Rattle.std.proofs.Common.{inl, inr, ℕ, ◌<◌, length, slice_index_or, sym, ◌∙◌, ap, subst, arith}
use Rattle.graph_theory.specs.Labels.{label_at, renamed}
use Rattle.graph_theory.proofs.Removed.{avoids-from, avoids-not}
use Rattle.graph_theory.proofs.Labelling.{labelling-skip, labelling-merge, label-within, renamed-below, renamed-same}
use Rattle.graph_theory.proofs.labels.merge.Goals as goal
use Rattle.graph_theory.proofs.labels.merge.Goals.{then-is_removed-via-then-is_removed, then-is_removed-via-else-is_removed+then-is_removed-2}

pub returns-then-is_removed-clause-merged : goal.returns-then-is_removed-clause-merged
returns-then-is_removed-clause-merged c = λ links h. labelling-skip links (c.args.first, c.args.second) c.args.removed.now (label_at c.args.labels.now) (avoids-not c.args.removed.now (c.args.first, c.args.second) (elim c.then-is_removed.branch [
  | then-is_removed-via-then-is_removed w ↦ inl (sym c.is_removed.ensures ∙ w.if-is_removed.true)
  | then-is_removed-via-else-is_removed+then-is_removed-2 w ↦ inr (sym w.is_removed-else-is_removed.ensures ∙ w.if-is_removed-2.true)
])) h

pub relabel-requires : goal.relabel-requires
relabel-requires c = subst (λ (x : ℕ). x < length c.args.labels.now) (label-within c.args.labels.now c.args.first 0 c.requires.first_in) (c.requires.within c.args.first c.requires.first_in)

pub returns-then-from-to-clause-merged : goal.returns-then-from-to-clause-merged
returns-then-from-to-clause-merged c = λ links h. labelling-merge links (c.args.first, c.args.second) c.args.removed.now (label_at c.args.labels.now) (label_at c.relabel.new.labels)
    (avoids-from c.args.removed.now (c.args.first, c.args.second) (sym c.is_removed.ensures ∙ c.if-is_removed.false) (sym c.is_removed-else-is_removed.ensures ∙ c.if-is_removed-2.false))
    (λ x. c.relabel.ensures x ∙ (ap (λ (z : ℕ). renamed z (slice_index_or c.args.labels.now c.args.second 0) (label_at c.args.labels.now x)) (sym (label-within c.args.labels.now c.args.first 0 c.requires.first_in))
    ∙ ap (λ (z : ℕ). renamed (label_at c.args.labels.now c.args.first) z (label_at c.args.labels.now x)) (sym (label-within c.args.labels.now c.args.second 0 c.requires.second_in)))) h

pub returns-then-from-to-clause-within : goal.returns-then-from-to-clause-within
returns-then-from-to-clause-within c = λ x l. subst (λ (z : ℕ). z < length c.args.labels.now) (sym (c.relabel.ensures x))
    (renamed-below (length c.args.labels.now) _ _ (label_at c.args.labels.now x)
    (subst (λ (z : ℕ). z < length c.args.labels.now) (label-within c.args.labels.now c.args.second 0 c.requires.second_in) (c.requires.within c.args.second c.requires.second_in))
    (c.requires.within x l))

pub returns-else-from-to-clause-merged : goal.returns-else-from-to-clause-merged
returns-else-from-to-clause-merged c = λ links h. labelling-merge links (c.args.first, c.args.second) c.args.removed.now (label_at c.args.labels.now) (label_at c.args.labels.now)
    (avoids-from c.args.removed.now (c.args.first, c.args.second) (sym c.is_removed.ensures ∙ c.if-is_removed.false) (sym c.is_removed-else-is_removed.ensures ∙ c.if-is_removed-2.false))
    (λ x. sym (renamed-same (label_at c.args.labels.now c.args.first) (label_at c.args.labels.now c.args.second) (label_at c.args.labels.now x)
    (omega (arith, c.if-from-to.false, label-within c.args.labels.now c.args.first 0 c.requires.first_in, label-within c.args.labels.now c.args.second 0 c.requires.second_in)))) h
