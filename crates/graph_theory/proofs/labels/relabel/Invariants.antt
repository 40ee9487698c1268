use Rattle.std.proofs.Common.{◌≡◌, ◌<◌, ◌≤◌, ℕ}
use Rattle.graph_theory.specs.Labels.{label_at, renamed}
use Rattle.graph_theory.proofs.labels.relabel.Given as goal

abbrev pub invariant-loop-label : goal.invariant-loop-label
invariant-loop-label l = ((x : ℕ) → x < l.label-index → label_at l.labels x ≡ renamed l.from l.to (label_at l.initial.labels x)) × ((x : ℕ) → l.label-index ≤ x → label_at l.labels x ≡ label_at l.initial.labels x)
