use Rattle.std.proofs.Common.{◌≡◌, ℕ, length}
use Rattle.graph_theory.specs.Labels.{label_at}
use Rattle.graph_theory.proofs.labels.own_labels.Given as goal

abbrev pub invariant-loop-number : goal.invariant-loop-number
invariant-loop-number l = (length l.labels.items ≡ l.number) × ((x : ℕ) → label_at l.labels.items x ≡ x)
