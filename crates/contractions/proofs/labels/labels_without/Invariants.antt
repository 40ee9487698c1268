use Rattle.std.proofs.Common.{◌≡◌, [], ◌∷◌, length, take}
use Rattle.graph_theory.specs.Labels.{label_at, IsLabelling, AreLabelsBelow}
use Rattle.contractions.proofs.labels.labels_without.Given as goal

abbrev pub invariant-loop-edge : goal.invariant-loop-edge
invariant-loop-edge l =
    IsLabelling (take l.edge l.g.ends) (l.x ∷ l.y ∷ l.z ∷ []) (label_at l.labels.items)
    × AreLabelsBelow l.g.vertex_count l.labels.items × (length l.labels.items ≡ l.g.vertex_count)
