use Rattle.std.proofs.Common.{◌≡◌, [], ◌∷◌, length, take}
use Rattle.graph_theory.specs.Labels.{label_at, IsLabelling, AreLabelsBelow}
use Rattle.pair_split.specs.Edges.{family_skeleton}
use Rattle.pair_split.specs.Bridges.{family_of}
use Rattle.pair_split.proofs.labels.labels_without.Given as goal

abbrev pub invariant-loop-edge : goal.invariant-loop-edge
invariant-loop-edge l =
    IsLabelling (family_skeleton (family_of (take l.edge-index l.edges))) (l.a ∷ l.b ∷ []) (label_at l.labels.items)
    × AreLabelsBelow l.n l.labels.items × (length l.labels.items ≡ l.n)
