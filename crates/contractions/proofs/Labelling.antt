-- Labels tell whether a graph stays connected when vertices are removed.
use Rattle.std.proofs.Common.{◌≡◌, ℕ, ◌<◌, List, length, sym, ◌∙◌, subst}
use Rattle.multigraph.specs.Graph.{Multigraph}
use Rattle.graph_theory.specs.Triconnected.{IsConnectedWithout}
use Rattle.graph_theory.specs.Labels.{label_at, IsLabelling}
use Rattle.graph_theory.proofs.Labelling.{label-within, labelling-value}
use Rattle.contractions.specs.Labels.{AreAlike}

-- where all vertices that are left have one label, the graph stays connected
pub labelling-connected : (g : Multigraph) (removed labels : List ℕ) → IsLabelling g.ends removed (label_at labels) → length labels ≡ g.vertex_count
    → AreAlike removed labels → IsConnectedWithout g removed
labelling-connected g removed labels s e h u v l m a b =
    let i : u < length labels = subst (λ n. u < n) (sym e) l in
    let j : v < length labels = subst (λ n. v < n) (sym e) m in
    s.only u v (label-within labels u 0 i ∙ h u v i j a b ∙ sym (label-within labels v 0 j))

-- and the other way round
pub labelling-alike : (g : Multigraph) (removed labels : List ℕ) → IsLabelling g.ends removed (label_at labels) → length labels ≡ g.vertex_count
    → IsConnectedWithout g removed → AreAlike removed labels
labelling-alike g removed labels s e h u v l m a b =
    sym (label-within labels u 0 l)
    ∙ labelling-value g.ends removed (label_at labels) s u v (h u v (subst (λ n. u < n) e l) (subst (λ n. v < n) e m) a b)
    ∙ label-within labels v 0 m
