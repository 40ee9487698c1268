use Rattle.std.proofs.Common.{◌≡◌, List, ℕ, ◌<◌, ◌-◌, length, map, get_or, sym, ap, ◌∙◌, subst}
use Rattle.multigraph.specs.Graph.{IsGraph, IsWithinLimits, edge_count}
use Rattle.multigraph.specs.Build.{multigraph_of}
use Rattle.contractions.specs.Contracted.{contracted_ends, kept_edges}
use Rattle.contractions.proofs.Naming.{kept-edge}
use Rattle.contractions.proofs.LevelFacts.{level-graph, level-limits}
use Rattle.contractions.proofs.level.Level.contraction.Goals as goal

pub contracted_ends-requires : goal.contracted_ends-requires
contracted_ends-requires c =
    let l = c.args.self.now in
    subst (λ (k : List ℕ). (i : ℕ) → i < length k → get_or k i 0 < edge_count l.graph) (sym (c.deref.ensures.value ∙ c.requires.kept)) (kept-edge l.graph l.edge l.x l.y)

pub of_ends-requires-clause-graph : goal.of_ends-requires-clause-graph
of_ends-requires-clause-graph c =
    let l = c.args.self.now in
    let ends : c.in_ok-ends.ends.items ≡ map (contracted_ends l.graph l.x l.y) (kept_edges l.graph l.edge l.x l.y) =
    c.in_ok-ends.ensures ∙ ap (map (contracted_ends l.graph l.x l.y)) (c.deref.ensures.value ∙ c.requires.kept) in
    subst (λ (z : List (ℕ × ℕ)). IsGraph (multigraph_of (c.vertex_count.result - 1) z)) (sym ends)
    (subst (λ (n : ℕ). IsGraph (multigraph_of (n - 1) (map (contracted_ends l.graph l.x l.y) (kept_edges l.graph l.edge l.x l.y)))) (sym c.vertex_count.ensures.value) (level-graph l c.requires))

pub of_ends-requires-clause-limits : goal.of_ends-requires-clause-limits
of_ends-requires-clause-limits c =
    let l = c.args.self.now in
    let ends : c.in_ok-ends.ends.items ≡ map (contracted_ends l.graph l.x l.y) (kept_edges l.graph l.edge l.x l.y) =
    c.in_ok-ends.ensures ∙ ap (map (contracted_ends l.graph l.x l.y)) (c.deref.ensures.value ∙ c.requires.kept) in
    subst (λ (z : List (ℕ × ℕ)). IsWithinLimits (multigraph_of (c.vertex_count.result - 1) z)) (sym ends)
    (subst (λ (n : ℕ). IsWithinLimits (multigraph_of (n - 1) (map (contracted_ends l.graph l.x l.y) (kept_edges l.graph l.edge l.x l.y)))) (sym c.vertex_count.ensures.value) (level-limits l c.requires))
