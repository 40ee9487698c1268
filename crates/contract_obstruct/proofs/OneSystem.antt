-- Steps are those of one rotation system, so what holds in some system with these steps holds in each.
use Rattle.std.proofs.Common.{◌≡◌, List, ℕ, sym, ◌∙◌, subst}
use Rattle.permutations.specs.Cyclic.{IsTurn}
use Rattle.multigraph.specs.Graph.{Multigraph}
use Rattle.rotations.specs.Rotation.{order_at}
use Rattle.faces.proofs.MapToLists.{orders-told}
use Rattle.planarity.specs.Expansion.{FallsInRuns}
use Rattle.contractions.specs.declared.level.Level.{Level}
use Rattle.contractions.specs.Level.{contraction, edge_before}
use Rattle.contract_obstruct.specs.Steps.{AreSteps}
use Rattle.contract_obstruct.specs.Crossing.{merged_vertex, IsAround}
use Rattle.contract_obstruct.specs.Obstruction.{HaveNoRuns}

-- two rotation systems with the same steps are one
pub one-system : (g : Multigraph) (next : List ℕ) (r s : List (List ℕ)) → AreSteps g r next → AreSteps g s next → r ≡ s
one-system g next r s a b = orders-told g r s a.system b.system (λ d l. sym (a.steps d l) ∙ b.steps d l)

-- the edges round the merged vertex
pub around-in : (level : Level) (next l : List ℕ) → IsAround level next l → (s : List (List ℕ)) → AreSteps (contraction level) s next → IsTurn (order_at s (merged_vertex level)) l
around-in level next l w s a = subst (λ (r : List (List ℕ)). IsTurn (order_at r (merged_vertex level)) l) (one-system (contraction level) next w.0 s w.1 a) w.2

-- darts that do not fall in runs
pub no_runs-in : (level : Level) (next : List ℕ) → HaveNoRuns level next → (s : List (List ℕ)) → AreSteps (contraction level) s next
    → (first last : ℕ) → FallsInRuns level.graph (contraction level) level.x level.y (edge_before level) s first last → ⊥
no_runs-in level next w s a first last f = w.2 first last
    (subst (λ (r : List (List ℕ)). FallsInRuns level.graph (contraction level) level.x level.y (edge_before level) r first last) (one-system (contraction level) next s w.0 a w.1) f)
