-- What is known of a graph with an edge that is to be contracted, and of its contraction.
use Rattle.std.proofs.Common.{◌≡◌, ℕ, ◌<◌, ◌≤◌, List, length, get_or, slice_index, sym, ap, ◌∙◌, subst, arith}
use Rattle.std.proofs.lemmas.List.{length-map}
use Rattle.multigraph.specs.Graph.{IsGraph, IsWithinLimits, edge_count, max_edges}
use Rattle.multigraph.proofs.Below.{length-filter_below}
use Rattle.graph_theory.specs.Triconnected.{IsTriconnected}
use Rattle.contractions.specs.Contraction.{IsContraction, is_kept}
use Rattle.contractions.specs.Contracted.{contracted_ends, contracted_vertex, kept_edges}
use Rattle.contractions.proofs.Contracted.{graph-contracted, limits-contracted}
use Rattle.contractions.proofs.ContractedTriconnected.{triconnected-contracted}
use Rattle.contractions.proofs.ContractionMade.{contracted-is}
use Rattle.contractions.specs.Level.{IsLevel, contraction, edge_before}
use Rattle.contractions.specs.declared.level.Level.{Level}
use Rattle.contractions.proofs.Naming.{kept-edge}

-- it is a contraction
pub level-contraction : (level : Level) → IsLevel level → IsContraction level.graph (contraction level) level.edge level.x level.y (edge_before level) (contracted_vertex level.x level.y)
level-contraction level k =
    subst (λ (l : List ℕ). IsContraction level.graph (contraction level) level.edge level.x level.y (slice_index l) (contracted_vertex level.x level.y)) (sym k.kept)
    (contracted-is level.graph k.graph level.edge level.x level.y k.oriented.edge_in k.oriented.first_end k.oriented.second_end)

-- of a graph
pub level-graph : (level : Level) → IsLevel level → IsGraph (contraction level)
level-graph level k = graph-contracted level.graph (contraction level) k.graph k.triconnected.simple level.edge level.x level.y (edge_before level) (contracted_vertex level.x level.y) (level-contraction level k)

-- within the limits
pub level-limits : (level : Level) → IsLevel level → IsWithinLimits (contraction level)
level-limits level k = limits-contracted level.graph (contraction level) k.graph k.triconnected.simple level.edge level.x level.y (edge_before level) (contracted_vertex level.x level.y) (level-contraction level k) k.limits

-- that is triconnected
pub level-triconnected : (level : Level) → IsLevel level → IsTriconnected (contraction level)
level-triconnected level k = triconnected-contracted level.graph (contraction level) k.graph k.triconnected level.edge level.x level.y (edge_before level) (contracted_vertex level.x level.y)
    (level-contraction level k) k.five k.oriented.contractible

-- its edges are those that stay
pub level-edges : (level : Level) → IsLevel level → edge_count (contraction level) ≡ length level.kept.items
level-edges level k = length-map (kept_edges level.graph level.edge level.x level.y) (contracted_ends level.graph level.x level.y) ∙ ap length (sym k.kept)

-- there are not many
pub level-few : (level : Level) → IsLevel level → length level.kept.items ≤ max_edges
level-few level k = omega (arith, ap length k.kept, length-filter_below (is_kept level.graph level.edge level.x level.y) (edge_count level.graph), k.limits.few_edges)

-- and each is an edge
pub level-kept : (level : Level) → IsLevel level → (i : ℕ) → i < length level.kept.items → slice_index level.kept.items i < edge_count level.graph
level-kept level k = subst (λ (l : List ℕ). (i : ℕ) → i < length l → get_or l i 0 < edge_count level.graph) (sym k.kept) (kept-edge level.graph level.edge level.x level.y)
