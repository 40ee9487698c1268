-- Three edges around the merged vertex of a level that lead from x to common neighbours of x and y.
use Rattle.std.specs.Prelude.{◌≡◌, ℕ, ◌<◌, true, List, [], ◌∷◌, ◌++◌}
use Rattle.multigraph.specs.Graph.{Multigraph, edge_count, is_end, other_end}
use Rattle.contractions.specs.Contraction.{are_adjacent}
use Rattle.kuratowski.specs.declared.subdivision.Pattern.TheVariants.{K5}
use Rattle.kuratowski.specs.Subdivision.{IsSubdivision}
use Rattle.planarity.specs.Circle.{five_paths}
use Rattle.contractions.specs.declared.level.Level.{Level}
use Rattle.contract_obstruct.specs.declared.crossing.Sector.{Sector}
use Rattle.contractions.specs.Level.{edge_before}
use Rattle.contract_obstruct.specs.Crossing.{merged_vertex, part_of, listed, IsAround}

-- where the first edge of a sector leads from x
abbrev pub tip : Level → Sector → ℕ
tip level sector = other_end level.graph (edge_before level sector.first) level.x

-- the first edge of a sector leads from x to a common neighbour of x and y
pub record LeadsToCommon (level : Level) (sector : Sector) : Type 0 where
  pub is_edge : edge_before level sector.first < edge_count level.graph
  pub leaves : is_end level.graph level.x (edge_before level sector.first) ≡ true
  pub common : are_adjacent level.graph level.y (tip level sector) ≡ true

-- the sectors make up the cyclic order around the merged vertex, and the first edge of each leads to a common neighbour
pub record AreTriple (level : Level) (next : List ℕ) (a b c : Sector) : Type 0 where
  pub around : IsAround level next (listed a ++ (listed b ++ listed c))
  pub first : LeadsToCommon level a
  pub second : LeadsToCommon level b
  pub third : LeadsToCommon level c

-- the branch vertices of the K5
abbrev pub triple_branch : Level → Sector → Sector → Sector → List ℕ
triple_branch level a b c = level.x ∷ level.y ∷ tip level c ∷ tip level b ∷ tip level a ∷ []

-- those of its paths that are single edges
abbrev pub triple_spokes : Level → Sector → Sector → Sector → ℕ → ℕ → ℕ → List (List ℕ)
triple_spokes level a b c to_a to_b to_c =
    (level.edge ∷ []) ∷ (edge_before level c.first ∷ []) ∷ (edge_before level b.first ∷ []) ∷ (edge_before level a.first ∷ [])
    ∷ (to_c ∷ []) ∷ (to_b ∷ []) ∷ (to_a ∷ []) ∷ []

-- its paths, where the edges `to_a`, `to_b` and `to_c` lead from y to the common neighbours
abbrev pub triple_paths : Level → Multigraph → List ℕ → Sector → Sector → Sector → ℕ → ℕ → ℕ → List (List ℕ)
triple_paths level h next a b c to_a to_b to_c =
    five_paths level.graph level.edge (edge_before level) (tip level c) (tip level b) (tip level a) (edge_before level c.first) (edge_before level b.first) (edge_before level a.first) to_c to_b to_a
    (part_of h next (merged_vertex level) c.first b.behind.items) (part_of h next (merged_vertex level) b.first a.behind.items) (part_of h next (merged_vertex level) a.first c.behind.items)

-- with these it is a subdivision
abbrev pub IsTriple : Level → Multigraph → List ℕ → Sector → Sector → Sector → ℕ → ℕ → ℕ → Type 0
IsTriple level h next a b c to_a to_b to_c = IsSubdivision level.graph K5 (triple_branch level a b c) (triple_paths level h next a b c to_a to_b to_c)
