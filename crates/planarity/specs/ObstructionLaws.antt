-- What is proved of how subdivisions of K5 and K3,3 arise when an edge is contracted, as statements.
use Rattle.std.specs.Prelude.{ℕ, ◌<◌, ◌≤◌, List, ◌∷◌, reverse}
use Rattle.permutations.specs.Cyclic.{IsTurn}
use Rattle.multigraph.specs.Graph.{Multigraph, IsGraph, is_end, other_end}
use Rattle.rotations.specs.Rotation.{order_at, IsRotationSystem}
use Rattle.graph_theory.specs.Triconnected.{IsSimple, IsTriconnected}
use Rattle.contractions.specs.Contraction.{common_count, IsContraction}
use Rattle.faces.specs.Euler.{IsPlane}
use Rattle.planarity.specs.Alternation.{Alternates}
use Rattle.planarity.specs.Circle.{IsCircle, spread, circle_parts, leads_near}
use Rattle.planarity.specs.Lift.{HasSubdivision}

-- where the graph with an edge contracted has a subdivision of K5 or K3,3, the graph has one
abbrev pub SubdivisionIsLifted : Type 0
SubdivisionIsLifted = (g h : Multigraph) (e x y : ℕ) (edge vertex : ℕ → ℕ) → IsGraph g → IsGraph h → IsContraction g h e x y edge vertex → HasSubdivision h → HasSubdivision g

-- in a plane rotation system of a triconnected graph a cycle passes the neighbours of each vertex w, and not w itself: whatever
-- edges at w are chosen, it comes to the vertices where they lead in the opposite order of the edges
abbrev pub NeighboursOnCircle : Type 0
NeighboursOnCircle = (h : Multigraph) (s : List (List ℕ)) → IsGraph h → IsRotationSystem h s → IsPlane h s → IsTriconnected h → (w : ℕ) → w < h.vertex_count
    → (first : ℕ × List ℕ) (groups : List (ℕ × List ℕ)) → IsTurn (reverse (order_at s w)) (spread (first ∷ groups)) → IsCircle h w (other_end h first.0 w) (circle_parts h s w (first ∷ groups))

-- where the contracted graph is triconnected and has a plane rotation system, and the ends of the contracted edge have three
-- neighbours in common, the graph has a subdivision of K5 or K3,3
abbrev pub CommonNeighboursObstruct : Type 0
CommonNeighboursObstruct = (g h : Multigraph) (e x y : ℕ) (edge vertex : ℕ → ℕ) → IsGraph g → IsGraph h → IsContraction g h e x y edge vertex → IsSimple g
    → (s : List (List ℕ)) → IsRotationSystem h s → IsPlane h s → IsTriconnected h → 3 ≤ common_count g x y → HasSubdivision g

-- and so it has where around the merged vertex edges at x alternate with an edge to a neighbour of y and an edge not at x
abbrev pub AlternatingNeighboursObstruct : Type 0
AlternatingNeighboursObstruct = (g h : Multigraph) (e x y : ℕ) (edge vertex : ℕ → ℕ) → IsGraph g → IsGraph h → IsContraction g h e x y edge vertex → IsSimple g
    → (s : List (List ℕ)) → IsRotationSystem h s → IsPlane h s → IsTriconnected h
    → Alternates (λ i. is_end g x (edge i)) (leads_near g x y edge) (order_at s (vertex x)) → HasSubdivision g
