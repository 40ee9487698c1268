-- Edges around the merged vertex of a level that alternate: two that lead from x, one that leads to a neighbour of y, and one not
-- from x.
use Rattle.std.specs.Prelude.{◌≡◌, ℕ, ◌<◌, [], true, false, if◌then◌else◌, List, ◌∷◌, ◌++◌, ◌≤◌, length, map, reverse}
use Rattle.permutations.specs.Cyclic.{IsTurn}
use Rattle.permutations.specs.Members.{is_member}
use Rattle.multigraph.specs.Graph.{Multigraph, edge_count, is_end, other_end, max_darts}
use Rattle.rotations.specs.Rotation.{order_at}
use Rattle.contractions.specs.Contracted.{contracted_vertex}
use Rattle.faces.specs.Euler.{dart_from}
use Rattle.kuratowski.specs.declared.subdivision.Pattern.TheVariants.{K33}
use Rattle.kuratowski.specs.Subdivision.{IsSubdivision}
use Rattle.planarity.specs.Circle.{leads_near, six_paths}
use Rattle.planarity.specs.Lift.{lifted}
use Rattle.contractions.specs.declared.level.Level.{Level}
use Rattle.contract_obstruct.specs.declared.crossing.Feet.{Feet}
use Rattle.contract_obstruct.specs.declared.crossing.Sector.{Sector}
use Rattle.contract_obstruct.specs.declared.crossing.Sectors.{Sectors}
use Rattle.contractions.specs.Level.{contraction, edge_before}
use Rattle.contract_obstruct.specs.Steps.{AreSteps}
use Rattle.contract_obstruct.specs.Arcs.{arcs_of}
use Rattle.contract_obstruct.specs.Sectors.{LeadsOut}

-- the merged vertex
abbrev pub merged_vertex : Level → ℕ
merged_vertex level = contracted_vertex level.x level.y level.x

-- where edge f leads from y, and from x if it is not at y
abbrev pub near_end : Multigraph → ℕ → ℕ → ℕ → ℕ
near_end g x y f = (if is_end g y f then other_end g f y else other_end g f x)

-- the edges of the circle around w from where edge i leads, back over the edges passed after it
abbrev pub part_of : Multigraph → List ℕ → ℕ → ℕ → List ℕ → List ℕ
part_of h next w i passed = arcs_of next (map (dart_from h w) (i ∷ reverse passed))

-- a sector of a cyclic order as a list
abbrev pub listed : Sector → List ℕ
listed sector = sector.first ∷ sector.behind.items

-- there is a rotation system with these steps, and in it these are the edges around the merged vertex, in their order
abbrev pub IsAround : Level → List ℕ → List ℕ → Type 0
IsAround level next l = (s : List (List ℕ)) × AreSteps (contraction level) s next × IsTurn (order_at s (merged_vertex level)) l

-- the first edges of the left and of the right sector lead from x, that of the near one to a neighbour of y, and that of the far
-- one does not lead from x
pub record FirstEdgesAlternate (level : Level) (sectors : Sectors) : Type 0 where
  pub left : is_end level.graph level.x (edge_before level sectors.left.first) ≡ true
  pub near : leads_near level.graph level.x level.y (edge_before level) sectors.near.first ≡ true
  pub right : is_end level.graph level.x (edge_before level sectors.right.first) ≡ true
  pub far : is_end level.graph level.x (edge_before level sectors.far.first) ≡ false
  pub left_out : LeadsOut level sectors.left.first
  pub near_out : LeadsOut level sectors.near.first
  pub right_out : LeadsOut level sectors.right.first
  pub far_out : LeadsOut level sectors.far.first

-- the sectors make up the cyclic order around the merged vertex, and their first edges alternate
pub record AreCrossing (level : Level) (next : List ℕ) (sectors : Sectors) : Type 0 where
  pub around : IsAround level next (listed sectors.left ++ (listed sectors.near ++ (listed sectors.right ++ listed sectors.far)))
  pub leads : FirstEdgesAlternate level sectors

-- the feet are where the first edges of the sectors lead: the far one from y, the near one from y or from x, the others from x
pub record AreFeet (level : Level) (sectors : Sectors) (feet : Feet) : Type 0 where
  pub left : feet.left ≡ other_end level.graph (edge_before level sectors.left.first) level.x
  pub near : feet.near ≡ near_end level.graph level.x level.y (edge_before level sectors.near.first)
  pub right : feet.right ≡ other_end level.graph (edge_before level sectors.right.first) level.x
  pub far : feet.far ≡ other_end level.graph (edge_before level sectors.far.first) level.y

-- those paths of the K3,3 that are single edges, but one
abbrev pub crossing_spokes : Level → Sectors → List (List ℕ)
crossing_spokes level sectors =
    (level.edge ∷ []) ∷ (edge_before level sectors.right.first ∷ []) ∷ (edge_before level sectors.left.first ∷ []) ∷ (edge_before level sectors.far.first ∷ []) ∷ []

-- a part of the circle around the merged vertex, from where edge `first` leads, as a path of the graph
abbrev pub side_of : Level → Multigraph → List ℕ → ℕ → Sector → ℕ → ℕ → List ℕ
side_of level h next first sector from to =
    lifted level.graph level.edge from (map (edge_before level) (part_of h next (merged_vertex level) first sector.behind.items)) to

-- the paths of the K3,3, where an edge `joining` leads from y to the near foot
abbrev pub crossing_paths : Level → Multigraph → List ℕ → Sectors → ℕ → List (List ℕ)
crossing_paths level h next sectors joining =
    let a = sectors.left in
    let b = sectors.near in
    let c = sectors.right in
    let d = sectors.far in
    six_paths level.graph level.edge (edge_before level) (other_end level.graph (edge_before level d.first) level.y) (other_end level.graph (edge_before level c.first) level.x)
    (near_end level.graph level.x level.y (edge_before level b.first)) (other_end level.graph (edge_before level a.first) level.x) (edge_before level d.first) (edge_before level c.first) joining (edge_before level a.first)
    (part_of h next (merged_vertex level) d.first c.behind.items) (part_of h next (merged_vertex level) c.first b.behind.items) (part_of h next (merged_vertex level) b.first a.behind.items) (part_of h next (merged_vertex level) a.first d.behind.items)

-- its branch vertices
abbrev pub crossing_branch : Level → Sectors → List ℕ
crossing_branch level sectors =
    level.x ∷ other_end level.graph (edge_before level sectors.far.first) level.y ∷ near_end level.graph level.x level.y (edge_before level sectors.near.first) ∷ level.y
    ∷ other_end level.graph (edge_before level sectors.right.first) level.x ∷ other_end level.graph (edge_before level sectors.left.first) level.x ∷ []

-- the edge i and those passed after another one are edges
abbrev pub AreEdges : Multigraph → ℕ → List ℕ → Type 0
AreEdges h i passed = (z : ℕ) → is_member z (i ∷ reverse passed) ≡ true → z < edge_count h

-- the sectors and the edge `joining` give a subdivision, each of whose sides goes back over edges of the contraction
pub record IsClosing (level : Level) (h : Multigraph) (next : List ℕ) (sectors : Sectors) (joining : ℕ) : Type 0 where
  pub few : length next ≤ max_darts
  pub leads : FirstEdgesAlternate level sectors
  pub far_right : AreEdges h sectors.far.first sectors.right.behind.items
  pub right_near : AreEdges h sectors.right.first sectors.near.behind.items
  pub near_left : AreEdges h sectors.near.first sectors.left.behind.items
  pub left_far : AreEdges h sectors.left.first sectors.far.behind.items
  pub subdivision : IsSubdivision level.graph K33 (crossing_branch level sectors) (crossing_paths level h next sectors joining)
