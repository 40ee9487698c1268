-- The rotation system that goes through the edges in order at vertex 0, and in reverse order at the other vertices; and rotation systems that
-- turn right.
use Rattle.std.specs.Prelude.{◌≡◌, ℕ, zero, suc, ◌<◌, ◌≤◌, List, map, reverse}
use Rattle.permutations.specs.Cyclic.{first_or, from_least, successor, predecessor}
use Rattle.multigraph.specs.Graph.{Multigraph, numbers_below, incident_edges}
use Rattle.planarity.specs.declared.embedder.Embedded.{Embedded}
use Rattle.planarity.specs.declared.embedder.Embedded.TheVariants.{Plane, Not}
use Rattle.rotations.specs.Rotation.{order_at, IsRotationSystem}

-- the edges at v, in order at vertex 0, and in reverse order at others
abbrev pub fan_order : Multigraph → ℕ → List ℕ
fan_order g zero = incident_edges g zero
fan_order g (suc v) = from_least (reverse (incident_edges g (suc v)))

-- those of all vertices
abbrev pub fan_system : Multigraph → List (List ℕ)
fan_system g = map (fan_order g) (numbers_below g.vertex_count)

-- a rotation system with these cyclic orders
pub record IsFan (g : Multigraph) (r : List (List ℕ)) : Type 0 where
  pub system : IsRotationSystem g r
  pub forward : 0 < g.vertex_count → order_at r 0 ≡ incident_edges g 0
  pub backward : 1 < g.vertex_count → order_at r 1 ≡ from_least (reverse (incident_edges g 1))

-- the second edge around vertex 0, from the least on, isn't above the last
abbrev pub TurnsRight : List (List ℕ) → Type 0
TurnsRight r = successor (order_at r 0) (first_or 0 (order_at r 0)) ≤ predecessor (order_at r 0) (first_or 0 (order_at r 0))

-- if the result is a rotation system, it does so
abbrev pub TurnsRightWherePlane : Embedded → Type 0
TurnsRightWherePlane (Plane r) = TurnsRight r
TurnsRightWherePlane (Not s) = Unit {0}
