-- A rotation system as a map of darts.
use Rattle.std.specs.Prelude.{ℕ, ◌/◌, List}
use Rattle.permutations.specs.Cyclic.{successor, predecessor}
use Rattle.multigraph.specs.Graph.{Multigraph, edge_count}
use Rattle.rotations.specs.Rotation.{order_at}
use Rattle.dart_maps.specs.Map as maps
use Rattle.faces.specs.Euler.{tail, dart_from}

-- the dart that follows d around the vertex that d leaves
abbrev pub dart_after : Multigraph → List (List ℕ) → ℕ → ℕ
dart_after g r d = dart_from g (tail g d) (successor (order_at r (tail g d)) (d / 2))

-- the dart that d follows around this vertex
abbrev pub dart_before : Multigraph → List (List ℕ) → ℕ → ℕ
dart_before g r d = dart_from g (tail g d) (predecessor (order_at r (tail g d)) (d / 2))

-- the map of darts of a rotation system is plane. The map has no isolated vertices
abbrev pub IsPlaneMap : Multigraph → List (List ℕ) → Type 0
IsPlaneMap g r = maps.IsPlane (edge_count g) (dart_after g r)
