-- Faces of a rotation system, and the numbers of Euler's sum.
-- Each edge e has two darts: 2e leaves its first end, 2e + 1 its second. A face is an orbit of the step: leave v by e,
-- arrive at w, leave w by the edge that follows e around w.
use Rattle.std.specs.Prelude.{◌≡◌, ℕ, ◌+◌, ◌*◌, ◌/◌, ◌%◌, Bool, not, ◌==◌, if◌then◌else◌, List, length}
use Rattle.permutations.specs.Count.{count, some}
use Rattle.permutations.specs.Relation.{connected, class_count}
use Rattle.permutations.specs.Permutation.{reaches}
pub use Rattle.multigraph.specs.Darts.{tail, dart_from, dart_count}
use Rattle.multigraph.specs.Graph.{Multigraph, edge_count, other_end, incident_edges}
use Rattle.permutations.specs.Cyclic.{successor}
use Rattle.rotations.specs.Rotation.{order_at, IsRotationSystem}

-- the step along a face: arrive at the other end of the dart's edge, and leave it by the edge that follows there
abbrev pub face_step : Multigraph → List (List ℕ) → ℕ → ℕ
face_step g r d =
    let w = other_end g (d / 2) (tail g d) in dart_from g w (successor (order_at r w) (d / 2))

-- a number begins its orbit under f: no smaller one is among its images
abbrev pub begins_orbit : ℕ → (ℕ → ℕ) → ℕ → Bool
begins_orbit n f x = not (some x (λ y. reaches n f x y))

-- whether v has no edge
abbrev pub is_isolated : Multigraph → ℕ → Bool
is_isolated g v = length (incident_edges g v) == 0

-- the number of faces, each counted by the dart that begins it: an isolated vertex counts one
abbrev pub face_count : Multigraph → List (List ℕ) → ℕ
face_count g r = count (dart_count g) (begins_orbit (dart_count g) (face_step g r)) + count g.vertex_count (is_isolated g)

-- the number of components: the classes of vertices that edges connect
abbrev pub component_count : Multigraph → ℕ
component_count g = class_count g.vertex_count (connected g.ends)

-- a rotation system is plane where V + F = E + 2C
abbrev pub IsPlane : Multigraph → List (List ℕ) → Type 0
IsPlane g r = g.vertex_count + face_count g r ≡ edge_count g + 2 * component_count g

-- r is a plane rotation system of g
pub record IsPlaneSystem (g : Multigraph) (r : List (List ℕ)) : Type 0 where
  pub system : IsRotationSystem g r
  pub plane : IsPlane g r
