-- Maps of darts, after Edmonds (1960) and Cori (1975): a map with m edges has the darts 0 to 2m - 1. Edge e has the
-- darts 2e and 2e + 1, one at each of its ends. `next` is a permutation of the darts, and its orbits are the vertices:
-- next d is the dart that follows d around the vertex that d leaves.
use Rattle.std.specs.Prelude.{◌≡◌, ℕ, zero, suc, ◌+◌, ◌-◌, ◌*◌, ◌%◌, Bool, ◌&&◌, ◌==◌, if◌then◌else◌, List, [], ◌∷◌}
unfoldable pub use Rattle.multigraph.specs.Darts.{twin}
use Rattle.permutations.specs.Relation.{connected, class_count}
use Rattle.permutations.specs.Permutation.{Permutes, same_orbit, orbit_count}

-- a map with m edges: `next` permutes the darts, and `previous` is its inverse
abbrev pub IsMap : ℕ → (ℕ → ℕ) → (ℕ → ℕ) → Type 0
IsMap m next previous = Permutes (2 * m) next previous

-- the step along a face: go to the other end of the edge, and leave there by the dart that follows
abbrev pub face : (ℕ → ℕ) → ℕ → ℕ
face next d = next (twin d)

-- for each of the first k darts a link to the dart that follows it and one to the dart at the other end of its edge
abbrev pub dart_links : ℕ → (ℕ → ℕ) → List (ℕ × ℕ)
dart_links zero next = []
dart_links (suc k) next = (k, next k) ∷ ((k, twin k) ∷ dart_links k next)

-- two darts leave the same vertex
abbrev pub same_vertex : ℕ → (ℕ → ℕ) → ℕ → ℕ → Bool
same_vertex m next = same_orbit (2 * m) next

-- two darts lie on the same face
abbrev pub same_face : ℕ → (ℕ → ℕ) → ℕ → ℕ → Bool
same_face m next = same_orbit (2 * m) (face next)

-- two darts are in the same component
abbrev pub same_component : ℕ → (ℕ → ℕ) → ℕ → ℕ → Bool
same_component m next = connected (dart_links (2 * m) next)

-- V, the number of vertices
abbrev pub vertex_count : ℕ → (ℕ → ℕ) → ℕ
vertex_count m next = orbit_count (2 * m) next

-- F, the number of faces
abbrev pub face_count : ℕ → (ℕ → ℕ) → ℕ
face_count m next = orbit_count (2 * m) (face next)

-- C, the number of components
abbrev pub component_count : ℕ → (ℕ → ℕ) → ℕ
component_count m next = class_count (2 * m) (same_component m next)

-- a map is plane where V + F = E + 2C
abbrev pub IsPlane : ℕ → (ℕ → ℕ) → Type 0
IsPlane m next = vertex_count m next + face_count m next ≡ m + 2 * component_count m next

-- two maps of m edges are equally far from plane: E + 2C - V - F is the same
abbrev pub SameDefect : ℕ → (ℕ → ℕ) → (ℕ → ℕ) → Type 0
SameDefect m f h = vertex_count m f + face_count m f + 2 * component_count m h ≡ vertex_count m h + face_count m h + 2 * component_count m f

-- a dart that is alone at its vertex
abbrev pub is_alone : (ℕ → ℕ) → ℕ → Bool
is_alone next d = next d == d

-- an edge both ends of which are alone: it lies apart from all others
abbrev pub is_dead : (ℕ → ℕ) → ℕ → Bool
is_dead next e = is_alone next (2 * e) && is_alone next (2 * e + 1)
