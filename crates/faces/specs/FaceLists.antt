-- What is proved of the lists of faces, as statements.
use Rattle.std.specs.Prelude.{◌≡◌, ℕ, ◌+◌, ◌<◌, true, List, [], length, slice_index_or}
use Rattle.permutations.specs.Count.{count}
use Rattle.multigraph.specs.Graph.{Multigraph, IsGraph, edge_count, is_end}
use Rattle.rotations.specs.Rotation.{IsRotationSystem}
use Rattle.faces.specs.Euler.{dart_count, face_step, is_isolated, face_count}
use Rattle.faces.specs.Trace.{orbit_pairs, face_lists}

-- the pair is in exactly one of the lists, and there once
pub record IsListedOnce (lists : List (List (ℕ × ℕ))) (pair : ℕ × ℕ) : Type 0 where
  pub list : ℕ
  pub place : ℕ
  pub list_in : list < length lists
  pub place_in : place < length (slice_index_or lists list [])
  pub there : slice_index_or (slice_index_or lists list []) place (0, 0) ≡ pair
  pub only : (i j : ℕ) → i < length lists → j < length (slice_index_or lists i []) → slice_index_or (slice_index_or lists i []) j (0, 0) ≡ pair → (i ≡ list) × (j ≡ place)

-- each face that is listed is an orbit of the face step: the pairs of a dart and of its images, from this dart on
abbrev pub FacesAreOrbits : Type 0
FacesAreOrbits = (g : Multigraph) (r : List (List ℕ)) → IsGraph g → IsRotationSystem g r
    → (i : ℕ) → i < length (face_lists g r) → (d : ℕ) × (d < dart_count g) × (slice_index_or (face_lists g r) i [] ≡ orbit_pairs g (face_step g r) d)

-- each pair of a vertex and an edge at it is in exactly one face, and there once
abbrev pub EachPairIsListedOnce : Type 0
EachPairIsListedOnce = (g : Multigraph) (r : List (List ℕ)) → IsGraph g → IsRotationSystem g r
    → (v e : ℕ) → e < edge_count g → is_end g v e ≡ true → IsListedOnce (face_lists g r) (v, e)

-- the faces of Euler's sum are those that are listed, and one for each isolated vertex
abbrev pub ListedFacesAreCounted : Type 0
ListedFacesAreCounted = (g : Multigraph) (r : List (List ℕ)) → IsGraph g → IsRotationSystem g r
    → length (face_lists g r) + count g.vertex_count (is_isolated g) ≡ face_count g r
