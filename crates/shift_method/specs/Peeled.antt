-- Triangulations whose vertices are removed one after the other, and their contours by vertices.
use Rattle.std.specs.Prelude.{◌≡◌, ℕ, ◌+◌, ◌*◌, ◌<◌, ◌≤◌, true, List, [], ◌∷◌, ◌++◌, length, slice_index, slice_index_or}
use Rattle.permutations.specs.Members.{is_member}
use Rattle.dart_maps.specs.Map.{twin}
use Rattle.multigraph.specs.Graph.{Multigraph}
use Rattle.faces.specs.Euler.{tail}
use Rattle.triangulations.specs.Triangulation.{IsTriangulated}
use Rattle.canonical_orders.specs.Order.{Removed, IsCanonicalOrder}
use Rattle.shift_method.specs.Shapes.{ShapeState}

-- a triangulation with n vertices, from which they are removed in this order, but for `left` and `right`, the ends of dart 0
pub record IsPeeled (n left right : ℕ) (order : List Removed) : Type 0 where
  pub m : ℕ
  pub h : Multigraph
  pub next : ℕ → ℕ
  pub previous : ℕ → ℕ
  pub triangulated : IsTriangulated m h next previous
  pub number : h.vertex_count ≡ n
  pub first : tail h 0 ≡ left
  pub last : tail h (twin 0) ≡ right
  pub canonical : IsCanonicalOrder m h next 0 order

-- the vertex that is removed as number k, with its heads
abbrev pub removed_at : List Removed → ℕ → Removed
removed_at order k = slice_index_or order k (0, [])

-- the contours, by their darts, before the first removal, and after each
abbrev pub contour_at : {n left right : ℕ} {order : List Removed} → IsPeeled n left right order → ℕ → List ℕ
contour_at p k = slice_index_or p.canonical.contours k []

-- v is among the heads, and neither the first nor the last
pub record IsInnerHead (heads : List ℕ) (v : ℕ) : Type 0 where
  pub left : ℕ
  pub inner : List ℕ
  pub right : ℕ
  pub cut : heads ≡ left ∷ (inner ++ right ∷ [])
  pub among : is_member v inner ≡ true

-- at the positions x, the inner heads of a vertex lie where their offsets say
abbrev pub KeepsOffsets : (ℕ → ℕ) → ShapeState → Removed → Type 0
KeepsOffsets x s r = (v : ℕ) → IsInnerHead r.1 v → x v + slice_index s.half r.0 ≡ x r.0 + slice_index s.offset v

-- so it is for all vertices that are removed as number k or later
abbrev pub KeepsAll : (ℕ → ℕ) → ShapeState → List Removed → ℕ → Type 0
KeepsAll x s order k = (i : ℕ) → k ≤ i → i < length order → KeepsOffsets x s (removed_at order i)

-- positions x of all of n vertices, with the numbers s after all were placed: the two ends and the vertex above them, which is the first
-- that is removed, have their gaps, and the vertices that are covered their offsets
pub record ArePositions (n left right : ℕ) (order : List Removed) (s : ShapeState) (x : ℕ → ℕ) : Type 0 where
  pub at_left : x left ≡ 0
  pub at_top : x (removed_at order 0).0 ≡ slice_index s.gap (removed_at order 0).0
  pub at_right : x right ≡ slice_index s.gap (removed_at order 0).0 + slice_index s.gap right
  pub kept : KeepsAll x s order 0
  pub room : (i : ℕ) → i < length order → slice_index s.half (removed_at order i).0 ≤ x (removed_at order i).0
  pub wide : (v : ℕ) → v < n → x v + 4 ≤ 2 * n
