-- State of the loops: the contour kept in arrays, with an entry for each vertex, and an order so far.
use Rattle.std.specs.Prelude.{◌≡◌, ℕ, suc, ◌+◌, ◌^◌, ◌<◌, ◌≤◌, Bool, true, not, ◌&&◌, ◌==◌, false, List, [], ◌∷◌, length, map, slice_index, slice_index_or}
use Rattle.permutations.specs.Count.{count, least}
use Rattle.permutations.specs.Members.{is_member, is_distinct}
use Rattle.permutations.specs.Permutation.{iterate}
use Rattle.permutations.specs.Ring.{images, ring}
use Rattle.dart_maps.specs.Map.{twin, face}
use Rattle.multigraph.specs.Graph.{Multigraph, edge_count}
use Rattle.multigraph.specs.Marks.{is_marked}
use Rattle.faces.specs.Euler.{tail, dart_count}
use Rattle.triangulations.specs.Listed.{ListedMap}
use Rattle.triangulations.specs.Triangulation.{IsTriangulated}
use Rattle.canonical_orders.specs.Contours.{IsContour, IsRemoval}
use Rattle.canonical_orders.specs.Free.{is_adjacent, on_contour, IsFree}
use Rattle.canonical_orders.specs.Order.{Removed, stays_after, IsCanonicalOrder}

-- each face of the map has three darts
abbrev pub IsTriangulatedMap : ListedMap → Type 0
IsTriangulatedMap t = IsTriangulated (edge_count t.graph) t.graph (slice_index t.next) (slice_index t.previous)

-- the order removes the vertices of the map but for the ends of dart 0
abbrev pub IsCanonicalOrderOf : ListedMap → List Removed → Type 0
IsCanonicalOrderOf t order = IsCanonicalOrder (edge_count t.graph) t.graph (slice_index t.next) 0 order

-- the vertices where the darts lead
abbrev pub heads_of : Multigraph → List ℕ → List ℕ
heads_of h darts = map (λ d. tail h (twin d)) darts

-- the vertices that they leave
abbrev pub tails_of : Multigraph → List ℕ → List ℕ
tails_of h darts = map (tail h) darts

-- the third darts of the triangles of these arms
abbrev pub third_darts : ListedMap → List ℕ → List ℕ
third_darts t arms = map (face (slice_index t.next)) arms

-- the darts around the vertex of dart d, from d on
abbrev pub ring_of : ListedMap → ℕ → List ℕ
ring_of t d = ring (dart_count t.graph) (slice_index t.next) d

-- whether the dart k steps after the one that follows d around its vertex leads to a marked vertex
abbrev pub leads_on : ListedMap → List Bool → ℕ → ℕ → Bool
leads_on t on d k = is_marked on (tail t.graph (twin (iterate (slice_index t.next) k (slice_index t.next d))))

-- the darts that follow d around its vertex, up to the first one that leads to a marked vertex
abbrev pub arms_after : ListedMap → List Bool → ℕ → List ℕ
arms_after t on d = images (slice_index t.next) (least (dart_count t.graph) (leads_on t on d) + 1) (slice_index t.next d)

-- a vertex can be removed next: it is marked, is no end of dart 0, and has met two marked neighbours
abbrev pub can_leave : Multigraph → List Bool → List ℕ → ℕ → Bool
can_leave h on met v = is_marked on v && not (v == tail h 0) && not (v == tail h (twin 0)) && (slice_index met v == 2)

-- `met` has for each vertex how many of its neighbours are marked
pub record IsMet (h : Multigraph) (on : List Bool) (met : List ℕ) : Type 0 where
  pub on_each : length on ≡ h.vertex_count
  pub met_each : length met ≡ h.vertex_count
  pub few : h.vertex_count < 2 ^ 32
  pub counts : (v : ℕ) → v < h.vertex_count → slice_index met v ≡ count h.vertex_count (λ x. is_marked on x && is_adjacent h v x)

-- the arrays keep the contour: `left` has the dart of each vertex on it, and these vertices are marked
pub record IsKept (h : Multigraph) (contour left : List ℕ) (on : List Bool) (met : List ℕ) : Type 0 where
  pub left_each : length left ≡ h.vertex_count
  pub counted : IsMet h on met
  pub marked : (v : ℕ) → is_marked on v ≡ on_contour h contour v
  pub darts : (d : ℕ) → is_member d contour ≡ true → slice_index left (tail h d) ≡ d

-- `left` after darts have been entered, each at the vertex that it leaves
pub record AreEntered (h : Multigraph) (darts before after : List ℕ) : Type 0 where
  pub each : length after ≡ length before
  pub new : (d : ℕ) → is_member d darts ≡ true → slice_index after (tail h d) ≡ d
  pub old : (v : ℕ) → is_member v (tails_of h darts) ≡ false → slice_index after v ≡ slice_index before v

-- a contour that the arrays keep, with a free vertex w
pub record IsReady (t : ListedMap) (left : List ℕ) (on : List Bool) (met : List ℕ) (w : ℕ) : Type 0 where
  pub stays : ℕ → Bool
  pub contour : List ℕ
  pub is : IsContour (edge_count t.graph) t.graph (slice_index t.next) 0 stays contour
  pub kept : IsKept t.graph contour left on met
  pub free : IsFree t.graph 0 contour w

-- vertex w was removed from the contour, its heads differ, and the arrays keep the contour that is left
pub record IsTakenOff (t : ListedMap) (contour left : List ℕ) (on : List Bool) (met : List ℕ) (w : ℕ) (removed : Removed) : Type 0 where
  pub later : List ℕ
  pub vertex : removed.0 ≡ w
  pub removal : IsRemoval t.graph (slice_index t.next) contour later removed.0 removed.1
  pub differ : is_distinct removed.1 ≡ true
  pub kept : IsKept t.graph later left on met

-- a canonical order so far, and the arrays that keep its last contour
pub record IsPartOrder (t : ListedMap) (order : List Removed) (left : List ℕ) (on : List Bool) (met : List ℕ) : Type 0 where
  pub contours : List (List ℕ)
  pub each : length contours ≡ length order + 1
  pub contour : (k : ℕ) → k ≤ length order → IsContour (edge_count t.graph) t.graph (slice_index t.next) 0 (stays_after t.graph order k) (slice_index_or contours k [])
  pub removal : (k : ℕ) → k < length order
      → IsRemoval t.graph (slice_index t.next) (slice_index_or contours k []) (slice_index_or contours (suc k) []) (slice_index_or order k (0, [])).0 (slice_index_or order k (0, [])).1
  pub present : (k : ℕ) → k < length order → stays_after t.graph order k (slice_index_or order k (0, [])).0 ≡ true
  pub begins : slice_index_or contours 0 [] ≡ 0 ∷ face (slice_index t.next) (face (slice_index t.next) 0) ∷ face (slice_index t.next) 0 ∷ []
  pub kept : IsKept t.graph (slice_index_or contours (length order) []) left on met
  pub left_over : count t.graph.vertex_count (stays_after t.graph order (length order)) + length order ≡ t.graph.vertex_count
