-- Straight-line drawings of a graph with a rotation system: a point for each vertex, a segment for each edge.
use Rattle.std.specs.Prelude.{◌≡◌, ◌≢◌, ℕ, ◌+◌, ◌<◌, true, false, List, length, map, slice_index_or}
use Rattle.multigraph.specs.Graph.{Multigraph, edge_count, ends_of, is_end, other_end}
use Rattle.rotations.specs.Rotation.{order_at}
use Rattle.plane_points.specs.Turning.{IsCounterclockwise}
use Rattle.plane_points.specs.Segments.{weighted, times}

-- the point of a vertex
abbrev pub point_at : List (ℕ × ℕ) → ℕ → ℕ × ℕ
point_at points v = slice_index_or points v (0, 0)

-- s + t times a point of the segment of edge e
abbrev pub along : Multigraph → List (ℕ × ℕ) → ℕ → ℕ → ℕ → ℕ × ℕ
along g points e s t = weighted s (point_at points (ends_of g e).0) t (point_at points (ends_of g e).1)

-- q is k times the point of a common end of e and f
pub record IsCommonEnd (g : Multigraph) (points : List (ℕ × ℕ)) (e f k : ℕ) (q : ℕ × ℕ) : Type 0 where
  pub vertex : ℕ
  pub first : is_end g vertex e ≡ true
  pub second : is_end g vertex f ≡ true
  pub there : q ≡ times k (point_at points vertex)

-- different vertices have different points
abbrev pub AreApart : Multigraph → List (ℕ × ℕ) → Type 0
AreApart g points = (u v : ℕ) → u < g.vertex_count → v < g.vertex_count → point_at points u ≡ point_at points v → u ≡ v

-- the segments of e and f have no point in common but that of a common end
abbrev pub MeetAtEnds : Multigraph → List (ℕ × ℕ) → ℕ → ℕ → Type 0
MeetAtEnds g points e f = (s t u w : ℕ) → 0 < s + t → s + t ≡ u + w → along g points e s t ≡ along g points f u w → IsCommonEnd g points e f (s + t) (along g points e s t)

-- the segment of e does not go through the point of v
abbrev pub PassesBy : Multigraph → List (ℕ × ℕ) → ℕ → ℕ → Type 0
PassesBy g points e v = (s t : ℕ) → 0 < s + t → along g points e s t ≢ times (s + t) (point_at points v)

-- the other ends of the edges around v, in their order
abbrev pub points_around : Multigraph → List (List ℕ) → List (ℕ × ℕ) → ℕ → List (ℕ × ℕ)
points_around g r points v = map (λ e. point_at points (other_end g e v)) (order_at r v)

-- the points are a straight-line drawing of the graph with the rotation system: different vertices have different points, edges
-- meet in common ends only, no edge goes through a third vertex, and the edges around each vertex are met counterclockwise
pub record IsDrawing (g : Multigraph) (r : List (List ℕ)) (points : List (ℕ × ℕ)) : Type 0 where
  pub each : length points ≡ g.vertex_count
  pub apart : AreApart g points
  pub meet : (e f : ℕ) → e < edge_count g → f < edge_count g → e ≢ f → MeetAtEnds g points e f
  pub pass : (e v : ℕ) → e < edge_count g → v < g.vertex_count → is_end g v e ≡ false → PassesBy g points e v
  pub around : (v : ℕ) → v < g.vertex_count → IsCounterclockwise (point_at points v) (points_around g r points v)
