-- The tests of two edges, by their ends, and of an edge and a vertex.
use Rattle.std.specs.Prelude.{ℕ, Bool, not, ◌&&◌, ◌||◌, ◌==◌, cond}
use Rattle.multigraph.specs.Graph.{Multigraph, ends_of, is_end}
use Rattle.plane_points.specs.Segments.{are_apart, is_on, same_way}

-- the segments of two edges with the ends e and f, at the points that `at` gives, meet at most in a common end
abbrev pub is_clear : (ℕ → ℕ × ℕ) → ℕ × ℕ → ℕ × ℕ → Bool
is_clear at e f = cond (e.0 == f.0) (not (e.1 == f.1) && not (same_way (at e.0) (at e.1) (at f.1)))
    (cond (e.0 == f.1) (not (e.1 == f.0) && not (same_way (at e.0) (at e.1) (at f.0)))
    (cond (e.1 == f.0) (not (same_way (at e.1) (at e.0) (at f.1)))
    (cond (e.1 == f.1) (not (same_way (at e.1) (at e.0) (at f.0)))
    (are_apart (at e.0) (at e.1) (at f.0) (at f.1)))))

-- v is an end of edge e, or the segment of e does not go through its point
abbrev pub passes_by : Multigraph → (ℕ → ℕ × ℕ) → ℕ → ℕ → Bool
passes_by g at e v = is_end g v e || not (is_on (at (ends_of g e).0) (at (ends_of g e).1) (at v))
