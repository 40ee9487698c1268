-- Canonical orders (de Fraysseix, Pach and Pollack 1990), given backwards: the vertices in the order in which they are removed.
use Rattle.std.specs.Prelude.{◌≡◌, ℕ, suc, ◌+◌, ◌*◌, ◌<◌, ◌≤◌, Bool, true, false, not, ◌&&◌, ◌||◌, ◌==◌, nat_lt, List, [], ◌∷◌, ◌++◌, length, map, take, slice_index_or, All}
use Rattle.permutations.specs.Members.{is_member}
use Rattle.dart_maps.specs.Map.{twin, face}
use Rattle.multigraph.specs.Graph.{Multigraph}
use Rattle.faces.specs.Euler.{tail}
use Rattle.canonical_orders.specs.Contours.{stays_dart, darts_around, IsContour, IsRemoval}

-- a removed vertex, with its neighbours among those that stay, from left to right
abbrev pub Removed : Type 0
Removed = ℕ × List ℕ

-- after the first k removals, vertex v is still there
abbrev pub stays_after : Multigraph → List Removed → ℕ → ℕ → Bool
stays_after h order k v = nat_lt v h.vertex_count && not (is_member v (map (λ w. w.0) (take k order)))

-- the list removes all vertices but v1 and v2, one after the other. `contours` is the contour before the first removal, and that after each
pub record IsCanonicalOrder (m : ℕ) (h : Multigraph) (next : ℕ → ℕ) (base : ℕ) (order : List Removed) : Type 0 where
  pub contours : List (List ℕ)
  pub all : length order + 2 ≡ h.vertex_count
  pub each : length contours ≡ length order + 1
  pub contour : (k : ℕ) → k ≤ length order → IsContour m h next base (stays_after h order k) (slice_index_or contours k [])
  pub removal : (k : ℕ) → k < length order
      → IsRemoval h next (slice_index_or contours k []) (slice_index_or contours (suc k) []) (slice_index_or order k (0, [])).0 (slice_index_or order k (0, [])).1
  pub present : (k : ℕ) → k < length order → stays_after h order k (slice_index_or order k (0, [])).0 ≡ true
  pub begins : slice_index_or contours 0 [] ≡ base ∷ face next (face next base) ∷ face next base ∷ []
  pub ends : slice_index_or contours (length order) [] ≡ base ∷ twin base ∷ []

-- what stacking w back on a contour does to the darts that stay. `after` are the vertices that stay without w, `contour` is theirs. The arms of w
-- are all its darts that stay, from left to right. Around the head of each arm, from the contour's dart y there on, the arm's twin comes last;
-- before, the last one was the dart x to the right neighbour (to v1, at the last vertex of the contour)
pub record IsStacked (m : ℕ) (h : Multigraph) (next : ℕ → ℕ) (base : ℕ) (before after : ℕ → Bool) (contour : List ℕ) (w : ℕ) (heads : List ℕ) : Type 0 where
  pub arm : ℕ
  pub arms : List ℕ
  pub absent : after w ≡ false
  pub others : (v : ℕ) → before v ≡ (after v || (v == w))
  pub within : All (λ e. (e < 2 * m) × (tail h e ≡ w)) (arm ∷ arms)
  pub lead : heads ≡ map (λ e. tail h (twin e)) (arm ∷ arms)
  pub own : darts_around m h next before arm ≡ arm ∷ arms
  pub put : All (λ e. (y : ℕ) → is_member y contour ≡ true → tail h y ≡ tail h (twin e) → darts_around m h next before y ≡ darts_around m h next after y ++ twin e ∷ []) (arm ∷ arms)
  pub else_same : (d : ℕ) → d < 2 * m → stays_dart h after d ≡ true → is_member (tail h d) heads ≡ false → darts_around m h next before d ≡ darts_around m h next after d
