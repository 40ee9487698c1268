-- Contours: the outer face of the vertices that stay while a triangulation loses one vertex after the other.
-- The face of the dart `base`, from v1 to v2, is the outer one. The contour is the list of the darts from each vertex on it to the
-- left neighbour there, from left to right; it begins with `base`, the dart of v1, and its last dart leaves v2.
use Rattle.std.specs.Prelude.{◌≡◌, ℕ, ◌*◌, ◌<◌, Bool, true, false, ◌&&◌, List, [], ◌∷◌, ◌++◌, map, filter, All}
use Rattle.permutations.specs.Members.{is_member, is_distinct}
use Rattle.permutations.specs.Cyclic.{last_or}
use Rattle.permutations.specs.Exchange.{restricted}
use Rattle.permutations.specs.Ring.{ring}
use Rattle.dart_maps.specs.Map.{twin, face}
use Rattle.multigraph.specs.Graph.{Multigraph}
use Rattle.faces.specs.Euler.{tail}

-- both ends of dart d stay
abbrev pub stays_dart : Multigraph → (ℕ → Bool) → ℕ → Bool
stays_dart h stays d = stays (tail h d) && stays (tail h (twin d))

-- each member and the next one are related
abbrev pub Successive : (ℕ → ℕ → Type 0) → List ℕ → Type 0
Successive R [] = Unit {0}
Successive R (a ∷ []) = Unit {0}
Successive R (a ∷ b ∷ l) = R a b × Successive R (b ∷ l)

-- the darts that stay, around the vertex of d, from d on
abbrev pub darts_around : ℕ → Multigraph → (ℕ → ℕ) → (ℕ → Bool) → ℕ → List ℕ
darts_around m h next stays d = filter (stays_dart h stays) (ring (2 * m) next d)

-- the list is the contour of the vertices that stay: around each vertex on it, the dart to the left neighbour follows the one to the
-- right neighbour, all other darts that stay lie on triangles of vertices that stay, and a vertex that is not on it has all its neighbours
pub record IsContour (m : ℕ) (h : Multigraph) (next : ℕ → ℕ) (base : ℕ) (stays : ℕ → Bool) (contour : List ℕ) : Type 0 where
  pub rest : List ℕ
  pub begins : contour ≡ base ∷ rest
  pub closes : tail h (last_or base contour) ≡ tail h (twin base)
  pub darts : All (λ d. (d < 2 * m) × (stays_dart h stays d ≡ true)) contour
  pub once : is_distinct (map (tail h) contour) ≡ true
  pub along : Successive (λ x y. restricted (2 * m) (stays_dart h stays) next (twin y) ≡ x) contour
  pub around : restricted (2 * m) (stays_dart h stays) next (twin base) ≡ last_or base contour
  pub faces : (d : ℕ) → d < 2 * m → stays_dart h stays d ≡ true → is_member d contour ≡ false → stays_dart h stays (face next d) ≡ true
  pub inner : (d : ℕ) → d < 2 * m → stays (tail h d) ≡ true → is_member (tail h d) (map (tail h) contour) ≡ false → stays_dart h stays d ≡ true

-- vertex w, which is on the contour and not at its ends, is removed: its darts to vertices that stay, the arms, lead from its left
-- neighbour, where x leads, to its right neighbour, from which y leads to it; their heads, in this order, take its place
pub record IsRemoval (h : Multigraph) (next : ℕ → ℕ) (contour after : List ℕ) (w : ℕ) (heads : List ℕ) : Type 0 where
  pub first : ℕ
  pub front : List ℕ
  pub x : ℕ
  pub y : ℕ
  pub back : List ℕ
  pub arms : List ℕ
  pub cut : contour ≡ (first ∷ front) ++ x ∷ y ∷ back
  pub leaves : tail h x ≡ w
  pub in_turn : Successive (λ c d. next c ≡ d) (x ∷ arms)
  pub ends : last_or x arms ≡ twin y
  pub lead : heads ≡ map (λ d. tail h (twin d)) (x ∷ arms)
  pub makes : after ≡ ((first ∷ front) ++ map (face next) arms) ++ back
