-- Skeletons: graphs given by the two ends of each edge, their vertices being the ends; and their kinds (Tutte 1966).
use Rattle.std.specs.Prelude.{◌≡◌, ◌≢◌, ℕ, ◌≤◌, Bool, true, false, ◌||◌, ◌==◌, List, [], ◌∷◌, length, filter, All}
use Rattle.permutations.specs.Relation.{connected}
pub use Rattle.graph_theory.specs.Triconnected.{SameEnds}
use Rattle.graph_theory.specs.Triconnected.{AreConnectedWithout, HasAtLeast, AreTriconnected}
use Rattle.pair_split.specs.declared.components.Kind.{Kind}
use Rattle.pair_split.specs.declared.components.Kind.TheVariants.{S, P, R, B}

-- whether v is one of the two ends
abbrev pub is_end_of : ℕ → ℕ × ℕ → Bool
is_end_of v ends = (ends.0 == v) || (ends.1 == v)

-- whether v is a vertex of the skeleton: an end of one of its edges
abbrev pub is_vertex : List (ℕ × ℕ) → ℕ → Bool
is_vertex [] v = false
is_vertex (ends ∷ skeleton) v = is_end_of v ends || is_vertex skeleton v

-- how many edges have the end v
abbrev pub degree : List (ℕ × ℕ) → ℕ → ℕ
degree skeleton v = length (filter (is_end_of v) skeleton)

-- v is a vertex of the skeleton
abbrev pub IsVertexIn : List (ℕ × ℕ) → ℕ → Type 0
IsVertexIn skeleton v = is_vertex skeleton v ≡ true

-- the skeleton has at least n vertices
abbrev pub HasVertices : ℕ → List (ℕ × ℕ) → Type 0
HasVertices n skeleton = HasAtLeast n (IsVertexIn skeleton)

-- when the vertices are removed, the others stay connected, by edges that have none of these as an end
abbrev pub StaysConnectedWithout : List (ℕ × ℕ) → List ℕ → Type 0
StaysConnectedWithout skeleton removed = AreConnectedWithout (IsVertexIn skeleton) skeleton removed

-- a polygon: connected, with at least three vertices and two edges at each
pub record IsPolygon (skeleton : List (ℕ × ℕ)) : Type 0 where
  pub connects : (u v : ℕ) → is_vertex skeleton u ≡ true → is_vertex skeleton v ≡ true → connected skeleton u v ≡ true
  pub degrees : (v : ℕ) → is_vertex skeleton v ≡ true → degree skeleton v ≡ 2
  pub three : HasVertices 3 skeleton

-- all edges join the same two vertices
pub record HasPoles (skeleton : List (ℕ × ℕ)) : Type 0 where
  pub poles : ℕ × ℕ
  pub differ : poles.0 ≢ poles.1
  pub joined : All (SameEnds poles) skeleton

-- a bond: two vertices, joined by at least three edges
pub record IsBond (skeleton : List (ℕ × ℕ)) : Type 0 where
  pub two : HasPoles skeleton
  pub three : 3 ≤ length skeleton

-- triconnected: its vertices and the ends of its edges are
abbrev pub IsRigid : List (ℕ × ℕ) → Type 0
IsRigid skeleton = AreTriconnected (IsVertexIn skeleton) skeleton

-- one or two edges that join the same two vertices
pub record IsSmall (skeleton : List (ℕ × ℕ)) : Type 0 where
  pub two : HasPoles skeleton
  pub some : 1 ≤ length skeleton
  pub few : length skeleton ≤ 2

-- what is asked of a skeleton of each kind
abbrev pub IsOfKind : Kind → List (ℕ × ℕ) → Type 0
IsOfKind S skeleton = IsPolygon skeleton
IsOfKind P skeleton = IsBond skeleton
IsOfKind R skeleton = IsRigid skeleton
IsOfKind B skeleton = IsSmall skeleton

-- a skeleton of this kind, without loops
pub record IsSkeleton (kind : Kind) (skeleton : List (ℕ × ℕ)) : Type 0 where
  pub of_kind : IsOfKind kind skeleton
  pub no_loops : All (λ ends. ends.0 ≢ ends.1) skeleton
