-- Some edges of a graph, the drawn ones, told by a test, and a map of their darts.
use Rattle.std.specs.Prelude.{◌≡◌, ◌≢◌, ℕ, ◌/◌, ◌<◌, ◌⊎◌, Bool, true, false, ◌&&◌, ◌==◌, List, [], ◌∷◌}
use Rattle.permutations.specs.Count.{some}
use Rattle.permutations.specs.Members.{is_member}
use Rattle.multigraph.specs.Graph.{Multigraph, edge_count, is_end, other_end}
use Rattle.graph_theory.specs.Path.{walk_vertices, IsPath}
use Rattle.graph_theory.specs.Joined.{joined_where, avoiding}
use Rattle.dart_maps.specs.Map.{twin, IsMap, IsPlane, same_vertex, same_face}
use Rattle.faces.specs.Euler.{tail, dart_from, dart_count}

-- the darts that pass the test `live` are in order around the vertices by `next`, and each other dart is alone
pub record IsMapOn (g : Multigraph) (live : ℕ → Bool) (next previous : ℕ → ℕ) : Type 0 where
  pub permutes : IsMap (edge_count g) next previous
  pub alone : (d : ℕ) → d < dart_count g → live d ≡ false → next d ≡ d
  pub tails : (d : ℕ) → d < dart_count g → tail g (next d) ≡ tail g d
  pub vertices : (c d : ℕ) → c < dart_count g → d < dart_count g → live c ≡ true → live d ≡ true → tail g c ≡ tail g d → same_vertex (edge_count g) next c d ≡ true

-- the darts of the drawn edges, and no others
abbrev pub IsMapOfDrawn : Multigraph → (ℕ → Bool) → (ℕ → ℕ) → (ℕ → ℕ) → Type 0
IsMapOfDrawn g drawn = IsMapOn g (λ d. drawn (d / 2))

-- whether a vertex has a drawn edge
abbrev pub is_on : Multigraph → (ℕ → Bool) → ℕ → Bool
is_on g drawn v = some (edge_count g) (λ e. drawn e && is_end g v e)

-- the drawn edges are connected, and no vertex cuts them: they join any two of their vertices without passing a third. (With a
-- number that is no vertex as the third one: they join any two)
abbrev pub IsUncut : Multigraph → (ℕ → Bool) → Type 0
IsUncut g drawn = (u v w : ℕ) → is_on g drawn v ≡ true → is_on g drawn w ≡ true → v ≢ u → w ≢ u → joined_where g (avoiding g u drawn) v w ≡ true

-- a drawing: a plane map of the drawn edges, which no vertex cuts
pub record IsDrawing (g : Multigraph) (drawn : ℕ → Bool) (next previous : ℕ → ℕ) : Type 0 where
  pub map : IsMapOfDrawn g drawn next previous
  pub plane : IsPlane (edge_count g) next
  pub uncut : IsUncut g drawn

-- a path of undrawn edges from x to z, which have drawn edges, as no vertex between them has
pub record IsPathOff (g : Multigraph) (drawn : ℕ → Bool) (x : ℕ) (es : List ℕ) (z : ℕ) : Type 0 where
  pub path : IsPath g x es z
  pub starts : is_on g drawn x ≡ true
  pub arrives : is_on g drawn z ≡ true
  pub inner : (v : ℕ) → is_member v (walk_vertices g x es) ≡ true → is_on g drawn v ≡ true → (v ≡ x) ⊎ (v ≡ z)
  pub undrawn : (e : ℕ) → is_member e es ≡ true → drawn e ≡ false

-- the darts by which these edges are walked along from x on
abbrev pub darts_along : Multigraph → ℕ → List ℕ → List ℕ
darts_along g x [] = []
darts_along g x (e ∷ es) = dart_from g x e ∷ darts_along g (other_end g e x) es

-- a drawn dart of vertex v
abbrev pub IsDrawnAt : Multigraph → (ℕ → Bool) → ℕ → ℕ → Type 0
IsDrawnAt g drawn v k = (k < dart_count g) × (drawn (k / 2) ≡ true) × (tail g k ≡ v)

-- whether k is a drawn dart at vertex v whose corner, between k and the dart that follows it, is on the face of f
abbrev pub is_corner : Multigraph → (ℕ → Bool) → (ℕ → ℕ) → ℕ → ℕ → ℕ → Bool
is_corner g drawn next f v k = drawn (k / 2) && (tail g k == v && same_face (edge_count g) next f (twin k))

-- whether the face of f passes vertex v
abbrev pub passes : Multigraph → (ℕ → Bool) → (ℕ → ℕ) → ℕ → ℕ → Bool
passes g drawn next f v = some (dart_count g) (is_corner g drawn next f v)
