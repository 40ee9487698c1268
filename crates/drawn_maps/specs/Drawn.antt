-- Maps of darts that draw a graph in the plane, and the map with one edge more: to a new vertex, or between two corners.
use Rattle.std.specs.Prelude.{◌≡◌, ℕ, ◌+◌, ◌*◌, ◌<◌, nat_lt, cond, ◌==◌, [], ◌∷◌, ◌++◌}
use Rattle.permutations.specs.Permutation.{same_orbit}
use Rattle.permutations.specs.Exchange.{exchange}
use Rattle.dart_maps.specs.Map.{IsMap, IsPlane}
use Rattle.multigraph.specs.Graph.{Multigraph, edge_count}
use Rattle.faces.specs.Euler.{tail}

-- two numbers below n are in one orbit exactly where they have the same label
abbrev pub AreTold : ℕ → (ℕ → ℕ) → (ℕ → ℕ) → Type 0
AreTold n f label = (c d : ℕ) → c < n → d < n → same_orbit n f c d ≡ (label c == label d)

-- a map of m edges draws the graph: it is plane, and its vertices are those of the graph
pub record IsDrawn (m : ℕ) (g : Multigraph) (f b : ℕ → ℕ) : Type 0 where
  pub edges : edge_count g ≡ m
  pub map : IsMap m f b
  pub plane : IsPlane m f
  pub told : AreTold (2 * m) f (tail g)
  pub inside : (d : ℕ) → d < 2 * m → tail g d < g.vertex_count

-- the graph with n vertices and one edge more
abbrev pub with_edge : Multigraph → ℕ → ℕ × ℕ → Multigraph
with_edge g n link = record { vertex_count = n; ends = g.ends ++ link ∷ [] }

-- the map with one edge more, whose two darts are alone
abbrev pub extended : ℕ → (ℕ → ℕ) → ℕ → ℕ
extended m f d = cond (nat_lt d (2 * m)) (f d) d

-- the map with a new edge whose first dart follows p, and whose second is alone
abbrev pub hung : ℕ → ℕ → (ℕ → ℕ) → ℕ → ℕ
hung m p f = exchange p (2 * m) (extended m f)

-- and the map in which the second follows q
abbrev pub joined : ℕ → ℕ → ℕ → (ℕ → ℕ) → ℕ → ℕ
joined m p q f = exchange q (2 * m + 1) (hung m p f)
