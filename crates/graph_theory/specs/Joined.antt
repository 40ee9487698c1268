-- Connection by those edges of a multigraph that pass a test.
use Rattle.std.specs.Prelude.{◌≡◌, ℕ, Bool, true, not, ◌&&◌, List, map, filter}
use Rattle.permutations.specs.Members.{is_member}
use Rattle.permutations.specs.Relation.{connected}
use Rattle.multigraph.specs.Graph.{Multigraph, edge_count, ends_of, is_end, numbers_below}
use Rattle.graph_theory.specs.Path.{IsPath}

-- the ends of the edges that pass the test
abbrev pub ends_where : Multigraph → (ℕ → Bool) → List (ℕ × ℕ)
ends_where g t = map (ends_of g) (filter t (numbers_below (edge_count g)))

-- whether edges that pass the test connect the two vertices
abbrev pub joined_where : Multigraph → (ℕ → Bool) → ℕ → ℕ → Bool
joined_where g t = connected (ends_where g t)

-- whether an edge passes the test and has not the end u
abbrev pub avoiding : Multigraph → ℕ → (ℕ → Bool) → ℕ → Bool
avoiding g u t e = t e && not (is_end g u e)

-- a path from x to y along edges that pass the test
pub record PathWhere (g : Multigraph) (t : ℕ → Bool) (x y : ℕ) : Type 0 where
  pub along : List ℕ
  pub path : IsPath g x along y
  pub passes : (e : ℕ) → is_member e along ≡ true → t e ≡ true
