-- Paths along some of the edges of a graph.
use Rattle.std.specs.Prelude.{◌≡◌, ℕ, true, List}
use Rattle.permutations.specs.Members.{is_member}
use Rattle.multigraph.specs.Graph.{Multigraph}
use Rattle.graph_theory.specs.Path.{IsPath}

-- a path of g from one vertex to another along some of these edges
pub record PathAlong (g : Multigraph) (edges : List ℕ) (x y : ℕ) : Type 0 where
  pub along : List ℕ
  pub path : IsPath g x along y
  pub among : (e : ℕ) → is_member e along ≡ true → is_member e edges ≡ true
