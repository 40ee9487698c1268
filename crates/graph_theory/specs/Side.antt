-- The vertices that the two sides of a division of the edges have in common.
use Rattle.std.specs.Prelude.{◌≡◌, ℕ, ◌<◌, Bool, true, false}
use Rattle.multigraph.specs.Graph.{Multigraph, edge_count, is_end}

-- v has an edge on each side: on the side s, and on the other one
pub record IsCommon (g : Multigraph) (s : ℕ → Bool) (v : ℕ) : Type 0 where
  pub inside : ℕ
  pub outside : ℕ
  pub inside_edge : inside < edge_count g
  pub outside_edge : outside < edge_count g
  pub inside_end : is_end g v inside ≡ true
  pub outside_end : is_end g v outside ≡ true
  pub inside_side : s inside ≡ true
  pub outside_side : s outside ≡ false
