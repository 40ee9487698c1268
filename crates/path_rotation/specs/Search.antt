-- The way from an attachment back to the first dart of a bridge.
use Rattle.std.specs.Prelude.{◌≡◌, ℕ, ◌<◌, ◌≤◌, ◌/◌, ◌⊎◌, Bool, true, false, List, ◌∷◌, reverse, slice_index}
use Rattle.permutations.specs.Members.{is_member}
use Rattle.multigraph.specs.Graph.{Multigraph, edge_count, is_end, other_end}
use Rattle.multigraph.specs.Marks.{is_marked}
use Rattle.graph_theory.specs.Path.{walk_vertices, IsPath}
use Rattle.path_rotation.specs.Forced.{LeadsOff}

-- the edge leads from one vertex to another one, which is off and has a smaller depth
pub record LeadsNearer (g : Multigraph) (on : List Bool) (depth : List ℕ) (at edge to : ℕ) : Type 0 where
  pub is_edge : edge < edge_count g
  pub from : is_end g at edge ≡ true
  pub other : other_end g edge at ≡ to
  pub within : to < g.vertex_count
  pub off : is_marked on to ≡ false
  pub nearer : slice_index depth to < slice_index depth at

-- the way from z back so far, to this vertex: reversed it is a path to z whose vertices but z are off, each with the least depth of
-- those from it on
pub record IsWayBack (g : Multigraph) (on : List Bool) (depth : List ℕ) (z at : ℕ) (path : List ℕ) : Type 0 where
  pub vertex : at < g.vertex_count
  pub way : IsPath g at (reverse path) z
  pub off : (v : ℕ) → is_member v (walk_vertices g at (reverse path)) ≡ true → (v ≡ z) ⊎ (is_marked on v ≡ false)
  pub deep : (v : ℕ) → is_member v (walk_vertices g at (reverse path)) ≡ true → slice_index depth at ≤ slice_index depth v

-- these edges are a path that begins with the dart t and leads off what is drawn to z
pub record IsWayFound (g : Multigraph) (on : List Bool) (t : ℕ) (path : List ℕ) (z : ℕ) : Type 0 where
  pub along : List ℕ
  pub whole : path ≡ (t / 2) ∷ along
  pub leads : LeadsOff g on t along z
