-- State of a loop: a search through a graph in the order of distance from a vertex, the root (breadth-first search; Moore
-- 1959), and the way from a vertex back to the root.
use Rattle.std.specs.Prelude.{◌≡◌, ℕ, ◌+◌, ◌<◌, ◌≤◌, true, List, length, slice_index_or}
use Rattle.permutations.specs.Members.{is_member, is_distinct}
use Rattle.multigraph.specs.Graph.{Multigraph, edge_count, is_end, other_end}
use Rattle.graph_theory.specs.Path.{walk_end, walk_starts, IsWalk}
use Rattle.graph_paths.specs.Listing.{note_of}

-- edge e leads from x to y
pub record LeadsFrom (g : Multigraph) (x y e : ℕ) : Type 0 where
  pub edge : e < edge_count g
  pub from : is_end g x e ≡ true
  pub to : other_end g e x ≡ y

-- edge e leads from y to one of the first q vertices of the list
pub record LeadsBack (g : Multigraph) (list : List ℕ) (q y e : ℕ) : Type 0 where
  pub edge : e < edge_count g
  pub from : is_end g y e ≡ true
  pub place : ℕ
  pub before : place < q
  pub to : slice_index_or list place 0 ≡ other_end g e y

-- the root is the first vertex of the list, each other one has an edge to one before it, which is noted for it, and the
-- neighbours of the first q vertices of the list are on it
pub record IsSearch (g : Multigraph) (root : ℕ) (notes list : List ℕ) (q : ℕ) : Type 0 where
  pub begun : 0 < length list
  pub root_first : slice_index_or list 0 0 ≡ root
  pub steps : (p : ℕ) → 0 < p → p < length list → LeadsBack g list p (slice_index_or list p 0) (note_of notes (slice_index_or list p 0))
  pub closed : (p e : ℕ) → p < q → p < length list → e < edge_count g → is_end g (slice_index_or list p 0) e ≡ true → is_member (other_end g e (slice_index_or list p 0)) list ≡ true

-- a search that is over
pub record IsSearched (g : Multigraph) (root : ℕ) (notes : List ℕ) : Type 0 where
  pub list : List ℕ
  pub search : IsSearch g root notes list (length list)
  pub notes_each : length notes ≡ g.vertex_count
  pub once : is_distinct list ≡ true
  pub within : (x : ℕ) → is_member x list ≡ true → x < g.vertex_count
  pub few : length list ≤ g.vertex_count

-- the way from a vertex towards the root so far: this number of steps along these edges leads to this vertex
pub record IsOnWay (g : Multigraph) (list : List ℕ) (from : ℕ) (along : List ℕ) (at steps : ℕ) : Type 0 where
  pub place : ℕ
  pub enough : place + steps < length list
  pub stands : slice_index_or list place 0 ≡ at
  pub walk : IsWalk g from along
  pub arrives : walk_end g from along ≡ at
  pub once : is_distinct (walk_starts g from along) ≡ true
  pub after : (z : ℕ) → is_member z (walk_starts g from along) ≡ true → (p : ℕ) × (p < length list) × (place < p) × (slice_index_or list p 0 ≡ z)
