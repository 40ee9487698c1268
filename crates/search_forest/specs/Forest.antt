-- State of a loop: a depth-first forest that grows, as lists, and what holds of it between two turns of the search (Tarjan 1972).
use Rattle.std.specs.Prelude.{◌≡◌, ℕ, zero, suc, ◌+◌, ◌-◌, ◌<◌, ◌≤◌, ◌⊎◌, Bool, true, false, List, [], ◌∷◌, ◌++◌, length, take, replicate, slice_index, slice_set, ◌==◌, nat_lt, if◌then◌else◌, Option, None, Some}
use Rattle.permutations.specs.Members.{is_member, is_distinct}
use Rattle.permutations.specs.Permutation.{iterate}
use Rattle.multigraph.specs.Graph.{Multigraph, edge_count, is_end, other_end, incident_edges}
use Rattle.multigraph.specs.Marks.{is_marked}

-- for each vertex: whether it was visited, its parent, its depth, the edge to its parent, and how many of its
-- edges were looked at; for each edge: whether it was seen, and its lower end; the visited vertices in order,
-- and the path from the root to the current vertex
pub record ForestState : Type 0 where
  pub visited : List Bool
  pub parent : List ℕ
  pub depth : List ℕ
  pub parent_edge : List ℕ
  pub position : List ℕ
  pub seen : List Bool
  pub lower : List ℕ
  pub order : List ℕ
  pub path : List ℕ

-- the state where nothing was visited
abbrev pub fresh : Multigraph → ForestState
fresh g = record {
  visited = replicate g.vertex_count false;
  parent = replicate g.vertex_count 0;
  depth = replicate g.vertex_count 0;
  parent_edge = replicate g.vertex_count 0;
  position = replicate g.vertex_count 0;
  seen = replicate (edge_count g) false;
  lower = replicate (edge_count g) 0;
  order = [];
  path = [];
}

-- one more of the edges at v was looked at
abbrev pub looked_further : ForestState → ℕ → ForestState
looked_further s v = record s { position = slice_set s.position v (slice_index s.position v + 1) }

-- edge e was seen at v, and leads to an ancestor
abbrev pub frond_noted : ForestState → ℕ → ℕ → ForestState
frond_noted s v e = record s {
  seen = slice_set s.seen e true;
  lower = slice_set s.lower e v;
}

-- r was visited as a root
abbrev pub root_noted : ForestState → ℕ → ForestState
root_noted s r = record s {
  visited = slice_set s.visited r true;
  depth = slice_set s.depth r 0;
  order = s.order ++ r ∷ [];
  path = s.path ++ r ∷ [];
}

-- edge e was seen at v, and w at its other end was visited
abbrev pub child_noted : ForestState → ℕ → ℕ → ℕ → ForestState
child_noted s v e w = record s {
  visited = slice_set s.visited w true;
  parent = slice_set s.parent w v;
  depth = slice_set s.depth w (slice_index s.depth v + 1);
  parent_edge = slice_set s.parent_edge w e;
  seen = slice_set s.seen e true;
  lower = slice_set s.lower e w;
  order = s.order ++ w ∷ [];
  path = s.path ++ w ∷ [];
}

-- the last vertex of the path was left
abbrev pub left : ForestState → ForestState
left s = record s {
  path = take (length s.path - 1) s.path;
}

-- how many edges are at a vertex
abbrev pub degree : Multigraph → ℕ → ℕ
degree g v = length (incident_edges g v)

-- the lists have a place for each vertex or edge
pub record HasPlaces (g : Multigraph) (s : ForestState) : Type 0 where
  pub visited : length s.visited ≡ g.vertex_count
  pub parent : length s.parent ≡ g.vertex_count
  pub depth : length s.depth ≡ g.vertex_count
  pub parent_edge : length s.parent_edge ≡ g.vertex_count
  pub position : length s.position ≡ g.vertex_count
  pub seen : length s.seen ≡ edge_count g
  pub lower : length s.lower ≡ edge_count g

-- the path leads from a root down, from parent to child
pub record IsOnPath (g : Multigraph) (visited : List Bool) (parent depth path : List ℕ) : Type 0 where
  pub within : (j : ℕ) → j < length path → slice_index path j < g.vertex_count
  pub visits : (j : ℕ) → j < length path → is_marked visited (slice_index path j) ≡ true
  pub deep : (j : ℕ) → j < length path → slice_index depth (slice_index path j) ≡ j
  pub from_parent : (j : ℕ) → j + 1 < length path → slice_index parent (slice_index path (j + 1)) ≡ slice_index path j

-- each visited vertex but the roots has a visited parent, one higher, and a seen edge to it, of which it is the lower end
pub record IsGrown (g : Multigraph) (visited : List Bool) (parent depth parent_edge : List ℕ) (seen : List Bool) (lower : List ℕ) : Type 0 where
  pub parent_in : (v : ℕ) → is_marked visited v ≡ true → 0 < slice_index depth v → slice_index parent v < g.vertex_count
  pub parent_visited : (v : ℕ) → is_marked visited v ≡ true → 0 < slice_index depth v → is_marked visited (slice_index parent v) ≡ true
  pub parent_depth : (v : ℕ) → is_marked visited v ≡ true → 0 < slice_index depth v → slice_index depth (slice_index parent v) + 1 ≡ slice_index depth v
  pub edge_in : (v : ℕ) → is_marked visited v ≡ true → 0 < slice_index depth v → slice_index parent_edge v < edge_count g
  pub edge_end : (v : ℕ) → is_marked visited v ≡ true → 0 < slice_index depth v → is_end g v (slice_index parent_edge v) ≡ true
  pub edge_leads : (v : ℕ) → is_marked visited v ≡ true → 0 < slice_index depth v → other_end g (slice_index parent_edge v) v ≡ slice_index parent v
  pub edge_seen : (v : ℕ) → is_marked visited v ≡ true → 0 < slice_index depth v → is_marked seen (slice_index parent_edge v) ≡ true
  pub edge_lower : (v : ℕ) → is_marked visited v ≡ true → 0 < slice_index depth v → slice_index lower (slice_index parent_edge v) ≡ v

-- the vertex is on the path
pub record OnPath (path : List ℕ) (v : ℕ) : Type 0 where
  pub place : ℕ
  pub within : place < length path
  pub is : slice_index path place ≡ v

-- the edges that were looked at were seen, and every visited vertex off the path was looked at whole
pub record IsLooked (g : Multigraph) (visited : List Bool) (position : List ℕ) (seen : List Bool) (path : List ℕ) : Type 0 where
  pub within : (v : ℕ) → v < g.vertex_count → slice_index position v ≤ degree g v
  pub looked : (v : ℕ) → v < g.vertex_count → (k : ℕ) → k < slice_index position v → is_marked seen (slice_index (incident_edges g v) k) ≡ true
  pub finished : (v : ℕ) → is_marked visited v ≡ true → (slice_index position v ≡ degree g v) ⊎ OnPath path v

-- the lower end of a seen edge is one of its ends and was visited, and the other end is a proper ancestor of it
pub record IsSeen (g : Multigraph) (visited : List Bool) (parent depth : List ℕ) (seen : List Bool) (lower : List ℕ) : Type 0 where
  pub lower_end : (e : ℕ) → is_marked seen e ≡ true → is_end g (slice_index lower e) e ≡ true
  pub lower_visited : (e : ℕ) → is_marked seen e ≡ true → is_marked visited (slice_index lower e) ≡ true
  pub upper_above : (e : ℕ) → is_marked seen e ≡ true → (i : ℕ) × (i < slice_index depth (slice_index lower e)) × (iterate (slice_index parent) (i + 1) (slice_index lower e) ≡ other_end g e (slice_index lower e))

-- the visited vertices in order: each once, each but the roots after its parent
pub record IsOrdered (visited : List Bool) (parent depth order : List ℕ) : Type 0 where
  pub distinct : is_distinct order ≡ true
  pub members : (v : ℕ) → is_member v order ≡ is_marked visited v
  pub behind_parent : (k : ℕ) → k < length order → 0 < slice_index depth (slice_index order k) → is_member (slice_index parent (slice_index order k)) (take k order) ≡ true

-- all that holds of the forest between two turns
pub record IsForest (g : Multigraph) (s : ForestState) : Type 0 where
  pub places : HasPlaces g s
  pub on_path : IsOnPath g s.visited s.parent s.depth s.path
  pub grown : IsGrown g s.visited s.parent s.depth s.parent_edge s.seen s.lower
  pub looked : IsLooked g s.visited s.position s.seen s.path
  pub edges : IsSeen g s.visited s.parent s.depth s.seen s.lower
  pub ordered : IsOrdered s.visited s.parent s.depth s.order

-- how many edges at the first n vertices are still to be looked at
abbrev pub looks_left : Multigraph → List ℕ → ℕ → ℕ
looks_left g position zero = 0
looks_left g position (suc n) = looks_left g position n + (degree g n - slice_index position n)

-- whether e is the parent edge of its lower end
abbrev pub is_tree_edge : ForestState → ℕ → Bool
is_tree_edge s e = slice_index s.parent_edge (slice_index s.lower e) == e

-- the end of e that is not its lower one
abbrev pub upper_end : Multigraph → ForestState → ℕ → ℕ
upper_end g s e = other_end g e (slice_index s.lower e)

-- the parent of v, where v isn't a root
abbrev pub parent_at : ForestState → ℕ → Option ℕ
parent_at s v = (if nat_lt 0 (slice_index s.depth v) then Some (slice_index s.parent v) else None)
