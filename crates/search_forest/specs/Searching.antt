-- State of a loop: what a turn of a depth-first search changes, and what holds when the search is over.
use Rattle.std.specs.Prelude.{◌≡◌, ℕ, ◌+◌, ◌*◌, ◌<◌, ◌≤◌, true, [], length, slice_index}
use Rattle.multigraph.specs.Graph.{Multigraph}
use Rattle.multigraph.specs.Marks.{is_marked}
use Rattle.search_forest.specs.Forest.{ForestState, OnPath, IsForest, looks_left}

-- how many edges at vertices are still to be looked at
abbrev pub looks_ahead : Multigraph → ForestState → ℕ
looks_ahead g s = looks_left g s.position g.vertex_count

-- a bound on the turns to the end of the search
abbrev pub turns_left : Multigraph → ForestState → ℕ
turns_left g s = 2 * looks_ahead g s + length s.path

-- v is the last vertex of the path
pub record IsLast (s : ForestState) (v : ℕ) : Type 0 where
  pub place : ℕ
  pub last : length s.path ≡ place + 1
  pub is : slice_index s.path place ≡ v

-- what was visited stays so, and no further vertex is a root
pub record KeepsRoots (old new : ForestState) : Type 0 where
  pub visited : (u : ℕ) → is_marked old.visited u ≡ true → is_marked new.visited u ≡ true
  pub roots : (u : ℕ) → is_marked new.visited u ≡ true → slice_index new.depth u ≡ 0 → (is_marked old.visited u ≡ true) × (slice_index old.depth u ≡ 0)

-- after edge e was seen at v: v is on the path still, no more was looked at, and a vertex that was visited is the last of the
-- order and of the path
pub record IsSeenAt (g : Multigraph) (old new : ForestState) (v e : ℕ) : Type 0 where
  pub forest : IsForest g new
  pub keeps : KeepsRoots old new
  pub seen : is_marked new.seen e ≡ true
  pub position : new.position ≡ old.position
  pub on_path : OnPath new.path v
  pub longer : length new.path ≤ length old.path + 1
  pub entered : length new.path + length old.order ≡ length old.path + length new.order

-- after a turn: one edge more was looked at, or one vertex left
pub record IsTurned (g : Multigraph) (old new : ForestState) : Type 0 where
  pub forest : IsForest g new
  pub keeps : KeepsRoots old new
  pub nearer : turns_left g new < turns_left g old
  pub one : looks_ahead g new + length new.path + length old.order + 1 ≡ looks_ahead g old + length old.path + length new.order

-- after all turns: the path is empty
pub record IsExplored (g : Multigraph) (old new : ForestState) : Type 0 where
  pub forest : IsForest g new
  pub keeps : KeepsRoots old new
  pub empty : new.path ≡ []

-- the search is over: every vertex was visited, and the path is empty
pub record IsOver (g : Multigraph) (s : ForestState) : Type 0 where
  pub forest : IsForest g s
  pub empty : s.path ≡ []
  pub visited : (v : ℕ) → v < g.vertex_count → is_marked s.visited v ≡ true

-- vertex 0 alone is a root
abbrev pub IsOneTree : Multigraph → ForestState → Type 0
IsOneTree g s = (v : ℕ) → v < g.vertex_count → slice_index s.depth v ≡ 0 → v ≡ 0
