-- The two low vertices of each vertex: the least deep and the second least deep of itself and the vertices that its descendants'
-- fronds lead to (Hopcroft and Tarjan 1973), and what the passes that find them do.
use Rattle.std.specs.Prelude.{◌≡◌, ℕ, ◌<◌, ◌≤◌, ◌⊎◌, true, false, ◌&&◌, nat_lt, if◌then◌else◌, List, length, slice_index, slice_index_or, slice_set}
use Rattle.permutations.specs.Members.{is_member}
use Rattle.multigraph.specs.Graph.{Multigraph, edge_count}
use Rattle.graph_theory.specs.SearchTree.{IsBelow}
use Rattle.search_forest.specs.Forest.{ForestState, is_tree_edge, upper_end}

-- for each vertex two vertices, at its two low points
pub record LowVertices : Type 0 where
  pub first : List ℕ
  pub second : List ℕ

-- x is taken into account at v: vertices count by their depths
abbrev pub taken : List ℕ → LowVertices → ℕ → ℕ → LowVertices
taken depth low v x =
    (if nat_lt (slice_index depth x) (slice_index depth (slice_index low.first v))
    then record { first = slice_set low.first v x; second = slice_set low.second v (slice_index low.first v) }
    else (if nat_lt (slice_index depth (slice_index low.first v)) (slice_index depth x) && nat_lt (slice_index depth x) (slice_index depth (slice_index low.second v))
    then record { first = low.first; second = slice_set low.second v x }
    else low))

-- the list has f of each number below k
pub record Tells {A : Type 0} (d : A) (f : ℕ → A) (k : ℕ) (l : List A) : Type 0 where
  pub places : length l ≡ k
  pub at : (j : ℕ) → j < k → slice_index_or l j d ≡ f j

-- a frond whose lower end is v or a descendant of v leads to x
pub record LeadsFrom (g : Multigraph) (s : ForestState) (v x : ℕ) : Type 0 where
  pub edge : ℕ
  pub edge_in : edge < edge_count g
  pub frond : is_tree_edge s edge ≡ false
  pub below : IsBelow (slice_index s.parent) (slice_index s.depth) v (slice_index s.lower edge)
  pub upper : upper_end g s edge ≡ x

-- x was taken into account at v: the first low vertex is no deeper, and the second neither but where x is as deep as the first
pub record IsTaken (depth : List ℕ) (low : LowVertices) (v x : ℕ) : Type 0 where
  pub first : slice_index depth (slice_index low.first v) ≤ slice_index depth x
  pub second : (slice_index depth x ≡ slice_index depth (slice_index low.first v)) ⊎ (slice_index depth (slice_index low.second v) ≤ slice_index depth x)

-- the two low vertices are right for the fronds below k, and for what these vertices handed on to their parents
pub record AreLowSoFar (g : Multigraph) (s : ForestState) (low : LowVertices) (k : ℕ) (handed : List ℕ) : Type 0 where
  pub first_places : length low.first ≡ g.vertex_count
  pub second_places : length low.second ≡ g.vertex_count
  pub first_among : (v : ℕ) → v < g.vertex_count → (slice_index low.first v ≡ v) ⊎ LeadsFrom g s v (slice_index low.first v)
  pub second_among : (v : ℕ) → v < g.vertex_count → (slice_index low.second v ≡ v) ⊎ LeadsFrom g s v (slice_index low.second v)
  pub apart : (v : ℕ) → v < g.vertex_count → ((slice_index low.first v ≡ v) × (slice_index low.second v ≡ v)) ⊎ (slice_index s.depth (slice_index low.first v) < slice_index s.depth (slice_index low.second v))
  pub own : (v : ℕ) → v < g.vertex_count → slice_index s.depth (slice_index low.second v) ≤ slice_index s.depth v
  pub fronds : (e : ℕ) → e < k → e < edge_count g → is_tree_edge s e ≡ false → IsTaken s.depth low (slice_index s.lower e) (upper_end g s e)
  pub first_handed : (v : ℕ) → is_member v handed ≡ true → 0 < slice_index s.depth v → IsTaken s.depth low (slice_index s.parent v) (slice_index low.first v)
  pub second_handed : (v : ℕ) → is_member v handed ≡ true → 0 < slice_index s.depth v → IsTaken s.depth low (slice_index s.parent v) (slice_index low.second v)

-- the two low vertices of each vertex, when all was handed on
abbrev pub AreLowVertices : Multigraph → ForestState → LowVertices → Type 0
AreLowVertices g s low = AreLowSoFar g s low (edge_count g) s.order

-- v and x have places where x is to be taken into account at v
pub record CanTake (depth : List ℕ) (low : LowVertices) (v x : ℕ) : Type 0 where
  pub first_within : v < length low.first
  pub second_within : v < length low.second
  pub reached_within : x < length depth
  pub first_deep : slice_index low.first v < length depth
  pub second_deep : slice_index low.second v < length depth
