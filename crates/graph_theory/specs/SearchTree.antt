-- Depth-first search trees and low points (Tarjan 1972; Hopcroft and Tarjan 1973), as facts about what a search has found.
use Rattle.std.specs.Prelude.{◌≡◌, ◌≢◌, ℕ, ◌+◌, ◌<◌, ◌≤◌, ◌⊎◌, true}
use Rattle.permutations.specs.Permutation.{iterate}
use Rattle.multigraph.specs.Graph.{Multigraph, edge_count, is_end, other_end}

-- z is v or a descendant of v: some number of steps to the parent, no more than its depth, lead from z to v
pub record IsBelow (parent depth : ℕ → ℕ) (v z : ℕ) : Type 0 where
  pub steps : ℕ
  pub within : steps ≤ depth z
  pub leads : iterate parent steps z ≡ v

-- a forest of the vertices in which each edge joins a vertex, its lower end, to a proper ancestor. A root has depth 0;
-- every other vertex has a parent and an edge to it, of which it is the lower end
pub record IsSearchForest (g : Multigraph) (parent depth parent_edge lower : ℕ → ℕ) : Type 0 where
  pub parent_in : (v : ℕ) → v < g.vertex_count → 0 < depth v → parent v < g.vertex_count
  pub parent_depth : (v : ℕ) → v < g.vertex_count → 0 < depth v → depth (parent v) + 1 ≡ depth v
  pub parent_edge_in : (v : ℕ) → v < g.vertex_count → 0 < depth v → parent_edge v < edge_count g
  pub parent_edge_end : (v : ℕ) → v < g.vertex_count → 0 < depth v → is_end g v (parent_edge v) ≡ true
  pub parent_edge_leads : (v : ℕ) → v < g.vertex_count → 0 < depth v → other_end g (parent_edge v) v ≡ parent v
  pub parent_edge_lower : (v : ℕ) → v < g.vertex_count → 0 < depth v → lower (parent_edge v) ≡ v
  pub lower_end : (e : ℕ) → e < edge_count g → is_end g (lower e) e ≡ true
  pub upper_above : (e : ℕ) → e < edge_count g → (i : ℕ) × (i < depth (lower e)) × (iterate parent (i + 1) (lower e) ≡ other_end g e (lower e))

-- an edge other than parent edges that leads from v or a descendant of v to the depth d
pub record LeadsTo (g : Multigraph) (parent depth parent_edge lower : ℕ → ℕ) (v d : ℕ) : Type 0 where
  pub edge : ℕ
  pub edge_in : edge < edge_count g
  pub frond : parent_edge (lower edge) ≢ edge
  pub below : IsBelow parent depth v (lower edge)
  pub reached : depth (other_end g edge (lower edge)) ≡ d

-- the low point of each vertex: the least depth among its own and those to which edges lead from it and its descendants
pub record AreLowPoints (g : Multigraph) (parent depth parent_edge lower low : ℕ → ℕ) : Type 0 where
  pub at_frond : (e : ℕ) → e < edge_count g → parent_edge (lower e) ≢ e → low (lower e) ≤ depth (other_end g e (lower e))
  pub at_parent : (v : ℕ) → v < g.vertex_count → 0 < depth v → low (parent v) ≤ low v
  pub witness : (v : ℕ) → v < g.vertex_count → (low v ≡ depth v) ⊎ LeadsTo g parent depth parent_edge lower v (low v)

-- the label of a vertex with a parent: its own number where nothing leads from it or below it past its parent, else the
-- label of its parent
pub record AreLabels (g : Multigraph) (parent depth low label : ℕ → ℕ) : Type 0 where
  pub own : (v : ℕ) → v < g.vertex_count → 0 < depth v → depth (parent v) ≤ low v → label v ≡ v
  pub same : (v : ℕ) → v < g.vertex_count → 0 < depth v → low v < depth (parent v) → label v ≡ label (parent v)
