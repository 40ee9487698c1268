-- Walks, paths and cycles in a multigraph, as lists of edges from a vertex on.
use Rattle.std.specs.Prelude.{◌≡◌, ℕ, ◌<◌, ◌≤◌, true, false, List, [], ◌∷◌, ◌++◌, length}
use Rattle.permutations.specs.Members.{is_member, is_distinct}
use Rattle.multigraph.specs.Graph.{Multigraph, edge_count, is_end, other_end}

-- the vertex where these edges lead from x
abbrev pub walk_end : Multigraph → ℕ → List ℕ → ℕ
walk_end g x [] = x
walk_end g x (e ∷ es) = walk_end g (other_end g e x) es

-- the vertices at which each of these edges is entered, x first
abbrev pub walk_starts : Multigraph → ℕ → List ℕ → List ℕ
walk_starts g x [] = []
walk_starts g x (e ∷ es) = x ∷ walk_starts g (other_end g e x) es

-- all vertices that are visited along these edges, x first and the last one last
abbrev pub walk_vertices : Multigraph → ℕ → List ℕ → List ℕ
walk_vertices g x es = walk_starts g x es ++ walk_end g x es ∷ []

-- each is an edge, and has the vertex that was reached before it as an end
abbrev pub IsWalk : Multigraph → ℕ → List ℕ → Type 0
IsWalk g x [] = Unit {0}
IsWalk g x (e ∷ es) = ((e < edge_count g) × (is_end g x e ≡ true)) × IsWalk g (other_end g e x) es

-- a path from x to y: a walk that visits no vertex twice. With no edge it is the path from x to x
pub record IsPath (g : Multigraph) (x : ℕ) (es : List ℕ) (y : ℕ) : Type 0 where
  pub walk : IsWalk g x es
  pub arrives : walk_end g x es ≡ y
  pub vertices : is_distinct (walk_vertices g x es) ≡ true

-- a path from x to y that visits none of the removed vertices
pub record PathWithout (g : Multigraph) (removed : List ℕ) (x y : ℕ) : Type 0 where
  pub along : List ℕ
  pub path : IsPath g x along y
  pub avoids : (v : ℕ) → is_member v (walk_vertices g x along) ≡ true → is_member v removed ≡ false

-- a cycle from x: a walk of at least two different edges that returns to x and otherwise visits no vertex twice. Two parallel
-- edges are a cycle
pub record IsCycle (g : Multigraph) (x : ℕ) (es : List ℕ) : Type 0 where
  pub walk : IsWalk g x es
  pub returns : walk_end g x es ≡ x
  pub two : 2 ≤ length es
  pub edges : is_distinct es ≡ true
  pub vertices : is_distinct (walk_starts g x es) ≡ true
