-- Subdivisions of K5 and K3,3 in a multigraph (Kuratowski 1930): branch vertices, and for each edge of the pattern a path
-- between the two branch vertices that it joins.
use Rattle.std.specs.Prelude.{◌≡◌, ℕ, suc, ◌<◌, true, List, [], ◌∷◌, ◌++◌, length, slice_index_or}
use Rattle.permutations.specs.Members.{is_distinct}
use Rattle.multigraph.specs.Graph.{Multigraph}
use Rattle.graph_theory.specs.Path.{walk_starts, IsPath}
use Rattle.kuratowski.specs.declared.subdivision.Pattern.{Pattern}
use Rattle.kuratowski.specs.declared.subdivision.Pattern.TheVariants.{K5, K33}

-- how many vertices the pattern has
abbrev pub branch_count : Pattern → ℕ
branch_count K5 = 5
branch_count K33 = 6

-- the edges of the pattern, as pairs of its vertices: K5 joins each two of five vertices, K3,3 each of the first three of six
-- with each of the last three
abbrev pub pattern_edges : Pattern → List (ℕ × ℕ)
pattern_edges K5 = (0, 1) ∷ (0, 2) ∷ (0, 3) ∷ (0, 4) ∷ (1, 2) ∷ (1, 3) ∷ (1, 4) ∷ (2, 3) ∷ (2, 4) ∷ (3, 4) ∷ []
pattern_edges K33 = (0, 3) ∷ (0, 4) ∷ (0, 5) ∷ (1, 3) ∷ (1, 4) ∷ (1, 5) ∷ (2, 3) ∷ (2, 4) ∷ (2, 5) ∷ []

-- branch vertex i
abbrev pub branch_at : List ℕ → ℕ → ℕ
branch_at branch i = slice_index_or branch i 0

-- path k, as a list of edges
abbrev pub path_at : List (List ℕ) → ℕ → List ℕ
path_at paths k = slice_index_or paths k []

-- the two vertices of the pattern that its edge k joins
abbrev pub pair_at : Pattern → ℕ → ℕ × ℕ
pair_at kind k = slice_index_or (pattern_edges kind) k (0, 0)

-- a list without its first member
abbrev pub rest : List ℕ → List ℕ
rest [] = []
rest (x ∷ xs) = xs

-- the vertices inside a walk along these edges from x: neither its first nor its last
abbrev pub inner_vertices : Multigraph → ℕ → List ℕ → List ℕ
inner_vertices g x es = rest (walk_starts g x es)

-- the vertices inside the paths, path by path: each goes along its edges from the branch vertex where its pair begins
abbrev pub all_inner : Multigraph → List ℕ → List (ℕ × ℕ) → List (List ℕ) → List ℕ
all_inner g branch [] paths = []
all_inner g branch (pair ∷ pairs) [] = []
all_inner g branch (pair ∷ pairs) (path ∷ paths) = inner_vertices g (branch_at branch pair.0) path ++ all_inner g branch pairs paths

-- a subdivision of the pattern in g: a path for each edge of the pattern, from the one branch vertex to the other; the branch
-- vertices and the vertices inside the paths are all different. So no path has a branch vertex inside, and two paths share
-- only a branch vertex that ends both
pub record IsSubdivision (g : Multigraph) (kind : Pattern) (branch : List ℕ) (paths : List (List ℕ)) : Type 0 where
  pub branches : length branch ≡ branch_count kind
  pub branch_in : (i : ℕ) → i < branch_count kind → branch_at branch i < g.vertex_count
  pub one_each : length paths ≡ length (pattern_edges kind)
  pub are_paths : (k : ℕ) → k < length (pattern_edges kind) → IsPath g (branch_at branch (pair_at kind k).0) (path_at paths k) (branch_at branch (pair_at kind k).1)
  pub apart : is_distinct (branch ++ all_inner g branch (pattern_edges kind) paths) ≡ true

-- the branch vertices in their written order: those of K5 increase; of K3,3 each side increases, and the first of all is less than
-- the first of the other side
abbrev pub IsWrittenOrder : Pattern → List ℕ → Type 0
IsWrittenOrder K5 branch = (i : ℕ) → i < 4 → branch_at branch i < branch_at branch (suc i)
IsWrittenOrder K33 branch =
    (branch_at branch 0 < branch_at branch 1) × (branch_at branch 1 < branch_at branch 2) × (branch_at branch 3 < branch_at branch 4) × (branch_at branch 4 < branch_at branch 5)
    × (branch_at branch 0 < branch_at branch 3)

-- a subdivision in its one written form
pub record IsWritten (g : Multigraph) (kind : Pattern) (branch : List ℕ) (paths : List (List ℕ)) : Type 0 where
  pub subdivision : IsSubdivision g kind branch paths
  pub order : IsWrittenOrder kind branch
