-- Paths of a graph with an edge contracted, lifted to the graph itself.
use Rattle.std.specs.Prelude.{ℕ, Bool, false, not, ◌&&◌, ◌||◌, ◌==◌, if◌then◌else◌, List, [], ◌∷◌, map, filter, reverse, slice_index_or}
use Rattle.multigraph.specs.Graph.{Multigraph, is_end, other_end, numbers_below}
use Rattle.kuratowski.specs.declared.subdivision.Pattern.{Pattern}
use Rattle.kuratowski.specs.declared.subdivision.Pattern.TheVariants.{K5, K33}
use Rattle.kuratowski.specs.Subdivision.{branch_count, pattern_edges, branch_at, IsSubdivision}

-- whether one of these edges has z as an end
abbrev pub touches : Multigraph → ℕ → List ℕ → Bool
touches g z [] = false
touches g z (f ∷ fs) = is_end g z f || touches g z fs

-- from p to q along these edges; where the next edge is not at the vertex that is reached, or the end is not q, the edge e
-- comes between
abbrev pub lifted : Multigraph → ℕ → ℕ → List ℕ → ℕ → List ℕ
lifted g e p [] q = (if p == q then [] else e ∷ [])
lifted g e p (f ∷ fs) q =
    (if is_end g p f then f ∷ lifted g e (other_end g f p) fs q else e ∷ (f ∷ lifted g e (other_end g f (other_end g e p)) fs q))

-- whether these are the two numbers of the pair, in either order
abbrev pub is_pair : ℕ × ℕ → ℕ → ℕ → Bool
is_pair pair i j = (pair.0 == i && pair.1 == j) || (pair.0 == j && pair.1 == i)

-- whether two numbers are one of the pairs, in either order
abbrev pub is_listed : List (ℕ × ℕ) → ℕ → ℕ → Bool
is_listed [] i j = false
is_listed (pair ∷ pairs) i j = is_pair pair i j || is_listed pairs i j

-- the path from i to j, where there is one path for each of the pairs: it is reversed where the pair is (j, i)
abbrev pub path_of_pair : List (ℕ × ℕ) → List (List ℕ) → ℕ → ℕ → List ℕ
path_of_pair [] paths i j = []
path_of_pair (pair ∷ pairs) [] i j = []
path_of_pair (pair ∷ pairs) (path ∷ paths) i j =
    (if pair.0 == i && pair.1 == j then path else (if pair.0 == j && pair.1 == i then reverse path else path_of_pair pairs paths i j))

-- the vertices of the pattern that are joined with its vertex m
abbrev pub spokes : Pattern → ℕ → List ℕ
spokes kind m = filter (is_listed (pattern_edges kind) m) (numbers_below (branch_count kind))

-- whether the path from vertex m to vertex i of the pattern, in g, touches z
abbrev pub leaves_by : Multigraph → (ℕ → ℕ) → Pattern → List (List ℕ) → ℕ → ℕ → ℕ → Bool
leaves_by g edge kind paths z m i = touches g z (map edge (path_of_pair (pattern_edges kind) paths m i))

-- the vertices of the pattern to which the path from vertex m touches z, and those to which it does not
abbrev pub spokes_on : Multigraph → (ℕ → ℕ) → Pattern → List (List ℕ) → ℕ → ℕ → List ℕ
spokes_on g edge kind paths z m = filter (λ i. leaves_by g edge kind paths z m i) (spokes kind m)

abbrev pub spokes_off : Multigraph → (ℕ → ℕ) → Pattern → List (List ℕ) → ℕ → ℕ → List ℕ
spokes_off g edge kind paths z m = filter (λ i. not (leaves_by g edge kind paths z m i)) (spokes kind m)

-- the branch vertices of h as vertices of g: `foot` for the merged vertex `top`, and what `back` gives for the others
abbrev pub lifted_branch : ℕ → ℕ → (ℕ → ℕ) → List ℕ → List ℕ
lifted_branch top foot back branch = map (λ v. if v == top then foot else back v) branch

-- the paths lifted, each between the two vertices of g that its branch vertices become
abbrev pub lifted_paths : Multigraph → ℕ → (ℕ → ℕ) → Pattern → List (List ℕ) → List ℕ → List (List ℕ)
lifted_paths g e edge kind paths branch =
    map (λ p. lifted g e (branch_at branch p.0) (map edge (path_of_pair (pattern_edges kind) paths p.0 p.1)) (branch_at branch p.1)) (pattern_edges kind)

-- K3,3 for K5, where the paths from vertex m of K5 to p and q begin at x, and those to r and t at y: its branch vertices
abbrev pub split_branch : ℕ → ℕ → (ℕ → ℕ) → List ℕ → ℕ → ℕ → ℕ → ℕ → List ℕ
split_branch x y back branch p q r t = x ∷ back (branch_at branch r) ∷ back (branch_at branch t) ∷ y ∷ back (branch_at branch p) ∷ back (branch_at branch q) ∷ []

-- the vertex of K5 that vertex i of this K3,3 is over
abbrev pub split_over : ℕ → ℕ → ℕ → ℕ → ℕ → ℕ → ℕ
split_over m p q r t i = slice_index_or (m ∷ r ∷ t ∷ m ∷ p ∷ q ∷ []) i 0

-- and its paths: between x and y the edge e, all others lifted
abbrev pub split_paths : Multigraph → ℕ → (ℕ → ℕ) → List (List ℕ) → ℕ → ℕ → ℕ → ℕ → ℕ → List ℕ → List (List ℕ)
split_paths g e edge paths m p q r t branch =
    map (λ k. lifted g e (branch_at branch k.0) (map edge (path_of_pair (pattern_edges K5) paths (split_over m p q r t k.0) (split_over m p q r t k.1))) (branch_at branch k.1)) (pattern_edges K33)

-- a subdivision of K5 or K3,3 in g
pub record HasSubdivision (g : Multigraph) : Type 0 where
  pub kind : Pattern
  pub branch : List ℕ
  pub paths : List (List ℕ)
  pub is : IsSubdivision g kind branch paths
