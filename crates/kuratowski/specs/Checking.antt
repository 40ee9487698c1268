-- What a check of a subdivision asks, step by step: the branch vertices in their written order, and marks on the vertices that
-- were visited, so that none is visited twice.
use Rattle.std.specs.Prelude.{◌≡◌, ℕ, ◌<◌, Bool, true, false, not, ◌&&◌, ◌==◌, nat_lt, List, [], ◌∷◌, replicate, slice_index_or, slice_set, length}
use Rattle.multigraph.specs.Graph.{Multigraph, is_edge_at, other_end}
use Rattle.graph_theory.specs.Path.{walk_starts, walk_end}
use Rattle.kuratowski.specs.declared.subdivision.Pattern.{Pattern}
use Rattle.kuratowski.specs.declared.subdivision.Pattern.TheVariants.{K5, K33}
use Rattle.kuratowski.specs.Subdivision.{branch_at, inner_vertices}

-- whether branch vertex i is less than branch vertex k
abbrev pub is_less : List ℕ → ℕ → ℕ → Bool
is_less branch i k = nat_lt (branch_at branch i) (branch_at branch k)

-- whether the branch vertices are in their written order
abbrev pub is_in_order : Pattern → List ℕ → Bool
is_in_order K5 branch = is_less branch 0 1 && is_less branch 1 2 && is_less branch 2 3 && is_less branch 3 4
is_in_order K33 branch = is_less branch 0 1 && is_less branch 1 2 && is_less branch 3 4 && is_less branch 4 5 && is_less branch 0 3

-- no vertex has a mark
abbrev pub no_marks : Multigraph → List Bool
no_marks g = replicate g.vertex_count false

-- whether v has a mark, or is no vertex
abbrev pub is_taken : List Bool → ℕ → Bool
is_taken marks v = slice_index_or marks v true

-- the marks with these vertices marked too
abbrev pub marked_also : List Bool → List ℕ → List Bool
marked_also marks [] = marks
marked_also marks (v ∷ vs) = marked_also (slice_set marks v true) vs

-- whether these are vertices without a mark, all different
abbrev pub are_free : List Bool → List ℕ → Bool
are_free marks [] = true
are_free marks (v ∷ vs) = not (is_taken marks v) && are_free (slice_set marks v true) vs

-- whether these edges are a walk from x on which each is entered at a vertex that has no mark yet
abbrev pub is_free_walk : Multigraph → List Bool → ℕ → List ℕ → Bool
is_free_walk g marks x [] = true
is_free_walk g marks x (e ∷ es) = not (is_taken marks x) && (is_edge_at g x e && is_free_walk g (slice_set marks x true) (other_end g e x) es)

-- they are such a walk to y, and the vertices at which they are entered are marked too
abbrev pub IsFreeWalkTo : Multigraph → List Bool → ℕ → List ℕ → List Bool → ℕ → Type 0
IsFreeWalkTo g marks x es new y = (is_free_walk g marks x es ≡ true) × (y ≡ walk_end g x es) × (new ≡ marked_also marks (walk_starts g x es))

-- whether these edges, at least one, are a walk from x to y with no marked vertex inside, and none twice
abbrev pub is_free_path : Multigraph → List Bool → ℕ → List ℕ → ℕ → Bool
is_free_path g marks x [] y = false
is_free_path g marks x (e ∷ es) y = is_edge_at g x e && (is_free_walk g marks (other_end g e x) es && (walk_end g (other_end g e x) es == y))

-- whether there is such a path for each of these pairs of branch vertices, where the vertices inside one are marked for those
-- that follow
abbrev pub are_free_paths : Multigraph → List Bool → List ℕ → List (ℕ × ℕ) → List (List ℕ) → Bool
are_free_paths g marks branch [] paths = true
are_free_paths g marks branch (pair ∷ pairs) [] = false
are_free_paths g marks branch (pair ∷ pairs) (path ∷ paths) =
    is_free_path g marks (branch_at branch pair.0) path (branch_at branch pair.1)
    && are_free_paths g (marked_also marks (inner_vertices g (branch_at branch pair.0) path)) branch pairs paths

-- the two numbers of each pair are places of the list
abbrev pub ArePlaces : List (ℕ × ℕ) → List ℕ → Type 0
ArePlaces pairs branch = (k : ℕ) → k < length pairs → ((slice_index_or pairs k (0, 0)).0 < length branch) × ((slice_index_or pairs k (0, 0)).1 < length branch)
