-- A subdivision of the contraction of a level, lifted.
use Rattle.std.specs.Prelude.{◌≡◌, ℕ, ◌+◌, ◌<◌, true, nat_lt, if◌then◌else◌, List, map, slice_index}
use Rattle.permutations.specs.Members.{is_member}
use Rattle.multigraph.specs.Graph.{edge_count}
use Rattle.kuratowski.specs.declared.subdivision.Pattern.{Pattern}
use Rattle.kuratowski.specs.declared.subdivision.Pattern.TheVariants.{K33}
use Rattle.contractions.specs.Contracted.{contracted_vertex}
use Rattle.contractions.specs.declared.level.Level.{Level}
use Rattle.kuratowski.specs.Subdivision.{pattern_edges, branch_at, path_at, IsSubdivision}
use Rattle.planarity.specs.Lift.{lifted, path_of_pair, lifted_branch, lifted_paths, split_branch, split_paths}

-- the vertex whose number is v when y is left out
abbrev pub with_number : ℕ → ℕ → ℕ
with_number y v = (if nat_lt v y then v else v + 1)

-- the path from vertex `over.0` to vertex `over.1` of the pattern, lifted to one between the branch vertices of the pair
abbrev pub lifted_path : Level → Pattern → List (List ℕ) → List ℕ → ℕ × ℕ → ℕ × ℕ → List ℕ
lifted_path level kind paths branch pair over =
    lifted level.graph level.edge (branch_at branch pair.0) (map (slice_index level.kept.items) (path_of_pair (pattern_edges kind) paths over.0 over.1))
    (branch_at branch pair.1)

-- all paths of the contraction, lifted to the graph of the level
abbrev pub lifted_level_paths : Level → Pattern → List (List ℕ) → List ℕ → List (List ℕ)
lifted_level_paths level kind paths branch = lifted_paths level.graph level.edge (slice_index level.kept.items) kind paths branch

-- the paths of a K5 of the contraction, lifted to those of a K3,3 of the graph of the level, where those at its vertex m go to `on`
-- from y, and to `off` from x
abbrev pub split_level_paths : Level → List (List ℕ) → ℕ → ℕ × ℕ → ℕ × ℕ → List ℕ → List (List ℕ)
split_level_paths level paths m off on branch = split_paths level.graph level.edge (slice_index level.kept.items) paths m off.0 off.1 on.0 on.1 branch

-- the subdivision of the contraction, lifted with `foot` for the merged vertex, is one of the graph
abbrev pub IsLifted : Level → ℕ → Pattern → List ℕ → List (List ℕ) → Type 0
IsLifted level foot kind branch paths =
    let made = lifted_branch (contracted_vertex level.x level.y level.x) foot (with_number level.y) branch in
    IsSubdivision level.graph kind made (lifted_level_paths level kind paths made)

-- the K5 of the contraction, lifted to a K3,3 where the paths at its vertex m go to `on` from y, and to `off` from x, is one of
-- the graph
abbrev pub IsSplit : Level → ℕ → ℕ × ℕ → ℕ × ℕ → List ℕ → List (List ℕ) → Type 0
IsSplit level m off on branch paths =
    let made = split_branch level.x level.y (with_number level.y) branch off.0 off.1 on.0 on.1 in
    IsSubdivision level.graph K33 made (split_level_paths level paths m off on made)

-- the edges of the paths of the contraction were edges of the graph
abbrev pub LeadOverEdges : Level → List (List ℕ) → Type 0
LeadOverEdges level paths = (k z : ℕ) → is_member z (path_at paths k) ≡ true → slice_index level.kept.items z < edge_count level.graph
