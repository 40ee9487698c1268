-- Paths in a wheel and in complete graphs with an edge contracted, lifted, and K5 with a vertex split, computed.
use Rattle.std.proofs.Common.{◌≡◌, ℕ, true, false, List, [], ◌∷◌, refl}
use Rattle.multigraph.specs.Graph.{Multigraph}
use Rattle.contractions.specs.Contracted.{contracted, contracted_edge}
use Rattle.kuratowski.specs.Subdivision.{branch_count, pattern_edges}
use Rattle.kuratowski.specs.declared.subdivision.Pattern.TheVariants.{K5, K33}
use Rattle.planarity.specs.Lift.{touches, lifted, is_listed, path_of_pair, spokes, spokes_on, spokes_off, lifted_branch, lifted_paths, split_branch, split_paths}
use Rattle.planarity.proofs.ExpansionExamples.{wheel}

-- of the edges from 1 to 2 and from the hub to 2 one is at 1, and none is at 0
touches-one : touches wheel 1 (1 ∷ 6 ∷ []) ≡ true
touches-one = refl

touches-none : touches wheel 0 (1 ∷ 6 ∷ []) ≡ false
touches-none = refl

-- edge 0 between 0 and 1 is contracted. A path from 2 to 3 over the merged vertex enters it at 1 and leaves it at 0: the edge
-- comes between
lifted-inside : lifted wheel 0 2 (1 ∷ 3 ∷ []) 3 ≡ 1 ∷ 0 ∷ 3 ∷ []
lifted-inside = refl

-- one from the hub to 3 over 0 does without it
lifted-without : lifted wheel 0 4 (4 ∷ 3 ∷ []) 3 ≡ 4 ∷ 3 ∷ []
lifted-without = refl

-- one that begins or ends at the merged vertex is led to the end that is asked for
lifted-first : lifted wheel 0 1 (3 ∷ []) 3 ≡ 0 ∷ 3 ∷ []
lifted-first = refl

lifted-last : lifted wheel 0 2 (1 ∷ []) 0 ≡ 1 ∷ 0 ∷ []
lifted-last = refl

lifted-last_without : lifted wheel 0 2 (1 ∷ []) 1 ≡ 1 ∷ []
lifted-last_without = refl

-- K5 joins its vertices 3 and 1, and K3,3 does not join 2 and 1
five-joined : is_listed (pattern_edges K5) 3 1 ≡ true
five-joined = refl

six-not_joined : is_listed (pattern_edges K33) 2 1 ≡ false
six-not_joined = refl

-- a path is turned round where its pair is
between-forth : path_of_pair ((0, 1) ∷ (0, 2) ∷ []) ((7 ∷ []) ∷ (8 ∷ 9 ∷ []) ∷ []) 0 2 ≡ 8 ∷ 9 ∷ []
between-forth = refl

between-back : path_of_pair ((0, 1) ∷ (0, 2) ∷ []) ((7 ∷ []) ∷ (8 ∷ 9 ∷ []) ∷ []) 2 0 ≡ 9 ∷ 8 ∷ []
between-back = refl

between-none : path_of_pair ((0, 1) ∷ (0, 2) ∷ []) ((7 ∷ []) ∷ (8 ∷ 9 ∷ []) ∷ []) 1 2 ≡ []
between-none = refl

-- vertex 1 is joined with all others in K5, with those of the other side in K3,3
five-spokes : spokes K5 1 ≡ 0 ∷ 2 ∷ 3 ∷ 4 ∷ []
five-spokes = refl

six-spokes : spokes K33 1 ≡ 3 ∷ 4 ∷ 5 ∷ []
six-spokes = refl

-- K5 with its vertex 0 split: 0 keeps the edges to 1 and 2, the new vertex 5 has those to 3 and 4, and edge 0 joins the two
abbrev split : Multigraph
split = record { vertex_count = 6; ends = (0, 5) ∷ (0, 1) ∷ (0, 2) ∷ (5, 3) ∷ (5, 4) ∷ (1, 2) ∷ (1, 3) ∷ (1, 4) ∷ (2, 3) ∷ (2, 4) ∷ (3, 4) ∷ [] }

-- edge 0 contracted gives K5
split-contracted : contracted split 0 0 5 ≡ record { vertex_count = branch_count K5; ends = pattern_edges K5 }
split-contracted = refl

-- K5 as a subdivision of itself
abbrev five_branch : List ℕ
five_branch = 0 ∷ 1 ∷ 2 ∷ 3 ∷ 4 ∷ []

abbrev five_paths : List (List ℕ)
five_paths = (0 ∷ []) ∷ (1 ∷ []) ∷ (2 ∷ []) ∷ (3 ∷ []) ∷ (4 ∷ []) ∷ (5 ∷ []) ∷ (6 ∷ []) ∷ (7 ∷ []) ∷ (8 ∷ []) ∷ (9 ∷ []) ∷ []

-- the paths from vertex 0 to 1 and 2 begin at 0, those to 3 and 4 at 5
split-on_first : spokes_on split (contracted_edge split 0 0 5) K5 five_paths 0 0 ≡ 1 ∷ 2 ∷ []
split-on_first = refl

split-off_first : spokes_off split (contracted_edge split 0 0 5) K5 five_paths 0 0 ≡ 3 ∷ 4 ∷ []
split-off_first = refl

split-on_second : spokes_on split (contracted_edge split 0 0 5) K5 five_paths 5 0 ≡ 3 ∷ 4 ∷ []
split-on_second = refl

-- two at either end: so it is K3,3, with the sides 0, 3, 4 and 5, 1, 2, that is found
split-branch : split_branch 0 5 (λ v. v) five_branch 1 2 3 4 ≡ 0 ∷ 3 ∷ 4 ∷ 5 ∷ 1 ∷ 2 ∷ []
split-branch = refl

-- its paths are the edges between the sides: 1-2 and 3-4 are left out
split-paths : split_paths split 0 (contracted_edge split 0 0 5) five_paths 0 1 2 3 4 (0 ∷ 3 ∷ 4 ∷ 5 ∷ 1 ∷ 2 ∷ []) ≡ (0 ∷ []) ∷ (1 ∷ []) ∷ (2 ∷ []) ∷ (3 ∷ []) ∷ (6 ∷ []) ∷ (8 ∷ []) ∷ (4 ∷ []) ∷ (7 ∷ []) ∷ (9 ∷ []) ∷ []
split-paths = refl

-- K5 with an edge of vertex 0 led to a new vertex 5, which edge 0 joins with 0
abbrev longer : Multigraph
longer = record { vertex_count = 6; ends = (0, 5) ∷ (0, 1) ∷ (0, 2) ∷ (0, 3) ∷ (5, 4) ∷ (1, 2) ∷ (1, 3) ∷ (1, 4) ∷ (2, 3) ∷ (2, 4) ∷ (3, 4) ∷ [] }

-- edge 0 contracted gives K5, again
longer-contracted : contracted longer 0 0 5 ≡ record { vertex_count = branch_count K5; ends = pattern_edges K5 }
longer-contracted = refl

-- three paths begin at 0: so 0 is a branch vertex, and the path to 4 goes over edge 0
longer-on_first : spokes_on longer (contracted_edge longer 0 0 5) K5 five_paths 0 0 ≡ 1 ∷ 2 ∷ 3 ∷ []
longer-on_first = refl

longer-branch : lifted_branch 0 0 (λ v. v) five_branch ≡ five_branch
longer-branch = refl

longer-paths : lifted_paths longer 0 (contracted_edge longer 0 0 5) K5 five_paths five_branch ≡ (1 ∷ []) ∷ (2 ∷ []) ∷ (3 ∷ []) ∷ (0 ∷ 4 ∷ []) ∷ (5 ∷ []) ∷ (6 ∷ []) ∷ (7 ∷ []) ∷ (8 ∷ []) ∷ (9 ∷ []) ∷ (10 ∷ []) ∷ []
longer-paths = refl
