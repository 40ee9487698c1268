-- Small instances of the definitions, proved by computation: a triangle with one side doubled, and an edge that hangs on it.
use Rattle.std.proofs.Common.{◌≡◌, false, [], ◌∷◌, refl, arith, inr}
use Rattle.permutations.specs.Members.{is_distinct}
use Rattle.multigraph.specs.Graph.{Multigraph}
use Rattle.graph_theory.specs.Path.{walk_vertices, IsPath, IsCycle}
use Rattle.graph_theory.specs.Block.{SameBlock}

-- edges 0 and 1 between vertices 0 and 1, edge 2 from 1 to 2, edge 3 from 2 to 0, edge 4 from 2 to 3
abbrev example : Multigraph
example = record { vertex_count = 4; ends = (0, 1) ∷ ((1, 0) ∷ ((1, 2) ∷ ((2, 0) ∷ ((2, 3) ∷ [])))) }

-- edges 1, 2 and 4 lead from 0 to 3
path-0-3 : IsPath example 0 (1 ∷ (2 ∷ (4 ∷ []))) 3
path-0-3 = record { walk = ((omega arith, refl), ((omega arith, refl), ((omega arith, refl), tt))); arrives = refl; vertices = refl }

-- the vertices of that path
path-0-3-vertices : walk_vertices example 0 (1 ∷ (2 ∷ (4 ∷ []))) ≡ 0 ∷ (1 ∷ (2 ∷ (3 ∷ [])))
path-0-3-vertices = refl

-- the two parallel edges are a cycle
cycle-parallel : IsCycle example 0 (0 ∷ (1 ∷ []))
cycle-parallel = record { walk = ((omega arith, refl), ((omega arith, refl), tt)); returns = refl; two = omega arith; edges = refl; vertices = refl }

-- the triangle is a cycle
cycle-triangle : IsCycle example 1 (2 ∷ (3 ∷ (0 ∷ [])))
cycle-triangle = record { walk = ((omega arith, refl), ((omega arith, refl), ((omega arith, refl), tt))); returns = refl; two = omega arith; edges = refl; vertices = refl }

-- the two parallel edges are in the same block, and so are a side of the triangle and a parallel edge
block-parallel : SameBlock example 1 0
block-parallel = inr (record { start = 0; along = 0 ∷ (1 ∷ []); cycle = cycle-parallel; first_on = refl; second_on = refl })

block-triangle : SameBlock example 3 0
block-triangle = inr (record { start = 1; along = 2 ∷ (3 ∷ (0 ∷ [])); cycle = cycle-triangle; first_on = refl; second_on = refl })

-- an edge walked forth and back is no cycle: it stands twice in the list
no_cycle-forth_back : is_distinct (4 ∷ (4 ∷ [])) ≡ false
no_cycle-forth_back = refl
