-- Starts and the texts of `gml`, worked out on small graphs.
use Rattle.std.proofs.Common.{◌≡◌, [], ◌∷◌, None, Some, codes, refl}
use Rattle.std.specs.Fmt.{digits}
use Rattle.multigraph.specs.Part.{GraphPart}
use Rattle.gml_graph.specs.Marked.{numbers_text}
use Rattle.spqr_session.specs.Start.{start_entries}
use Rattle.spqr_session.specs.Commands.Gml.{present_lists}
use Rattle.spqr_session.specs.Sorting.{gathered}

-- a part of two parallel edges 0 and 3 between vertices 1 and 2 of a path whose vertex 1 has further edges
first : GraphPart
first = record { graph = record { vertex_count = 2; ends = (0, 1) ∷ (0, 1) ∷ [] }; vertices = 1 ∷ 2 ∷ []; edges = 0 ∷ 3 ∷ [] }

-- three parallel edges 1, 2 and 4 between vertices 0 and 1
second : GraphPart
second = record { graph = record { vertex_count = 2; ends = (0, 1) ∷ (0, 1) ∷ (1, 0) ∷ [] }; vertices = 0 ∷ 1 ∷ []; edges = 1 ∷ 2 ∷ 4 ∷ [] }

-- the lists of a start without the edges of the other part
entries : start_entries first ((4 ∷ 1 ∷ 2 ∷ []) ∷ (3 ∷ 4 ∷ 2 ∷ 0 ∷ 1 ∷ []) ∷ (0 ∷ 3 ∷ []) ∷ []) ≡ (1, 3 ∷ 0 ∷ []) ∷ (2, 0 ∷ 3 ∷ []) ∷ []
unfolding first
entries = refl

-- the same by a table of blocks
sorted : gathered (0 ∷ 1 ∷ 1 ∷ 0 ∷ 1 ∷ []) ((4 ∷ 1 ∷ 2 ∷ []) ∷ (3 ∷ 4 ∷ 2 ∷ 0 ∷ 1 ∷ []) ∷ (0 ∷ 3 ∷ []) ∷ []) 0 3 ≡ (1, 3 ∷ 0 ∷ []) ∷ (2, 0 ∷ 3 ∷ []) ∷ []
sorted = refl

-- block by block, of a planar one in the present order
written : present_lists 3 (record { part = first; nodes = [] } ∷ record { part = second; nodes = [] } ∷ [])
    (record { entries = None ∷ Some (record { rotation = (0 ∷ 2 ∷ 1 ∷ []) ∷ (0 ∷ 1 ∷ 2 ∷ []) ∷ []; locks = [] }) ∷ []; arrangements = [] })
    ≡ (1 ∷ 4 ∷ 2 ∷ []) ∷ (0 ∷ 3 ∷ 1 ∷ 2 ∷ 4 ∷ []) ∷ (0 ∷ 3 ∷ []) ∷ []
unfolding first second
written = refl

-- one space between any two numbers, and nothing where there are none
spaced : numbers_text (10 ∷ 2 ∷ 305 ∷ []) ≡ codes "10 2 305"
unfolding digits
spaced = refl

empty : numbers_text [] ≡ []
empty = refl
