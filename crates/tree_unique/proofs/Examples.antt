-- The good 2-separations of small graphs, each side given by whether each edge is on it: two graphs have two each, a polygon and a
-- bond have none.
use Rattle.std.proofs.Common.{◌≡◌, ℕ, Bool, true, false, List, [], ◌∷◌, length, refl, Contains}
use Rattle.multigraph.specs.Graph.{Multigraph}
use Rattle.graph_theory.specs.Separation.{IsGood}
use Rattle.tree_unique.proofs.Tested.{side_of, table, separations, good, good-listed, listed-good}

-- a square with a chord: edges 0 to 3 round the square, and edge 4 between vertices 0 and 2
abbrev square : Multigraph
square = record { vertex_count = 4; ends = (0, 1) ∷ (1, 2) ∷ (2, 3) ∷ (3, 0) ∷ (0, 2) ∷ [] }

-- the two edges of either triangle but the chord, and the other three
abbrev square_sides : List (List Bool)
square_sides = (false ∷ false ∷ true ∷ true ∷ false ∷ []) ∷ (false ∷ false ∷ true ∷ true ∷ true ∷ []) ∷ (true ∷ true ∷ false ∷ false ∷ false ∷ []) ∷ (true ∷ true ∷ false ∷ false ∷ true ∷ []) ∷ []

square-good : good square ≡ square_sides
square-good = refl

-- it has just these good 2-separations
square-only : (s : ℕ → Bool) → IsGood square s → Contains square_sides (table 5 s)
square-only = good-listed square refl

square-all : (l : List Bool) → Contains square_sides l → IsGood square (side_of l)
square-all = listed-good square refl

-- two K4 on the edge 0, which joins vertices 0 and 1
abbrev tetrahedra : Multigraph
tetrahedra = record { vertex_count = 6; ends = (0, 1) ∷ (0, 2) ∷ (0, 3) ∷ (1, 2) ∷ (1, 3) ∷ (2, 3) ∷ (0, 4) ∷ (0, 5) ∷ (1, 4) ∷ (1, 5) ∷ (4, 5) ∷ [] }

-- the five edges of either K4 but the common one, and the other six
abbrev tetrahedra_sides : List (List Bool)
tetrahedra_sides =
    (false ∷ false ∷ false ∷ false ∷ false ∷ false ∷ true ∷ true ∷ true ∷ true ∷ true ∷ [])
    ∷ (false ∷ true ∷ true ∷ true ∷ true ∷ true ∷ false ∷ false ∷ false ∷ false ∷ false ∷ [])
    ∷ (true ∷ false ∷ false ∷ false ∷ false ∷ false ∷ true ∷ true ∷ true ∷ true ∷ true ∷ [])
    ∷ (true ∷ true ∷ true ∷ true ∷ true ∷ true ∷ false ∷ false ∷ false ∷ false ∷ false ∷ []) ∷ []

tetrahedra-good : good tetrahedra ≡ tetrahedra_sides
tetrahedra-good = refl

tetrahedra-only : (s : ℕ → Bool) → IsGood tetrahedra s → Contains tetrahedra_sides (table 11 s)
tetrahedra-only = good-listed tetrahedra refl

tetrahedra-all : (l : List Bool) → Contains tetrahedra_sides l → IsGood tetrahedra (side_of l)
tetrahedra-all = listed-good tetrahedra refl

-- a polygon: of four edges on a cycle any two neighbours are a side of a 2-separation, and the two 2-separations cross
abbrev cycle : Multigraph
cycle = record { vertex_count = 4; ends = (0, 1) ∷ (1, 2) ∷ (2, 3) ∷ (3, 0) ∷ [] }

cycle-separations : length (separations cycle) ≡ 4
cycle-separations = refl

cycle-none : good cycle ≡ []
cycle-none = refl

-- a bond: of four parallel edges any two are a side of a 2-separation, and the three 2-separations cross
abbrev parallels : Multigraph
parallels = record { vertex_count = 2; ends = (0, 1) ∷ (0, 1) ∷ (0, 1) ∷ (0, 1) ∷ [] }

parallels-separations : length (separations parallels) ≡ 6
parallels-separations = refl

parallels-none : good parallels ≡ []
parallels-none = refl
