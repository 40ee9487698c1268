-- The cyclic orders of the neighbours around the vertices of the tetrahedron, with one vertex inside the triangle of the others.
use Rattle.std.specs.Prelude.{ℕ, ◌+◌, ◌*◌, List, [], ◌∷◌, slice_index}

-- for each two vertices the neighbour of the first that follows the second
abbrev pub turns_table : List ℕ
turns_table = 0 ∷ 2 ∷ 3 ∷ 1 ∷ 3 ∷ 1 ∷ 0 ∷ 2 ∷ 1 ∷ 3 ∷ 2 ∷ 0 ∷ 2 ∷ 0 ∷ 1 ∷ 3 ∷ []

-- the neighbour of `from` that follows `to`
abbrev pub turn : ℕ → ℕ → ℕ
turn from to = slice_index turns_table (4 * from + to)
