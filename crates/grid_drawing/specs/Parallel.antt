-- Parallel edges, and the least pair of them: the least edge that has a later one with the same ends, and the least such later one.
use Rattle.std.specs.Prelude.{ℕ, Bool, ◌&&◌, ◌||◌, ◌==◌, nat_lt}
use Rattle.permutations.specs.Count.{some, least}
use Rattle.multigraph.specs.Graph.{Multigraph, edge_count, ends_of}

-- whether edges a and b have the same two ends
abbrev pub same_ends : Multigraph → ℕ → ℕ → Bool
same_ends g a b = (((ends_of g a).0 == (ends_of g b).0) && ((ends_of g a).1 == (ends_of g b).1)) || (((ends_of g a).0 == (ends_of g b).1) && ((ends_of g a).1 == (ends_of g b).0))

-- whether b is a later edge than a with the same ends
abbrev pub is_later : Multigraph → ℕ → ℕ → Bool
is_later g a b = nat_lt a b && same_ends g a b

-- whether there is a later edge than a with the same ends
abbrev pub has_later : Multigraph → ℕ → Bool
has_later g a = some (edge_count g) (is_later g a)

-- whether two edges have the same ends
abbrev pub has_parallel : Multigraph → Bool
has_parallel g = some (edge_count g) (has_later g)

-- the least edge that has a later one with the same ends
abbrev pub first_parallel : Multigraph → ℕ
first_parallel g = least (edge_count g) (has_later g)

-- the least later edge with its ends
abbrev pub second_parallel : Multigraph → ℕ
second_parallel g = least (edge_count g) (is_later g (first_parallel g))
