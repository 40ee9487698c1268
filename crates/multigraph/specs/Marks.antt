-- Marks: a list with a Boolean for each number.
use Rattle.std.specs.Prelude.{ℕ, Bool, false, List, slice_index_or}

-- whether x is marked; no number past the list's end is
abbrev pub is_marked : List Bool → ℕ → Bool
is_marked marks x = slice_index_or marks x false
