-- Of private functions: vertices with edges of two different numbers.
use Rattle.std.specs.Prelude.{ℕ, Bool, not, ◌==◌, List, length, slice_index}
use Rattle.permutations.specs.Count.{some}

-- whether some of the edges has another number than the first of them
abbrev pub meets_two : List ℕ → List ℕ → Bool
meets_two numbers edges = some (length edges) (λ k. not (slice_index numbers (slice_index edges k) == slice_index numbers (slice_index edges 0)))
