-- Lists that are permutations of given numbers, as a test.
use Rattle.std.specs.Prelude.{ℕ, Bool, ◌&&◌, ◌==◌, List, length}
use Rattle.std.specs.List.{list_all}
use Rattle.permutations.specs.Members.{is_member, is_distinct}

-- whether a list is a permutation of others, all different: no member twice, each among those given, and equally many
abbrev pub is_arrangement : List ℕ → List ℕ → Bool
is_arrangement given list = is_distinct list && list_all (λ x. is_member x given) list && length list == length given
