-- Files in memory.
use Rattle.std.specs.Prelude.{ℕ, ◌+◌, ◌<◌, ◌⊎◌, List, Contains, Option, find, IsSome, IsNone, Result, MatchResult, Vec, vec_len, vec_capacity}
use Rattle.std.specs.Option.{option_map}
use Rattle.std.specs.Str.{bytes_eq}
use Rattle.spqr_edge.specs.declared.memory.MemFile.{MemFile}

-- the bytes of the first file of this name
abbrev pub bytes_of : List MemFile → List ℕ → Option (List ℕ)
bytes_of files name = option_map (λ file. file.bytes.now) (find (λ file. bytes_eq file.name.now name) files)

-- a call that opens succeeds if it is not one of those that are to fail and a file has the name, and fails otherwise
abbrev pub OpensWhereHeld : {T E : Type 0} → List MemFile → List ℕ → ℕ → List ℕ → Result T E → Type 0
OpensWhereHeld files failing call name result =
    MatchResult result
    (λ _. ¬ Contains failing call × IsSome (bytes_of files name))
    (λ _. Contains failing call ⊎ IsNone (bytes_of files name))

-- the list has no room for this many more
abbrev pub LacksRoom : {A Z : Type 0} → Vec A Z → ℕ → Type 0
LacksRoom list more = vec_capacity list < vec_len list + more
