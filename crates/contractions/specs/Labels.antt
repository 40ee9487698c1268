-- Labels that determine whether a graph stays connected when vertices are removed.
use Rattle.std.specs.Prelude.{◌≡◌, ℕ, ◌<◌, false, List, length, slice_index}
use Rattle.permutations.specs.Members.{is_member}

-- all numbers that are not removed have one label
abbrev pub AreAlike : List ℕ → List ℕ → Type 0
AreAlike removed labels =
    (u v : ℕ) → u < length labels → v < length labels → is_member u removed ≡ false → is_member v removed ≡ false → slice_index labels u ≡ slice_index labels v
