-- State of a loop: places that are marked along the images of a permutation.
use Rattle.std.specs.Prelude.{◌≡◌, ℕ, ◌<◌, Bool, ◌||◌, List}
use Rattle.permutations.specs.Permutation.{Permutes, reaches}
use Rattle.multigraph.specs.Marks.{is_marked}

-- f permutes the numbers below n
abbrev pub IsPermutationBelow : ℕ → (ℕ → ℕ) → Type 0
IsPermutationBelow n f = (g : ℕ → ℕ) × Permutes n f g

-- a number below n is marked exactly where its image is
abbrev pub AreWholeOrbits : ℕ → (ℕ → ℕ) → List Bool → Type 0
AreWholeOrbits n f marks = (x : ℕ) → x < n → is_marked marks (f x) ≡ is_marked marks x

-- the new marks are the old ones and those of the orbit of `start`
abbrev pub AddsOrbit : ℕ → (ℕ → ℕ) → ℕ → List Bool → List Bool → Type 0
AddsOrbit n f start old new = (x : ℕ) → is_marked new x ≡ (is_marked old x || reaches n f start x)
