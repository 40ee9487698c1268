-- Minimal sides of 2-separations.
use Rattle.std.specs.Prelude.{◌≡◌, ℕ, ◌≤◌, Bool, true, List, length, Contains}
use Rattle.pair_split.specs.Family.{Entry, on_side, IsSeparation}

-- the side s lies inside the other one
abbrev pub IsInside : List Entry → (ℕ → Bool) → (ℕ → Bool) → Type 0
IsInside entries s cut = (entry : Entry) → Contains entries entry → s entry.name ≡ true → cut entry.name ≡ true

-- no side of a 2-separation lies inside this one and has fewer entries
abbrev pub IsMinimal : List Entry → (ℕ → Bool) → Type 0
IsMinimal entries cut = (s : ℕ → Bool) (p q : ℕ) → IsSeparation entries s p q → IsInside entries s cut → length (on_side cut entries) ≤ length (on_side s entries)
