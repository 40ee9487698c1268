-- What the loops over the cuts do.
use Rattle.std.specs.Prelude.{◌≡◌, ℕ, ◌-◌, ◌<◌, ◌≤◌, ◌⊎◌, List, [], ◌∷◌, ◌++◌, length, Option, None, Some}
use Rattle.split_comp.specs.Cuts.{cut}
use Rattle.split_comp.specs.declared.items.StackCut.{StackCut}

-- the last cuts, whose upper ends are below that of the new one, were taken off, from place base on at most; the result is the
-- new cut, or the first one taken off with the upper end of the new one
pub record IsTakenLower (base : ℕ) (new : StackCut) (old now : List StackCut) (answer : StackCut) : Type 0 where
  pub popped : List StackCut
  pub parts : old ≡ now ++ popped
  pub from : base ≤ length now
  pub lower : (k : ℕ) → k < length popped → new.up < (cut popped k).up
  pub stops : (length now ≡ base) ⊎ ((cut now (length now - 1)).up ≤ new.up)
  pub none : popped ≡ [] → answer ≡ new
  pub some : (c : StackCut) (more : List StackCut) → popped ≡ c ∷ more → answer ≡ record { start = c.start; up = new.up; low = c.low }

-- a cut was noted: the last cuts whose upper ends are below that of the new one were taken off, and one is in their place
pub record IsNoted (base : ℕ) (new : StackCut) (old now : List StackCut) : Type 0 where
  pub kept : List StackCut
  pub answer : StackCut
  pub taken : IsTakenLower base new old kept answer
  pub parts : now ≡ kept ++ answer ∷ []

-- the last cuts, which start after the place first, were dropped, from place base on at most
pub record IsDropped (base first : ℕ) (old now : List StackCut) : Type 0 where
  pub popped : List StackCut
  pub parts : old ≡ now ++ popped
  pub from : base ≤ length now
  pub behind : (k : ℕ) → k < length popped → first < (cut popped k).start
  pub stops : (length now ≡ base) ⊎ ((cut now (length now - 1)).start ≤ first)

-- the last cut from place base on, where there is one
abbrev pub IsLastCut : ℕ → List StackCut → Option StackCut → Type 0
IsLastCut base cuts None = length cuts ≤ base
IsLastCut base cuts (Some c) = (base < length cuts) × (cut cuts (length cuts - 1) ≡ c)
