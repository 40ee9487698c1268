-- Places that are locked: they have one choice, the present one.
use Rattle.std.specs.Prelude.{◌≡◌, ℕ, ◌+◌, Bool, true, if◌then◌else◌, List, [], ◌∷◌, slice_index_or}

-- from place k on: of a locked place the list with the vector's own member alone, of the others their lists
abbrev pub locked_from : {X : Type 0} → ℕ → (ℕ → Bool) → List X → List (List X) → List (List X)
locked_from k locked [] cs = cs
locked_from k locked (x ∷ v) [] = []
locked_from k locked (x ∷ v) (c ∷ cs) = (if locked k then x ∷ [] else c) ∷ locked_from (k + 1) locked v cs

-- the lists with the locked places held where the vector has them
abbrev pub locked_lists : {X : Type 0} → (ℕ → Bool) → List X → List (List X) → List (List X)
locked_lists locked v cs = locked_from 0 locked v cs

-- two vectors agree at the locked places
abbrev pub AgreeWhereLocked : {X : Type 0} → (ℕ → Bool) → List X → List X → Type 0
AgreeWhereLocked {X} locked v w = (k : ℕ) (d : X) → locked k ≡ true → slice_index_or v k d ≡ slice_index_or w k d

-- the radices with locked places: 1 at each of them
abbrev pub radices_from : ℕ → (ℕ → Bool) → List ℕ → List ℕ
radices_from k locked [] = []
radices_from k locked (r ∷ rs) = (if locked k then 1 else r) ∷ radices_from (k + 1) locked rs

-- the digits with locked places: 0 at each of them
abbrev pub digits_from : ℕ → (ℕ → Bool) → List ℕ → List ℕ
digits_from k locked [] = []
digits_from k locked (d ∷ ds) = (if locked k then 0 else d) ∷ digits_from (k + 1) locked ds
