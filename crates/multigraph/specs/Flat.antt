-- Lists kept as one list, one after the other, and where each of them ends.
use Rattle.std.specs.Prelude.{◌≡◌, ℕ, ◌+◌, ◌-◌, List, [], ◌∷◌, ◌++◌, length, take, drop}

-- the lists one after the other
abbrev pub joined : {X : Type 0} → List (List X) → List X
joined [] = []
joined (x ∷ xs) = x ++ joined xs

-- where the lists end, if the first begins at this place
abbrev pub ends_from : {X : Type 0} → ℕ → List (List X) → List ℕ
ends_from place [] = []
ends_from place (x ∷ xs) = (place + length x) ∷ ends_from (place + length x) xs

-- the list cut at these ends, if it begins at this place
abbrev pub cut_from : {X : Type 0} → ℕ → List ℕ → List X → List (List X)
cut_from place [] l = []
cut_from place (e ∷ es) l = take (e - place) l ∷ cut_from e es (drop (e - place) l)

-- where list k begins
abbrev pub start_at : {X : Type 0} → List (List X) → ℕ → ℕ
start_at lists k = length (joined (take k lists))

-- the values and the ends are those of the lists
pub record AreFlat {X : Type 0} (lists : List (List X)) (values : List X) (ends : List ℕ) : Type 0 where
  pub values_are : values ≡ joined lists
  pub ends_are : ends ≡ ends_from 0 lists
