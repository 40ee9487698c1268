-- Choices changed: two keys exchanged, or the whole reversed.
use Rattle.std.specs.Prelude.{◌≡◌, ℕ, ◌<◌, true, false, ◌==◌, if◌then◌else◌, List, [], ◌∷◌, ◌++◌, length, map, reverse, slice_index_or}
use Rattle.permutations.specs.Members.{is_member, is_distinct}
use Rattle.permutations.specs.Cyclic.{from_least}
use Rattle.permutations.specs.Runs.{InRuns, group_keys}
use Rattle.skeletons.specs.Moves.{AreRegrouped}

-- a for b, and b for a
abbrev pub other_of : ℕ → ℕ → ℕ → ℕ
other_of a b x = (if x == a then b else (if x == b then a else x))

-- the list with a and b exchanged
abbrev pub exchanged : ℕ → ℕ → List ℕ → List ℕ
exchanged a b l = map (other_of a b) l

-- the choice reversed: the reverse cyclic order, from the least key on
abbrev pub turned_choice : List ℕ → List ℕ
turned_choice c = from_least (reverse c)

-- each list has no key twice, and is written from its least key on
abbrev pub AreWritten : List (List ℕ) → Type 0
AreWritten lists = (k : ℕ) → k < length lists → (is_distinct (slice_index_or lists k []) ≡ true) × (from_least (slice_index_or lists k []) ≡ slice_index_or lists k [])

-- however l is cut into groups, in m the groups with the keys a and b are exchanged
abbrev pub AreExchanged : (ℕ → ℕ) → ℕ → ℕ → List ℕ → List ℕ → Type 0
AreExchanged key a b l m = (groups : List (ℕ × List ℕ)) → InRuns key l groups → AreRegrouped key l (exchanged a b (group_keys groups)) m

-- the cyclic order is cut into groups, two of which have the keys a and b
pub record HasKeys (key : ℕ → ℕ) (l : List ℕ) (a b : ℕ) : Type 0 where
  pub groups : List (ℕ × List ℕ)
  pub runs : InRuns key l groups
  pub first : is_member a (group_keys groups) ≡ true
  pub second : is_member b (group_keys groups) ≡ true

-- the key is at this place, and not before it
pub record StandsAt (keys : List ℕ) (place key : ℕ) : Type 0 where
  pub front : List ℕ
  pub back : List ℕ
  pub is : keys ≡ front ++ key ∷ back
  pub before : length front ≡ place
  pub new : is_member key front ≡ false
