-- Families of edges under names, their 2-separations (Cunningham and Edmonds 1980), and prime families.
use Rattle.std.specs.Prelude.{◌≡◌, ◌≢◌, ℕ, ◌≤◌, ◌⊎◌, Bool, true, false, not, ◌&&◌, ◌||◌, ◌==◌, List, [], ◌∷◌, length, map, filter, All}
use Rattle.permutations.specs.Members.{is_distinct}

-- an entry of a family: an edge under a name, with its two ends
pub record Entry : Type 0 where
  pub name : ℕ
  pub first : ℕ
  pub second : ℕ

-- whether x is an end of the entry
abbrev pub has_end : ℕ → Entry → Bool
has_end x entry = (entry.first == x) || (entry.second == x)

-- the names in a family
abbrev pub names : List Entry → List ℕ
names entries = map (λ entry. entry.name) entries

-- a family: no name occurs twice, and no entry is a loop
pub record IsFamily (entries : List Entry) : Type 0 where
  pub names_once : is_distinct (names entries) ≡ true
  pub no_loops : All (λ entry. entry.first ≢ entry.second) entries

-- the entries on the side s, a test on names
abbrev pub on_side : (ℕ → Bool) → List Entry → List Entry
on_side s entries = filter (λ entry. s entry.name) entries

-- those on the other side
abbrev pub off_side : (ℕ → Bool) → List Entry → List Entry
off_side s entries = filter (λ entry. not (s entry.name)) entries

-- whether some entry has the end x
abbrev pub touches : List Entry → ℕ → Bool
touches [] x = false
touches (entry ∷ entries) x = has_end x entry || touches entries x

-- whether both sides have an entry with the end x
abbrev pub is_common : List Entry → (ℕ → Bool) → ℕ → Bool
is_common entries s x = touches (on_side s entries) x && touches (off_side s entries) x

-- whenever both sides have an entry, they have two common vertices
abbrev pub IsTight : List Entry → Type 0
IsTight entries =
    (s : ℕ → Bool) → 1 ≤ length (on_side s entries) → 1 ≤ length (off_side s entries)
    → (p q : ℕ) × (p ≢ q) × (is_common entries s p ≡ true) × (is_common entries s q ≡ true)

-- a 2-separation: the two sides have at least two entries each, and the two vertices p and q in common and no others
pub record IsSeparation (entries : List Entry) (s : ℕ → Bool) (p q : ℕ) : Type 0 where
  pub differ : p ≢ q
  pub first_common : is_common entries s p ≡ true
  pub second_common : is_common entries s q ≡ true
  pub no_other : (x : ℕ) → is_common entries s x ≡ true → (x ≡ p) ⊎ (x ≡ q)
  pub two_inside : 2 ≤ length (on_side s entries)
  pub two_outside : 2 ≤ length (off_side s entries)

-- a prime family: tight, and without a 2-separation
pub record IsPrime (entries : List Entry) : Type 0 where
  pub tight : IsTight entries
  pub none : (s : ℕ → Bool) (p q : ℕ) → IsSeparation entries s p q → ⊥
