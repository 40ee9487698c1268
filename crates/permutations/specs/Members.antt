-- Lists of numbers as sets: membership, and lists without repetition, as tests; and the place of a member.
use Rattle.std.specs.Prelude.{ℕ, suc, Bool, true, false, not, ◌&&◌, ◌||◌, ◌==◌, if◌then◌else◌, List, [], ◌∷◌}

-- whether x is a member of the list
abbrev pub is_member : ℕ → List ℕ → Bool
is_member x [] = false
is_member x (y ∷ ys) = (y == x) || is_member x ys

-- whether no member is in the list twice
abbrev pub is_distinct : List ℕ → Bool
is_distinct [] = true
is_distinct (x ∷ xs) = not (is_member x xs) && is_distinct xs

-- the first place of x in the list, and the list's length where x is not a member
abbrev pub place_of : List ℕ → ℕ → ℕ
place_of [] x = 0
place_of (y ∷ ys) x = (if y == x then 0 else suc (place_of ys x))
