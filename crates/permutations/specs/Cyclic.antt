-- Lists without repetition, read as cyclic orders: the first member follows the last.
use Rattle.std.specs.Prelude.{◌≡◌, ℕ, min, ◌==◌, if◌then◌else◌, List, [], ◌∷◌, ◌++◌, reverse, filter}
use Rattle.permutations.specs.Members.{is_member}

-- the first member of a list, or x where it is empty
abbrev pub first_or : ℕ → List ℕ → ℕ
first_or x [] = x
first_or x (y ∷ ys) = y

-- the member that follows x in the list, and `start` after the last one
abbrev pub successor_from : ℕ → List ℕ → ℕ → ℕ
successor_from start [] x = x
successor_from start (y ∷ ys) x = (if y == x then first_or start ys else successor_from start ys x)

-- the member that follows x in the cyclic order
abbrev pub successor : List ℕ → ℕ → ℕ
successor l x = successor_from (first_or x l) l x

-- the member that x follows in the cyclic order
abbrev pub predecessor : List ℕ → ℕ → ℕ
predecessor l x = successor (reverse l) x

-- the members from y on, then those before y, which are the ones passed so far and more
abbrev pub turned_past : List ℕ → List ℕ → ℕ → List ℕ
turned_past passed [] y = passed
turned_past passed (x ∷ xs) y = (if x == y then (x ∷ xs) ++ passed else turned_past (passed ++ x ∷ []) xs y)

-- the same cyclic order, written from y on
abbrev pub turned : List ℕ → ℕ → List ℕ
turned l y = turned_past [] l y

-- one list is the other written from another member on: the same cyclic order
pub record IsTurn {X : Type 0} (l k : List X) : Type 0 where
  pub front : List X
  pub back : List X
  pub before : l ≡ front ++ back
  pub after : k ≡ back ++ front

-- the last member of a list, or x where it is empty
abbrev pub last_or : ℕ → List ℕ → ℕ
last_or x l = first_or x (reverse l)

-- the least of x and the members of a list
abbrev pub least_or : ℕ → List ℕ → ℕ
least_or x [] = x
least_or x (y ∷ ys) = min x (least_or y ys)

-- the cyclic order written from its least member on: one list for each cyclic order
abbrev pub from_least : List ℕ → List ℕ
from_least l = turned l (least_or (first_or 0 l) l)

-- the members of k are in l, in this order
abbrev pub Follows : List ℕ → List ℕ → Type 0
Follows l k = filter (λ x. is_member x k) l ≡ k

-- the members of k come in this order around l
abbrev pub FollowsAround : List ℕ → List ℕ → Type 0
FollowsAround l k = IsTurn (filter (λ x. is_member x k) l) k
