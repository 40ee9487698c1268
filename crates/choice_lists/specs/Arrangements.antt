-- Arrangements in lexicographic order, their ranks in the factorial number system, and the arrangement that follows.
use Rattle.std.specs.Prelude.{◌≡◌, ℕ, zero, suc, ◌+◌, ◌*◌, ◌/◌, ◌%◌, ◌<◌, nat_lt, List, [], ◌∷◌, ◌++◌, length, map, reverse, slice_index_or, All, count_by}
use Rattle.choice_lists.specs.Order.{IsFalling}

-- n factorial
abbrev pub factorial : ℕ → ℕ
factorial zero = 1
factorial (suc n) = (n + 1) * factorial n

-- a branch is a first member and a list of lists that may follow it: all lists that the branches make, branch after branch
abbrev pub branched : {X : Type 0} → List (X × List (List X)) → List (List X)
branched [] = []
branched (b ∷ bs) = map (λ v. b.0 ∷ v) b.1 ++ branched bs

-- each member of the list taken out in its turn, with the others in their order
abbrev pub each_first : List ℕ → List (ℕ × List ℕ)
each_first [] = []
each_first (x ∷ xs) = (x, xs) ∷ map (λ p. (p.0, x ∷ p.1)) (each_first xs)

-- the arrangements of n keys: each key first in its turn, and after it the arrangements of the others
abbrev pub arrangements_of : ℕ → List ℕ → List (List ℕ)
arrangements_of zero keys = [] ∷ []
arrangements_of (suc n) keys = branched (map (λ p. (p.0, arrangements_of n p.1)) (each_first keys))

-- the arrangements of the keys
abbrev pub arrangements : List ℕ → List (List ℕ)
arrangements keys = arrangements_of (length keys) keys

-- the number of an arrangement in the factorial number system: the digit of each member is the number of smaller ones after it
abbrev pub factorial_number : List ℕ → ℕ
factorial_number [] = 0
factorial_number (x ∷ xs) = count_by (λ y. nat_lt y x) xs * factorial (length xs) + factorial_number xs

-- the digits of that number: how many smaller ones are after each member (the Lehmer code)
abbrev pub lehmer_code : List ℕ → List ℕ
lehmer_code [] = []
lehmer_code (x ∷ xs) = count_by (λ y. nat_lt y x) xs ∷ lehmer_code xs

-- the arrangement of n keys that has the number i: the first digit says which key comes first, what is left of i arranges the
-- others
abbrev pub numbered_of : ℕ → List ℕ → ℕ → List ℕ
numbered_of zero keys i = []
numbered_of (suc n) keys i = (slice_index_or (each_first keys) (i / factorial n) (0, [])).0 ∷ numbered_of n (slice_index_or (each_first keys) (i / factorial n) (0, [])).1 (i % factorial n)

-- the arrangement of the keys that has the number i
abbrev pub numbered : List ℕ → ℕ → List ℕ
numbered keys i = numbered_of (length keys) keys i

-- the next arrangement: after x all is decreasing, y is the last there that is greater than x; y takes the place of x, and all
-- after it is put in increasing order
pub record IsNextArrangement (a b : List ℕ) : Type 0 where
  pub front : List ℕ
  pub x : ℕ
  pub upper : List ℕ
  pub y : ℕ
  pub lower : List ℕ
  pub before : a ≡ front ++ x ∷ (upper ++ y ∷ lower)
  pub falls : IsFalling nat_lt (upper ++ y ∷ lower)
  pub greater : x < y
  pub no_later : All (λ z. z < x) lower
  pub after : b ≡ front ++ y ∷ reverse (upper ++ x ∷ lower)
