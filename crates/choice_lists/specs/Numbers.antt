-- Numbers in a mixed radix, and products within a bound.
use Rattle.std.specs.Prelude.{ℕ, zero, suc, ◌+◌, ◌*◌, ◌/◌, ◌%◌, ◌<◌, nat_lt, if◌then◌else◌, List, [], ◌∷◌, Option, Some, None}
use Rattle.choice_lists.specs.Products.{product_of}

-- the number with these digits: each digit counts the product of the radices after it
abbrev pub radix_number : List ℕ → List ℕ → ℕ
radix_number [] ds = 0
radix_number (r ∷ rs) [] = 0
radix_number (r ∷ rs) (d ∷ ds) = d * product_of rs + radix_number rs ds

-- each digit is below its radix, and there are as many
abbrev pub AreDigitsBelow : List ℕ → List ℕ → Type 0
AreDigitsBelow [] [] = Unit {0}
AreDigitsBelow (r ∷ rs) (d ∷ ds) = (d < r) × AreDigitsBelow rs ds
AreDigitsBelow rs ds = ⊥

-- the digits of a number
abbrev pub digits_of : List ℕ → ℕ → List ℕ
digits_of [] n = []
digits_of (r ∷ rs) n = n / product_of rs ∷ digits_of rs (n % product_of rs)

-- one digit after the other: what there is so far times the radix, and the digit
abbrev pub horner : ℕ → List ℕ → List ℕ → ℕ
horner n [] ds = n
horner n (r ∷ rs) [] = n
horner n (r ∷ rs) (d ∷ ds) = horner (n * r + d) rs ds

-- one factor after the other, as long as the product is below the limit; None where it is not
abbrev pub product_below : ℕ → ℕ → List ℕ → Option ℕ
product_below limit n [] = Some n
product_below limit n (f ∷ fs) = (if nat_lt (n * f) limit then product_below limit (n * f) fs else None)

-- the numbers 1 to n
abbrev pub from_one_to : ℕ → List ℕ
from_one_to zero = []
from_one_to (suc n) = (n + 1) ∷ from_one_to n
