-- Numbers each once, and the ranks of numbers among them.
use Rattle.std.proofs.Common.{◌≡◌, ℕ, suc, ◌+◌, ◌<◌, ◌≤◌, ◌↔◌, inl, inr, eqb, List, [], ◌∷◌, ◌++◌, length, slice_index, sym, ap, subst, arith, Contains, IsPermutation}
use Rattle.std.specs.List.{dedup, dedup_from}
use Rattle.std.specs.List.Retain.{IsFiltered, DiffersFromLast}
use Rattle.std.proofs.lemmas.Bool.{cases_Bool}
use Rattle.std.proofs.lemmas.List.Filters.{dedup_is}
use Rattle.std.proofs.lemmas.List.Kept.{Contains-from_dedup, Contains-dedup_nat}
use Rattle.std.proofs.lemmas.List.Sorted.{Contains-permutation, IsPermutation-sym, length_permutation}
use Rattle.std.proofs.lemmas.List.Elements.{Contains-get_or}

-- sorted, and each once, numbers are the same ones
pub once-same : (numbers sorted once : List ℕ) → IsPermutation numbers sorted → IsFiltered (DiffersFromLast eqb) [] sorted once → (x : ℕ) → Contains once x ↔ Contains numbers x
once-same numbers sorted once p f x = subst (λ (l : List ℕ). Contains l x ↔ Contains numbers x) (sym (dedup_is eqb sorted once f)) (
  λ c. Contains-permutation sorted numbers x (IsPermutation-sym numbers sorted p) (Contains-from_dedup eqb sorted x c),
  λ c. Contains-dedup_nat sorted x (Contains-permutation numbers sorted x p c),
)

from-short : (x : ℕ) (xs : List ℕ) → length (dedup_from eqb x xs) ≤ suc (length xs)
from-short x [] = omega arith
from-short x (y ∷ ys) = elim (cases_Bool (eqb y x)) [
  | inl t ↦ rw t (omega (arith, from-short x ys))
  | inr f ↦ rw f (omega (arith, from-short y ys))
]

-- and not more
pub once-short : (numbers sorted once : List ℕ) → IsPermutation numbers sorted → IsFiltered (DiffersFromLast eqb) [] sorted once → length once ≤ length numbers
once-short numbers sorted once p f = omega (arith, ap length (dedup_is eqb sorted once f), short sorted, length_permutation numbers sorted p)
  where
    short : (l : List ℕ) → length (dedup eqb l) ≤ length l
    short [] = omega arith
    short (x ∷ xs) = omega (arith, from-short x xs)

-- no rank yet, and one more: the first ranks are the places of the first numbers
pub record AreRanksTo (list numbers ranks : List ℕ) (n : ℕ) : Type 0 where
  pub each : length ranks ≡ n
  pub is : (p : ℕ) → p < n → (slice_index ranks p < length list) × (slice_index list (slice_index ranks p) ≡ slice_index numbers p)

-- a number of the list is in it
pub number-there : (numbers list : List ℕ) (i : ℕ) → ((x : ℕ) → Contains list x ↔ Contains numbers x) → i < length numbers → Contains list (slice_index numbers i)
number-there numbers list i same l = (same (slice_index numbers i)).1 (Contains-get_or numbers i 0 l)
