-- Places of numbers in a rising list.
use Rattle.std.proofs.Common.{◌≡◌, ◌≢◌, ℕ, zero, suc, ◌<◌, ◌≤◌, List, length, get_or, None, Some, Err, refl, ap, inl, inr, arith}
use Rattle.std.specs.List.Sorted.{IsBinarySearchResult}
use Rattle.std.specs.Ordering.{nat_cmp}
use Rattle.std.proofs.lemmas.Bool.{cases_lt, cases_eq, cases_order}
use Rattle.std.proofs.lemmas.List.Sorted.{searched}
use Rattle.multigraph.specs.Part.{Rises, IsPlace}

-- along a rising list no number falls
rises-weak : (l : List ℕ) → Rises l → (i j : ℕ) → i ≤ j → j < length l → get_or l i 0 ≤ get_or l j 0
rises-weak l r i j le lt = elim (cases_eq i j) [
  | inl e ↦ omega (arith, ap (λ (k : ℕ). get_or l k 0) e)
  | inr n ↦ omega (arith, r i j (omega arith) lt)
]

-- in a rising list no number stands twice
pub rises-once : (l : List ℕ) → Rises l → (i j : ℕ) → i < length l → j < length l → get_or l i 0 ≡ get_or l j 0 → i ≡ j
rises-once l r i j li lj e = elim (cases_order i j) [
  | inl same ↦ same
  | inr apart ↦ elim apart [
    | inl less ↦ absurd (omega (arith, r i j less lj))
    | inr more ↦ absurd (omega (arith, r j i more li))
  ]
]

-- the number at a place is at least the place
rises-least : (l : List ℕ) → Rises l → (i : ℕ) → i < length l → i ≤ get_or l i 0
rises-least l r zero lt = omega arith
rises-least l r (suc i) lt = omega (arith, rises-least l r i (omega arith), r i (suc i) (omega arith) lt)

-- a rising list of numbers below n has at most n
pub rises-short : (l : List ℕ) (n : ℕ) → Rises l → ((i : ℕ) → i < length l → get_or l i 0 < n) → length l ≤ n
rises-short l n r below = elim (cases_lt n (length l)) [
  | inl more ↦ absurd (omega (arith, rises-least l r n more, below n more))
  | inr few ↦ omega arith
]

-- the number stands nowhere
pub place-none : (l : List ℕ) (x : ℕ) → ((i : ℕ) → i < length l → get_or l i 0 ≢ x) → IsPlace l x None
place-none l x off = record {
  some = λ j. (λ (s : None ≡ Some j). absurd (cc), λ w. absurd (off j w.0 w.1));
  none = (λ s. off, λ h. refl);
}

-- a binary search that ends beside the number: it stands nowhere
pub place-missed : (l : List ℕ) (x i : ℕ) → Rises l → IsBinarySearchResult (λ y. nat_cmp y x) l (Err i) → IsPlace l x None
place-missed l x i r h =
    let s = searched l x (Err i) h (rises-weak l r) in
    place-none l x (λ k lt e. elim (cases_lt k i) [
      | inl below ↦ omega (arith, s.1 k below)
      | inr above ↦ omega (arith, s.2 k (omega arith) lt)
    ])
