-- Numbers that are none of a short list.
use Rattle.std.proofs.Common.{◌≡◌, ◌≢◌, ℕ, ◌+◌, ◌<◌, ◌≤◌, inl, inr, true, false, not, ◌&&◌, ◌==◌, List, [], ◌∷◌, length, refl, sym, arith}
use Rattle.std.proofs.lemmas.Bool.{cases_Bool, cases_lt, and_parts, both_ways, eq-eqb, ne_eqb, not-true, not-false}
use Rattle.permutations.specs.Count.{count, some}
use Rattle.permutations.specs.Members.{is_member}
use Rattle.permutations.proofs.Count.{count-split, count-all, count-none, count-subset, count-single}
use Rattle.permutations.proofs.Members.{no_member-head, no_member-tail, no_member-cons, member-cases}
use Rattle.permutations.proofs.Search.{some-witness, some-none}

-- who is none of two is none of their list
pub out-two : (a b v : ℕ) → a ≢ v → b ≢ v → is_member v (a ∷ b ∷ []) ≡ false
out-two a b v m n = no_member-cons v a (b ∷ []) m (no_member-cons v b [] n refl)

-- who is none of three is none of their list
pub out-three : (a b c v : ℕ) → a ≢ v → b ≢ v → c ≢ v → is_member v (a ∷ b ∷ c ∷ []) ≡ false
out-three a b c v m n o = no_member-cons v a (b ∷ c ∷ []) m (out-two b c v n o)

-- who is none of a list of two is neither
pub two-out : (a b v : ℕ) → is_member v (a ∷ b ∷ []) ≡ false → (a ≢ v) × (b ≢ v)
two-out a b v h = (no_member-head v a (b ∷ []) h, no_member-head v b [] (no_member-tail v a (b ∷ []) h))

-- who is none of a list of three is neither of them
pub three-out : (a b c v : ℕ) → is_member v (a ∷ b ∷ c ∷ []) ≡ false → (a ≢ v) × (b ≢ v) × (c ≢ v)
three-out a b c v h = let w = two-out b c v (no_member-tail v a (b ∷ c ∷ []) h) in (no_member-head v a (b ∷ c ∷ []) h, w.0, w.1)

-- no more numbers are members of a list than it is long
members-within : (n : ℕ) (xs : List ℕ) → count n (λ w. is_member w xs) ≤ length xs
members-within n [] = omega (arith, count-none n (λ w. false) (λ w l. refl))
members-within n (y ∷ xs) = omega (arith, members-within n xs, split, rest, first)
  where
    split : count n (λ w. is_member w (y ∷ xs)) ≡ count n (λ w. is_member w (y ∷ xs) && (w == y)) + count n (λ w. is_member w (y ∷ xs) && not (w == y))
    split = count-split n (λ w. is_member w (y ∷ xs)) (λ w. w == y)

    rest : count n (λ w. is_member w (y ∷ xs) && not (w == y)) ≤ count n (λ w. is_member w xs)
    rest = count-subset n (λ w. is_member w (y ∷ xs) && not (w == y)) (λ w. is_member w xs) (λ w l h. other w (and_parts (is_member w (y ∷ xs)) (not (w == y)) h))
      where
        other : (w : ℕ) → (is_member w (y ∷ xs) ≡ true) × (not (w == y) ≡ true) → is_member w xs ≡ true
        other w p = elim (member-cases w y xs p.0) [ inl e ↦ absurd (both_ways (w == y) (not-true (w == y) p.1) (eq-eqb w y (sym e))) | inr m ↦ m ]

    single : count n (λ w. w == y) ≤ 1
    single = elim (cases_lt y n) [
      | inl l ↦ omega (arith, count-single n y l)
      | inr ge ↦ omega (arith, count-none n (λ w. w == y) (λ w l. ne_eqb w y (λ e. omega arith)))
    ]

    first : count n (λ w. is_member w (y ∷ xs) && (w == y)) ≤ 1
    first = omega (arith, single, count-subset n (λ w. is_member w (y ∷ xs) && (w == y)) (λ w. w == y) (λ w l h. (and_parts (is_member w (y ∷ xs)) (w == y) h).1))

-- of more numbers than a list is long one is no member
pub outside : (n : ℕ) (xs : List ℕ) → length xs < n → (w : ℕ) × (w < n) × (is_member w xs ≡ false)
outside n xs l = elim (cases_Bool (some n (λ w. not (is_member w xs)))) [
  | inl t ↦ let r = some-witness n (λ w. not (is_member w xs)) t in (r.0, r.1, not-true (is_member r.0 xs) r.2)
  | inr f ↦ absurd (omega (arith, members-within n xs, count-all n (λ w. is_member w xs) (λ w k. not-false (is_member w xs) (some-none n (λ w. not (is_member w xs)) f w k))))
]
