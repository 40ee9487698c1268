-- Counting the numbers below a bound that pass a test.
use Rattle.std.proofs.Common.{◌≡◌, ℕ, zero, suc, ◌+◌, ◌<◌, ◌≤◌, inl, inr, Bool, true, false, not, ◌&&◌, ◌==◌, refl, sym, ap, ◌∙◌, arith, add-one, subst}
use Rattle.std.proofs.lemmas.Bool.{cases_Bool, cases_eq, eq-eqb, ne_eqb, false_from_ne_true, cases_lt, both_ways}
use Rattle.permutations.specs.Count.{count}

-- tests that agree below n have one count
pub count-ext : (n : ℕ) (p q : ℕ → Bool) → ((x : ℕ) → x < n → p x ≡ q x) → count n p ≡ count n q
count-ext zero p q h = refl
count-ext (suc n) p q h = rw (count-ext n p q (λ x l. h x (omega arith)), h n (omega arith)) refl

-- one more number, which passes
pub count-yes : (n : ℕ) (p : ℕ → Bool) → p n ≡ true → count (n + 1) p ≡ count n p + 1
count-yes n p h = rw (add-one, h) refl

-- one more number, which fails
pub count-no : (n : ℕ) (p : ℕ → Bool) → p n ≡ false → count (n + 1) p ≡ count n p
count-no n p h = rw (add-one, h) refl

-- those that pass p are those that pass q as well, and those that do not
pub count-split : (n : ℕ) (p q : ℕ → Bool) → count n p ≡ count n (λ x. p x && q x) + count n (λ x. p x && not (q x))
count-split zero p q = refl
count-split (suc n) p q = grind (arith, count-split n p q, cases_Bool (p n), cases_Bool (q n))

-- at most n numbers below n pass
pub count-within : (n : ℕ) (p : ℕ → Bool) → count n p ≤ n
count-within zero p = omega arith
count-within (suc n) p = grind (arith, count-within n p, cases_Bool (p n))

-- where p gives q, q counts at least as many
pub count-subset : (n : ℕ) (p q : ℕ → Bool) → ((x : ℕ) → x < n → p x ≡ true → q x ≡ true) → count n p ≤ count n q
count-subset zero p q h = omega arith
count-subset (suc n) p q h = grind (arith, count-subset n p q (λ x l. h x (omega arith)), h n (omega arith), cases_Bool (p n), cases_Bool (q n))

-- where every number fails, the count is 0
pub count-none : (n : ℕ) (p : ℕ → Bool) → ((x : ℕ) → x < n → p x ≡ false) → count n p ≡ 0
count-none zero p h = refl
count-none (suc n) p h = rw (h n (omega arith)) (count-none n p (λ x l. h x (omega arith)))

-- where every number passes, the count is n
pub count-all : (n : ℕ) (p : ℕ → Bool) → ((x : ℕ) → x < n → p x ≡ true) → count n p ≡ n
count-all zero p h = refl
count-all (suc n) p h = rw (h n (omega arith)) (omega (arith, count-all n p (λ x l. h x (omega arith))))

-- a number that passes is counted
pub count-positive : (n : ℕ) (p : ℕ → Bool) (x : ℕ) → x < n → p x ≡ true → 0 < count n p
count-positive zero p x l h = absurd (omega arith)
count-positive (suc n) p x l h = elim (cases_eq x n) [ inl e ↦ let t : p n ≡ true = ap p (sym e) ∙ h in rw t (omega arith) | inr ne ↦ grind (arith, count-positive n p x (omega arith) h, cases_Bool (p n)) ]

-- where the count is 0, every number fails
pub count-zero : (n : ℕ) (p : ℕ → Bool) → count n p ≡ 0 → (x : ℕ) → x < n → p x ≡ false
count-zero n p e x l = false_from_ne_true (p x) (λ t. let w : 0 < count n p = count-positive n p x l t in absurd (omega arith))

-- where p gives q and q counts no more than p, the two agree
pub count-same : (n : ℕ) (p q : ℕ → Bool) → ((x : ℕ) → x < n → p x ≡ true → q x ≡ true) → count n q ≤ count n p → (x : ℕ) → x < n → p x ≡ q x
count-same n p q h c x l = grind (arith, z, h x l, cases_Bool (p x), cases_Bool (q x))
  where
    s : count n q ≡ count n (λ y. q y && p y) + count n (λ y. q y && not (p y))
    s = count-split n q p

    m : count n p ≡ count n (λ y. q y && p y)
    m = count-ext n p (λ y. q y && p y) (λ y k. grind (arith, h y k, cases_Bool (p y)))

    z : (q x && not (p x)) ≡ false
    z = count-zero n (λ y. q y && not (p y)) (omega (arith, s, m)) x l

-- exactly one number below n equals y
pub count-single : (n y : ℕ) → y < n → count n (λ x. x == y) ≡ 1
count-single zero y l = absurd (omega arith)
count-single (suc n) y l = elim (cases_eq n y) [
  | inl e ↦ rw (eq-eqb n y e) (omega (arith, count-none n (λ x. x == y) (λ x k. ne_eqb x y (λ d. omega arith))))
  | inr ne ↦ rw (ne_eqb n y ne) (count-single n y (omega arith))
]

-- one member fewer: all those that pass but y
pub count-remove : (n : ℕ) (q : ℕ → Bool) (y : ℕ) → y < n → q y ≡ true → count n q ≡ count n (λ x. q x && not (x == y)) + 1
count-remove n q y l h = omega (arith, count-split n q (λ x. x == y), e, count-single n y l)
  where
    e : count n (λ x. q x && (x == y)) ≡ count n (λ x. x == y)
    e = count-ext n (λ x. q x && (x == y)) (λ x. x == y) (λ x k. elim (cases_eq x y) [ inl d ↦ let t : q x ≡ true = ap q d ∙ h in rw t refl | inr ne ↦ rw (ne_eqb x y ne) (grind (arith, cases_Bool (q x))) ])

-- a test that passes less, and fails a number that the other passes, passes fewer
pub count-less : (n : ℕ) (p q : ℕ → Bool) (y : ℕ) → ((x : ℕ) → x < n → p x ≡ true → q x ≡ true) → y < n → p y ≡ false → q y ≡ true → count n p < count n q
count-less n p q y s l f h = elim (cases_lt (count n p) (count n q)) [
  | inl b ↦ b
  | inr b ↦ absurd (both_ways (p y) f (count-same n p q s b y l ∙ h))
]

-- the last number that passes, and how many pass before it
pub last-passing : (n : ℕ) (p : ℕ → Bool) → 1 ≤ count n p → (c : ℕ) × (c < n) × (p c ≡ true) × (count c p + 1 ≡ count n p)
last-passing zero p l = absurd (omega (arith, l))
last-passing (suc n) p l = elim (cases_Bool (p n)) [
  | inl t ↦ (n, omega arith, t, rw t refl)
  | inr f ↦ further f (last-passing n p (subst (λ k. 1 ≤ k) (same f) l))
]
  where
    same : p n ≡ false → count (suc n) p ≡ count n p
    same f = rw f refl

    further : p n ≡ false → ((c : ℕ) × (c < n) × (p c ≡ true) × (count c p + 1 ≡ count n p)) → (c : ℕ) × (c < suc n) × (p c ≡ true) × (count c p + 1 ≡ count (suc n) p)
    further f w = (w.0, omega (arith, w.1), w.2, w.3 ∙ sym (same f))
