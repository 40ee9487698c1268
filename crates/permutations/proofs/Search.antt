-- Searching the numbers below a bound: `some` and `least`.
use Rattle.std.proofs.Common.{◌≡◌, ℕ, zero, suc, ◌+◌, ◌<◌, ◌≤◌, inl, inr, Bool, true, false, ◌||◌, refl, sym, ap, ◌∙◌, arith, add-one}
use Rattle.std.proofs.lemmas.Bool.{cases_Bool, cases_eq, cases_lt, both_ways, or_cases, or_parts, true≢false, false_from_ne_true}
use Rattle.permutations.specs.Count.{some, least}

-- a number below n that passes is a witness
pub some-from : (n : ℕ) (p : ℕ → Bool) (x : ℕ) → x < n → p x ≡ true → some n p ≡ true
some-from zero p x l h = absurd (omega arith)
some-from (suc n) p x l h = elim (cases_eq x n) [ inl e ↦ grind (arith, ap p e) | inr ne ↦ grind (arith, some-from n p x (omega arith) h) ]

-- where some number passes, here is one
pub some-witness : (n : ℕ) (p : ℕ → Bool) → some n p ≡ true → (x : ℕ) × (x < n) × (p x ≡ true)
some-witness zero p h = absurd (true≢false (sym h))
some-witness (suc n) p h = elim (or_cases (some n p) (p n) h) [ inl a ↦ let w = some-witness n p a in (w.0, omega (arith, w.1), w.2) | inr b ↦ (n, omega arith, b) ]

-- where none passes, each number below n fails
pub some-none : (n : ℕ) (p : ℕ → Bool) → some n p ≡ false → (x : ℕ) → x < n → p x ≡ false
some-none n p h x l = false_from_ne_true (p x) (λ t. both_ways (some n p) h (some-from n p x l t))

-- where each number below n fails, none passes
pub none-some : (n : ℕ) (p : ℕ → Bool) → ((x : ℕ) → x < n → p x ≡ false) → some n p ≡ false
none-some n p h = false_from_ne_true (some n p) (λ t. let w = some-witness n p t in both_ways (p w.0) (h w.0 w.1) w.2)

-- tests that agree below n are searched alike
pub some-ext : (n : ℕ) (p q : ℕ → Bool) → ((x : ℕ) → x < n → p x ≡ q x) → some n p ≡ some n q
some-ext zero p q h = refl
some-ext (suc n) p q h = grind (arith, some-ext n p q (λ x l. h x (omega arith)), h n (omega arith))

-- a search one number further
pub some-more : (n : ℕ) (p : ℕ → Bool) → some (n + 1) p ≡ (some n p || p n)
some-more n p = rw add-one refl

-- the least that passes is below n where some number passes
pub least-below : (n : ℕ) (p : ℕ → Bool) → some n p ≡ true → least n p < n
least-below zero p h = absurd (true≢false (sym h))
least-below (suc n) p h = elim (cases_Bool (some n p)) [ inl a ↦ rw a (omega (arith, least-below n p a)) | inr b ↦ let e : p n ≡ true = grind arith in rw (b, e) (omega arith) ]

-- the least that passes does pass
pub least-passes : (n : ℕ) (p : ℕ → Bool) → some n p ≡ true → p (least n p) ≡ true
least-passes zero p h = absurd (true≢false (sym h))
least-passes (suc n) p h = elim (cases_Bool (some n p)) [ inl a ↦ rw a (least-passes n p a) | inr b ↦ let e : p n ≡ true = grind arith in rw (b, e) e ]

-- where none passes, the least is n
pub least-none : (n : ℕ) (p : ℕ → Bool) → some n p ≡ false → least n p ≡ n
least-none zero p h = refl
least-none (suc n) p h = let w = or_parts (some n p) (p n) h in rw (w.0, w.1) (omega arith)

-- each number below the least fails
pub least-before : (n : ℕ) (p : ℕ → Bool) (x : ℕ) → x < least n p → p x ≡ false
least-before zero p x l = absurd (omega arith)
least-before (suc n) p x l = elim (cases_Bool (some n p)) [
  | inl a ↦ least-before n p x (rw a at l)
  | inr b ↦ elim (cases_Bool (p n)) [
    | inl t ↦ let k : x < n = rw (b, t) at l in some-none n p b x k
    | inr f ↦ let k : x < n + 1 = rw (b, f) at l in elim (cases_eq x n) [ inl e ↦ ap p e ∙ f | inr ne ↦ some-none n p b x (omega arith) ]
  ]
]

-- a number that passes is no less than the least
pub least-first : (n : ℕ) (p : ℕ → Bool) (x : ℕ) → p x ≡ true → least n p ≤ x
least-first n p x h = elim (cases_lt x (least n p)) [ inl l ↦ absurd (both_ways (p x) (least-before n p x l) h) | inr ge ↦ ge ]

-- the least is the one number below n that passes with none before it
pub least-is : (n : ℕ) (p : ℕ → Bool) (x : ℕ) → x < n → p x ≡ true → ((y : ℕ) → y < x → p y ≡ false) → least n p ≡ x
least-is n p x l h b = elim (cases_lt (least n p) x) [
  | inl k ↦ absurd (both_ways (p (least n p)) (b (least n p) k) (least-passes n p (some-from n p x l h)))
  | inr ge ↦ omega (arith, least-first n p x h)
]

-- tests that agree below n have the same least
pub least-ext : (n : ℕ) (p q : ℕ → Bool) → ((x : ℕ) → x < n → p x ≡ q x) → least n p ≡ least n q
least-ext zero p q h = refl
least-ext (suc n) p q h = rw (least-ext n p q (λ x l. h x (omega arith)), some-ext n p q (λ x l. h x (omega arith)), h n (omega arith)) refl
