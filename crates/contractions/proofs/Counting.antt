-- Counts of numbers that pass one test and of those that pass another.
use Rattle.std.proofs.Common.{◌≡◌, ◌≢◌, ℕ, ◌+◌, ◌<◌, ◌≤◌, ◌⊎◌, inl, inr, Bool, true, false, not, ◌&&◌, ◌||◌, ◌==◌, cond, refl, sym, ◌∙◌, subst, arith}
use Rattle.std.proofs.lemmas.Bool.{cases_Bool, cases_eq, both_ways, and_from, and_parts, or_cases, or_left, or_right, eq-eqb, ne_eqb, eqb-true, not_from_false}
use Rattle.permutations.specs.Count.{count, some}
use Rattle.permutations.proofs.Count.{count-remove, count-subset, count-zero}
use Rattle.permutations.proofs.Search.{some-witness, some-none}
use Rattle.permutations.proofs.Injection.{count-injection}

-- all numbers that pass p but v pass q, and so do a, and b where it is not v; a and b fail p: so q counts one more
pub count-gained : (n : ℕ) (p q : ℕ → Bool) (a b v : ℕ) → a < n → b < n → p a ≡ false → p b ≡ false → a ≢ b → a ≢ v
    → q a ≡ true → (b ≢ v → q b ≡ true) → ((w : ℕ) → w < n → p w ≡ true → w ≢ v → q w ≡ true) → count n p + 1 ≤ count n q
count-gained n p q a b v la lb pa pb ab av qa qb h = omega (arith, more, less, count-injection n n with_a q moved below passes once)
  where
    with_a : ℕ → Bool
    with_a w = p w || (w == a)

    moved : ℕ → ℕ
    moved w = cond (w == v) b w

    cases : (w : ℕ) → with_a w ≡ true → (p w ≡ true) ⊎ (w ≡ a)
    cases w t = elim (or_cases (p w) (w == a) t) [ inl s ↦ inl s | inr s ↦ inr (eqb-true w a s) ]

    not_b : (w : ℕ) → with_a w ≡ true → w ≢ b
    not_b w t s = elim (cases w t) [ inl c ↦ both_ways (p b) pb (subst (λ (u : ℕ). p u ≡ true) s c) | inr c ↦ ab (sym c ∙ s) ]

    moved-v : (w : ℕ) → w ≡ v → moved w ≡ b
    moved-v w s = rw (eq-eqb w v s) refl

    moved-other : (w : ℕ) → w ≢ v → moved w ≡ w
    moved-other w s = rw (ne_eqb w v s) refl

    below : (w : ℕ) → w < n → with_a w ≡ true → moved w < n
    below w l t = elim (cases_eq w v) [ inl s ↦ subst (λ (u : ℕ). u < n) (sym (moved-v w s)) lb | inr s ↦ subst (λ (u : ℕ). u < n) (sym (moved-other w s)) l ]

    passes : (w : ℕ) → w < n → with_a w ≡ true → q (moved w) ≡ true
    passes w l t = elim (cases_eq w v) [
      | inl s ↦ subst (λ (u : ℕ). q u ≡ true) (sym (moved-v w s)) (qb (λ e. not_b w t (s ∙ sym e)))
      | inr s ↦ subst (λ (u : ℕ). q u ≡ true) (sym (moved-other w s)) (elim (cases w t) [ inl c ↦ h w l c s | inr c ↦ subst (λ (u : ℕ). q u ≡ true) (sym c) qa ])
    ]

    once : (w u : ℕ) → w < n → u < n → with_a w ≡ true → with_a u ≡ true → moved w ≡ moved u → w ≡ u
    once w u l k t r e = elim (cases_eq w v) [
      | inl s ↦ elim (cases_eq u v) [ inl d ↦ s ∙ sym d | inr d ↦ absurd (not_b u r (sym (moved-other u d) ∙ (sym e ∙ moved-v w s))) ]
      | inr s ↦ elim (cases_eq u v) [ inl d ↦ absurd (not_b w t (sym (moved-other w s) ∙ (e ∙ moved-v u d))) | inr d ↦ sym (moved-other w s) ∙ (e ∙ moved-other u d) ]
    ]

    more : count n with_a ≡ count n (λ w. with_a w && not (w == a)) + 1
    more = count-remove n with_a a la (or_right (p a) (a == a) (eq-eqb a a refl))

    less : count n p ≤ count n (λ w. with_a w && not (w == a))
    less = count-subset n p (λ w. with_a w && not (w == a)) (λ w l t. and_from (with_a w) (not (w == a)) (or_left (p w) (w == a) t)
        (not_from_false (w == a) (ne_eqb w a (λ s. both_ways (p a) pa (subst (λ (u : ℕ). p u ≡ true) s t)))))

-- where at most one number passes, it is this one: the number passes, or is not below n
count-one : (n : ℕ) (p : ℕ → Bool) → count n p ≤ 1 → (a : ℕ) × (a < n → p a ≡ true) × ((w : ℕ) → w < n → p w ≡ true → w ≡ a)
count-one n p c = elim (cases_Bool (some n p)) [
  | inr f ↦ (n, λ l. absurd (omega arith), λ w l t. absurd (both_ways (p w) (some-none n p f w l) t))
  | inl t ↦
      let a : (a : ℕ) × (a < n) × (p a ≡ true) = some-witness n p t in (
        a.0,
        λ l. a.2,
        λ w l h. elim (cases_eq w a.0) [
          | inl e ↦ e
          | inr e ↦ absurd (both_ways (p w && not (w == a.0))
              (count-zero n (λ u. p u && not (u == a.0)) (omega (arith, count-remove n p a.0 a.1 a.2)) w l)
              (and_from (p w) (not (w == a.0)) h (not_from_false (w == a.0) (ne_eqb w a.0 e))))
        ],
      )
]

-- where at most two numbers pass, each that passes is one of these two: they pass, or are not below n
pub count-two : (n : ℕ) (p : ℕ → Bool) → count n p ≤ 2 → (a b : ℕ) × (a < n → p a ≡ true) × (b < n → p b ≡ true) × ((w : ℕ) → w < n → p w ≡ true → (w ≡ a) ⊎ (w ≡ b))
count-two n p c = elim (cases_Bool (some n p)) [
  | inr f ↦ (n, n, λ l. absurd (omega arith), λ l. absurd (omega arith), λ w l t. absurd (both_ways (p w) (some-none n p f w l) t))
  | inl t ↦
      let a : (a : ℕ) × (a < n) × (p a ≡ true) = some-witness n p t in
      let b = count-one n (λ w. p w && not (w == a.0)) (omega (arith, count-remove n p a.0 a.1 a.2)) in (
        a.0,
        b.0,
        λ l. a.2,
        λ l. (and_parts (p b.0) (not (b.0 == a.0)) (b.1 l)).0,
        λ w l h. elim (cases_eq w a.0) [ inl e ↦ inl e | inr e ↦ inr (b.2 w l (and_from (p w) (not (w == a.0)) h (not_from_false (w == a.0) (ne_eqb w a.0 e)))) ],
      )
]
