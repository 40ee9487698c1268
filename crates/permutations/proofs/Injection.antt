-- Counts under injections and bijections, and the pigeonhole principle by search.
use Rattle.std.proofs.Common.{◌≡◌, ℕ, zero, suc, ◌+◌, ◌<◌, ◌≤◌, inl, inr, Bool, true, false, not, ◌&&◌, ◌==◌, refl, sym, ap, ◌∙◌, arith}
use Rattle.std.proofs.lemmas.Bool.{cases_Bool, cases_lt, both_ways, eq-eqb, ne_eqb, eqb-true}
use Rattle.permutations.specs.Count.{count, some}
use Rattle.permutations.proofs.Count.{count-remove, count-all, count-within}
use Rattle.permutations.proofs.Search.{some-witness, some-none}

-- an injection of the numbers that pass p into those that pass q: q counts at least as many
pub count-injection : (n m : ℕ) (p q : ℕ → Bool) (f : ℕ → ℕ)
    → ((x : ℕ) → x < n → p x ≡ true → f x < m)
    → ((x : ℕ) → x < n → p x ≡ true → q (f x) ≡ true)
    → ((x y : ℕ) → x < n → y < n → p x ≡ true → p y ≡ true → f x ≡ f y → x ≡ y)
    → count n p ≤ count m q
count-injection zero m p q f b k i = omega arith
count-injection (suc n) m p q f b k i = elim (cases_Bool (p n)) [
  | inr e ↦ rw e (count-injection n m p q f (λ x l. b x (omega arith)) (λ x l. k x (omega arith)) (λ x y l w. i x y (omega arith) (omega arith)))
  | inl e ↦
      let r : count m q ≡ count m (λ z. q z && not (z == f n)) + 1 = count-remove m q (f n) (b n (omega arith) e) (k n (omega arith) e) in
      let h : count n p ≤ count m (λ z. q z && not (z == f n)) = count-injection n m p (λ z. q z && not (z == f n)) f
      (λ x l. b x (omega arith))
      (λ x l t. let ne : (f x == f n) ≡ false = ne_eqb (f x) (f n) (λ d. let s : x ≡ n = i x n (omega arith) (omega arith) t e d in omega arith) in rw (k x (omega arith) t, ne) refl)
      (λ x y l w. i x y (omega arith) (omega arith)) in
      rw e (omega arith)
]

-- injections both ways: the two counts are equal
pub count-injections : (n m : ℕ) (p q : ℕ → Bool) (f g : ℕ → ℕ)
    → ((x : ℕ) → x < n → p x ≡ true → f x < m)
    → ((x : ℕ) → x < n → p x ≡ true → q (f x) ≡ true)
    → ((x y : ℕ) → x < n → y < n → p x ≡ true → p y ≡ true → f x ≡ f y → x ≡ y)
    → ((y : ℕ) → y < m → q y ≡ true → g y < n)
    → ((y : ℕ) → y < m → q y ≡ true → p (g y) ≡ true)
    → ((x y : ℕ) → x < m → y < m → q x ≡ true → q y ≡ true → g x ≡ g y → x ≡ y)
    → count n p ≡ count m q
count-injections n m p q f g a b c d e k = omega (arith, count-injection n m p q f a b c, count-injection m n q p g d e k)

-- f and g carry the numbers that pass p to those that pass q and back, and invert each other: the two counts are equal
pub count-bijection : (n m : ℕ) (p q : ℕ → Bool) (f g : ℕ → ℕ)
    → ((x : ℕ) → x < n → p x ≡ true → f x < m)
    → ((x : ℕ) → x < n → p x ≡ true → q (f x) ≡ true)
    → ((x : ℕ) → x < n → p x ≡ true → g (f x) ≡ x)
    → ((y : ℕ) → y < m → q y ≡ true → g y < n)
    → ((y : ℕ) → y < m → q y ≡ true → p (g y) ≡ true)
    → ((y : ℕ) → y < m → q y ≡ true → f (g y) ≡ y)
    → count n p ≡ count m q
count-bijection n m p q f g a b c d e k = count-injections n m p q f g
    a b (λ x y l w s t r. sym (c x l s) ∙ ap g r ∙ c y w t)
    d e (λ x y l w s t r. sym (k x l s) ∙ ap f r ∙ k y w t)

-- of n + 1 numbers below n two are equal, at places found by search
pub pigeonhole : (n : ℕ) (f : ℕ → ℕ) → ((x : ℕ) → x < n + 1 → f x < n) → (i j : ℕ) × (i < j) × (j < n + 1) × (f i ≡ f j)
pigeonhole n f b = elim (cases_Bool (some (n + 1) again)) [
  | inl t ↦
      let w : (j : ℕ) × (j < n + 1) × (again j ≡ true) = some-witness (n + 1) again t in
      let v : (i : ℕ) × (i < w.0) × ((f i == f w.0) ≡ true) = some-witness w.0 (λ i. f i == f w.0) w.2 in
      (v.0, w.0, v.1, w.1, eqb-true (f v.0) (f w.0) v.2)
  | inr e ↦ absurd (clash e)
]
  where
    again : ℕ → Bool
    again j = some j (λ i. f i == f j)

    apart : some (n + 1) again ≡ false → (i j : ℕ) → i < j → j < n + 1 → f i ≡ f j → ⊥
    apart e i j l k d = both_ways (f i == f j) (some-none j (λ x. f x == f j) (some-none (n + 1) again e j k) i l) (eq-eqb (f i) (f j) d)

    clash : some (n + 1) again ≡ false → ⊥
    clash e = let le : count (n + 1) (λ x. true) ≤ count n (λ x. true) = count-injection (n + 1) n (λ x. true) (λ x. true) f (λ x l t. b x l) (λ x l t. refl)
        (λ x y l k s t d. elim (cases_lt x y) [ inl w ↦ absurd (apart e x y w k d) | inr ge ↦ elim (cases_lt y x) [ inl w ↦ absurd (apart e y x w l (sym d)) | inr ge2 ↦ omega arith ] ]) in
        omega (arith, count-all (n + 1) (λ x. true) (λ x l. refl), count-within n (λ x. true))
