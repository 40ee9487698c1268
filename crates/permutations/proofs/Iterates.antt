-- Iterates of a permutation: what is reached, and the return.
use Rattle.std.proofs.Common.{◌≡◌, ℕ, zero, suc, ◌+◌, ◌-◌, ◌<◌, ◌≤◌, inl, inr, Bool, true, false, ◌==◌, refl, sym, ap, ◌∙◌, subst, arith, add-one, eqb-true, eq-eqb}
use Rattle.std.proofs.lemmas.Bool.{eqb-false, cases_Bool, cases_lt, cases_order}
use Rattle.permutations.specs.Count.{count, some}
use Rattle.permutations.specs.Permutation.{Permutes, same_orbit, iterate, reaches}
use Rattle.permutations.proofs.Count.{count-all}
use Rattle.permutations.proofs.Injection.{count-injection}
use Rattle.permutations.proofs.Search.{some-from, some-witness, some-none}
use Rattle.permutations.proofs.Relation.{same-tests}
use Rattle.permutations.proofs.Permutations.{permutes-one-to-one}
use Rattle.permutations.proofs.Orbits.{orbit-equivalence, orbit-step, orbit-kept}

-- iterates of a permutation stay below n
pub iterate-below : (n : ℕ) (f g : ℕ → ℕ) → Permutes n f g → (k x : ℕ) → x < n → iterate f k x < n
iterate-below n f g b zero x l = l
iterate-below n f g b (suc k) x l = b.forth (iterate f k x) (iterate-below n f g b k x l)

-- the step after k steps
pub iterate-more : (f : ℕ → ℕ) (k x : ℕ) → iterate f (k + 1) x ≡ f (iterate f k x)
iterate-more f k x = ap (λ (j : ℕ). iterate f j x) (add-one k)

-- j steps after k steps
pub iterate-sum : (f : ℕ → ℕ) (j k x : ℕ) → iterate f (j + k) x ≡ iterate f j (iterate f k x)
iterate-sum f zero k x = ap (λ (i : ℕ). iterate f i x) (omega arith)
iterate-sum f (suc j) k x = let e : suc j + k ≡ suc (j + k) = omega arith in ap (λ (i : ℕ). iterate f i x) e ∙ ap f (iterate-sum f j k x)

-- the first step first
pub iterate-first : (f : ℕ → ℕ) (k x : ℕ) → iterate f (k + 1) x ≡ iterate f k (f x)
iterate-first f k x = iterate-sum f k 1 x

-- the same steps lead from different numbers to different numbers
pub iterate-cancel : (n : ℕ) (f g : ℕ → ℕ) → Permutes n f g → (k x y : ℕ) → x < n → y < n → iterate f k x ≡ iterate f k y → x ≡ y
iterate-cancel n f g b zero x y l m e = e
iterate-cancel n f g b (suc k) x y l m e = iterate-cancel n f g b k x y l m (permutes-one-to-one n f g b (iterate f k x) (iterate f k y) (iterate-below n f g b k x l) (iterate-below n f g b k y m) e)

-- functions that agree below n have the same iterates
pub iterate-ext : (n : ℕ) (f h : ℕ → ℕ) → ((x : ℕ) → x < n → f x < n) → ((x : ℕ) → x < n → f x ≡ h x) → (k x : ℕ) → x < n → (iterate f k x ≡ iterate h k x) × (iterate f k x < n)
iterate-ext n f h b s zero x l = (refl, l)
iterate-ext n f h b s (suc k) x l = let w = iterate-ext n f h b s k x l in (s (iterate f k x) w.1 ∙ ap h w.0, b (iterate f k x) w.1)

-- two iterates of x that are equal tell how many steps lead from x back to x
pub iterate-between : (n : ℕ) (f g : ℕ → ℕ) → Permutes n f g → (x : ℕ) → x < n → (i d : ℕ) → iterate f i x ≡ iterate f (i + d) x → iterate f d x ≡ x
iterate-between n f g b x l i d e = sym (iterate-cancel n f g b i x (iterate f d x) l (iterate-below n f g b d x l) (e ∙ iterate-sum f i d x))

-- whether some positive number of steps, at most n, leads back to x
returns : ℕ → (ℕ → ℕ) → ℕ → Bool
returns n f x = some n (λ k. iterate f (suc k) x == x)

-- at most n steps of a permutation lead back to where it began
pub period : (n : ℕ) (f g : ℕ → ℕ) → Permutes n f g → (x : ℕ) → x < n → (k : ℕ) × (0 < k) × (k ≤ n) × (iterate f k x ≡ x)
unfolding returns
period n f g b x l = elim (cases_Bool (returns n f x)) [
  | inl t ↦ let w = some-witness n (λ k. iterate f (suc k) x == x) t in (suc (w.0), omega arith, w.1, eqb-true (iterate f (suc (w.0)) x) x w.2)
  | inr u ↦ absurd (crowded u)
]
  where
    apart : returns n f x ≡ false → (i d : ℕ) → i + suc d ≤ n → iterate f i x ≡ iterate f (i + suc d) x → ⊥
    apart u i d m e = eqb-false (iterate f (suc d) x) x (some-none n (λ k. iterate f (suc k) x == x) u d (omega arith)) (iterate-between n f g b x l i (suc d) e)

    ordered : returns n f x ≡ false → (i j : ℕ) → i < j → j ≤ n → iterate f i x ≡ iterate f j x → ⊥
    ordered u i j a c e = let d : i + suc (j - suc i) ≡ j = omega arith in apart u i (j - suc i) (omega arith) (e ∙ ap (λ (k : ℕ). iterate f k x) (sym d))

    different : returns n f x ≡ false → (i j : ℕ) → i < n + 1 → j < n + 1 → true ≡ true → true ≡ true → iterate f i x ≡ iterate f j x → i ≡ j
    different u i j a c s t e = elim (cases_order i j) [
      | inl q ↦ q
      | inr r ↦ elim r [ inl q ↦ absurd (ordered u i j q (omega arith) e) | inr q ↦ absurd (ordered u j i q (omega arith) (sym e)) ]
    ]

    crowded : returns n f x ≡ false → ⊥
    crowded u = let c : count (n + 1) (λ (k : ℕ). true) ≤ count n (λ (k : ℕ). true) = count-injection (n + 1) n (λ k. true) (λ k. true) (λ k. iterate f k x) (λ k a t. iterate-below n f g b k x l) (λ k a t. refl) (different u) in
        absurd (omega (arith, count-all (n + 1) (λ k. true) (λ k a. refl), count-all n (λ k. true) (λ k a. refl)))

-- what is reached in some steps is in the orbit
pub iterate-orbit : (n : ℕ) (f g : ℕ → ℕ) → Permutes n f g → (k x : ℕ) → x < n → same_orbit n f x (iterate f k x) ≡ true
iterate-orbit n f g b zero x l = (orbit-equivalence n f).reflexive x
iterate-orbit n f g b (suc k) x l = (orbit-equivalence n f).transitive x (iterate f k x) (f (iterate f k x)) (iterate-orbit n f g b k x l) (orbit-step n f (iterate f k x) (iterate-below n f g b k x l))

-- what fewer than n steps reach, as a test
pub reaches-from : (n : ℕ) (f : ℕ → ℕ) (k x : ℕ) → k < n → reaches n f x (iterate f k x) ≡ true
reaches-from n f k x l = some-from n (λ j. iterate f j x == iterate f k x) k l (eq-eqb (iterate f k x) (iterate f k x) refl)

-- and the number of steps, from the test
pub reaches-steps : (n : ℕ) (f : ℕ → ℕ) (x y : ℕ) → reaches n f x y ≡ true → (k : ℕ) × (k < n) × (iterate f k x ≡ y)
reaches-steps n f x y t = let w = some-witness n (λ j. iterate f j x == y) t in (w.0, w.1, eqb-true (iterate f (w.0) x) y w.2)

-- what is reached in any number of steps is reached in fewer than n: one step more
reaches-step : (n : ℕ) (f g : ℕ → ℕ) → Permutes n f g → (x : ℕ) → x < n → (y : ℕ) → reaches n f x y ≡ true → reaches n f x (f y) ≡ true
reaches-step n f g b x l y t = elim (cases_lt (suc (w.0)) n) [
  | inl m ↦ subst (λ (z : ℕ). reaches n f x z ≡ true) (ap f w.2) (reaches-from n f (suc (w.0)) x m)
  | inr m ↦ subst (λ (z : ℕ). reaches n f x z ≡ true) (again m) (reaches-from n f (n - p.0) x (omega (arith, p.1, p.2)))
]
  where
    w : (k : ℕ) × (k < n) × (iterate f k x ≡ y)
    w = reaches-steps n f x y t

    p : (k : ℕ) × (0 < k) × (k ≤ n) × (iterate f k x ≡ x)
    p = period n f g b x l

    again : n ≤ suc (w.0) → iterate f (n - p.0) x ≡ f y
    again m = let e : (n - p.0) + p.0 ≡ suc (w.0) = omega (arith, p.1, p.2, w.1) in ap (iterate f (n - p.0)) (sym (p.3)) ∙ sym (iterate-sum f (n - p.0) (p.0) x) ∙ ap (λ (k : ℕ). iterate f k x) e ∙ ap f w.2

-- an orbit is what fewer than n steps reach
pub orbit-reaches : (n : ℕ) (f g : ℕ → ℕ) → Permutes n f g → (x y : ℕ) → x < n → same_orbit n f x y ≡ reaches n f x y
orbit-reaches n f g b x y l = same-tests (same_orbit n f x y) (reaches n f x y)
    (λ t. sym (orbit-kept n f g b (reaches n f x) (λ z k h. reaches-step n f g b x l z h) x y t) ∙ reaches-from n f 0 x (omega arith))
    (λ t. let w = reaches-steps n f x y t in subst (λ (z : ℕ). same_orbit n f x z ≡ true) w.2 (iterate-orbit n f g b w.0 x l))

-- in one orbit: the number of steps from the one to the other
pub orbit-steps : (n : ℕ) (f g : ℕ → ℕ) → Permutes n f g → (x y : ℕ) → x < n → same_orbit n f x y ≡ true → (k : ℕ) × (k < n) × (iterate f k x ≡ y)
orbit-steps n f g b x y l t = reaches-steps n f x y (sym (orbit-reaches n f g b x y l) ∙ t)
