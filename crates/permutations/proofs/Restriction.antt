-- A permutation on the numbers that pass a test: each goes on to the next of them.
use Rattle.std.proofs.Common.{◌≡◌, ℕ, zero, suc, ◌+◌, ◌-◌, ◌<◌, ◌≤◌, inl, inr, Bool, true, false, ◌||◌, leb, refl, sym, ap, ◌∙◌, subst, arith, le-leb, leb-true, leb-false}
use Rattle.std.proofs.lemmas.Bool.{false_from_ne_true, cases_Bool, cases_eq, cases_lt, cases_order, both_ways, true_from_ne_false, lt-leb, or_cases, or_parts}
use Rattle.permutations.specs.Count.{least}
use Rattle.permutations.specs.Permutation.{Permutes, same_orbit, iterate}
use Rattle.permutations.specs.Exchange.{unlink, taken_out, restricted}
use Rattle.permutations.proofs.Search.{least-is}
use Rattle.permutations.proofs.Relation.{same-tests}
use Rattle.permutations.proofs.Permutations.{permutes-inverse, permutes-ext, permutes-one-to-one}
use Rattle.permutations.proofs.Orbits.{orbit-ext}
use Rattle.permutations.proofs.Iterates.{iterate-first, iterate-more, iterate-sum, iterate-below, period}
use Rattle.permutations.proofs.Unlinking.{unlink-cases}
use Rattle.permutations.proofs.TakenOut.{taken-out-one, taken-out-none, taken-out-permutes, taken-out-alone, taken-out-orbit}

-- a positive number of steps of f lead from x to y, y passes the test, and all between fail
abbrev pub GoesOn : (ℕ → Bool) → (ℕ → ℕ) → ℕ → ℕ → Type 0
GoesOn stay f x y = (j : ℕ) × (y ≡ iterate f (suc j) x) × (stay y ≡ true) × ((i : ℕ) → i < j → stay (iterate f (suc i) x) ≡ false)

-- a walk that does not end at k, when k fails the test from now on
goes-same : (stay after : ℕ → Bool) (k : ℕ) → ((z : ℕ) → stay z ≡ false → after z ≡ false) → ((z : ℕ) → stay z ≡ true → (z ≡ k → ⊥) → after z ≡ true) → (f : ℕ → ℕ) (x y : ℕ) → (y ≡ k → ⊥) → GoesOn stay f x y → GoesOn after f x y
goes-same stay after k less more f x y a w = (w.0, w.1, more y w.2 a, λ i l. less (iterate f (suc i) x) (w.3 i l))

-- a walk to k and one from k on, when k fails the test from now on
goes-past : (stay after : ℕ → Bool) (k : ℕ) → ((z : ℕ) → stay z ≡ false → after z ≡ false) → ((z : ℕ) → stay z ≡ true → (z ≡ k → ⊥) → after z ≡ true) → after k ≡ false → (f : ℕ → ℕ) (x y : ℕ) → (y ≡ k → ⊥) → GoesOn stay f x k → GoesOn stay f k y → GoesOn after f x y
goes-past stay after k less more gone f x y a v w = (suc (w.0) + v.0, w.1 ∙ ap (iterate f (suc (w.0))) v.1 ∙ sym (iterate-sum f (suc (w.0)) (suc (v.0)) x) ∙ ap (λ (j : ℕ). iterate f j x) e, more y w.2 a, between)
  where
    e : suc (w.0) + suc (v.0) ≡ suc (suc (w.0) + v.0)
    e = omega arith

    later : (i : ℕ) → i < w.0 → after (iterate f (suc i + suc (v.0)) x) ≡ false
    later i l = subst (λ (z : ℕ). after z ≡ false) (ap (iterate f (suc i)) v.1 ∙ sym (iterate-sum f (suc i) (suc (v.0)) x)) (less (iterate f (suc i) k) (w.3 i l))

    between : (i : ℕ) → i < suc (w.0) + v.0 → after (iterate f (suc i) x) ≡ false
    between i l = elim (cases_order i (v.0)) [
      | inl q ↦ subst (λ (z : ℕ). after z ≡ false) (v.1 ∙ ap (λ (j : ℕ). iterate f (suc j) x) (sym q)) gone
      | inr r ↦ elim r [
        | inl q ↦ less (iterate f (suc i) x) (v.3 i q)
        | inr q ↦ let s : suc (i - suc (v.0)) + suc (v.0) ≡ suc i = omega arith in
            subst (λ (j : ℕ). after (iterate f j x) ≡ false) s (later (i - suc (v.0)) (omega arith))
      ]
    ]

-- not yet taken out when those below k have been looked at
stays : (ℕ → Bool) → ℕ → ℕ → Bool
stays keep k y = keep y || leb k y

-- at the end those stay that pass the test
stays-end : (keep : ℕ → Bool) (n y : ℕ) → y < n → stays keep n y ≡ keep y
unfolding stays
stays-end keep n y l = rw (lt-leb n y l) (grind (arith, cases_Bool (keep y)))

-- at the beginning all stay
stays-start : (keep : ℕ → Bool) (y : ℕ) → stays keep 0 y ≡ true
unfolding stays
stays-start keep y = rw (le-leb 0 y (omega arith)) (grind (arith, cases_Bool (keep y)))

-- what is gone stays gone
stays-less : (keep : ℕ → Bool) (k y : ℕ) → stays keep k y ≡ false → stays keep (suc k) y ≡ false
unfolding stays
stays-less keep k y h = let w = or_parts (keep y) (leb k y) h in rw (w.0) (lt-leb (suc k) y (omega (arith, leb-false k y w.1)))

-- only k goes at step k
stays-more : (keep : ℕ → Bool) (k y : ℕ) → stays keep k y ≡ true → (y ≡ k → ⊥) → stays keep (suc k) y ≡ true
unfolding stays
stays-more keep k y h a = elim (or_cases (keep y) (leb k y) h) [ inl t ↦ rw t refl | inr t ↦ rw (le-leb (suc k) y (omega (arith, leb-true k y t))) (grind (arith, cases_Bool (keep y))) ]

-- k stays until step k
stays-now : (keep : ℕ → Bool) (k : ℕ) → stays keep k k ≡ true
unfolding stays
stays-now keep k = rw (le-leb k k (omega arith)) (grind (arith, cases_Bool (keep k)))

-- k is gone after step k where it fails the test
stays-gone : (keep : ℕ → Bool) (k : ℕ) → keep k ≡ false → stays keep (suc k) k ≡ false
unfolding stays
stays-gone keep k h = rw (h, lt-leb (suc k) k (omega arith)) refl

-- what stays longer stays now
stays-back : (keep : ℕ → Bool) (k y : ℕ) → stays keep (suc k) y ≡ true → stays keep k y ≡ true
stays-back keep k y h = true_from_ne_false (stays keep k y) (λ u. both_ways (stays keep (suc k) y) (stays-less keep k y u) h)

-- where k passes the test, step k changes nothing
stays-kept : (keep : ℕ → Bool) (k y : ℕ) → keep k ≡ true → stays keep (suc k) y ≡ stays keep k y
unfolding stays
stays-kept keep k y h = elim (cases_eq y k) [
  | inl e ↦ rw (e, h) refl
  | inr a ↦ same-tests (stays keep (suc k) y) (stays keep k y) (stays-back keep k y) (λ t. stays-more keep k y t a)
]

-- with the numbers below k looked at, each goes on along f to the next that stays
taken-out-walk : (n : ℕ) (keep : ℕ → Bool) (f g : ℕ → ℕ) → Permutes n f g → (k : ℕ) → k ≤ n → (x : ℕ) → x < n → stays keep k x ≡ true → GoesOn (stays keep k) f x (taken_out keep k f x)
taken-out-walk n keep f g b zero l x i h = (0, refl, stays-start keep (f x), λ j m. absurd (omega arith))
taken-out-walk n keep f g b (suc k) l x i h = let walk = taken-out-walk n keep f g b k (omega arith) in elim (cases_Bool (keep k)) [
  | inl t ↦ subst (λ (s : ℕ → ℕ). GoesOn (stays keep (suc k)) f x (s x)) (sym (taken-out-none keep k f t))
      (let w = walk x i (sym (stays-kept keep k x t) ∙ h) in (w.0, w.1, stays-kept keep k (taken_out keep k f x) t ∙ w.2, λ j m. stays-kept keep k (iterate f (suc j) x) t ∙ w.3 j m))
  | inr u ↦ subst (λ (s : ℕ → ℕ). GoesOn (stays keep (suc k)) f x (s x)) (sym (taken-out-one keep k f u))
      (out n keep f k (taken_out keep k f) (taken_out keep k g) (taken-out-permutes n keep f g b k (omega arith)) l u x i h (walk x i (stays-back keep k x h)) (walk k l (stays-now keep k)))
]
  where
    out : (n : ℕ) (keep : ℕ → Bool) (f : ℕ → ℕ) (k : ℕ) (s r : ℕ → ℕ) → Permutes n s r → k < n → keep k ≡ false → (x : ℕ) → x < n → stays keep (suc k) x ≡ true → GoesOn (stays keep k) f x (s x) → GoesOn (stays keep k) f k (s k) → GoesOn (stays keep (suc k)) f x (unlink k s x)
    out n keep f k s r c l u x i h v w = elim (unlink-cases k s x) [
      | inl e ↦ absurd (both_ways (stays keep (suc k) x) (subst (λ (z : ℕ). stays keep (suc k) z ≡ false) (sym (e.0)) (stays-gone keep k u)) h)
      | inr q ↦ elim q [
        | inl e ↦ subst (GoesOn (stays keep (suc k)) f x) (sym (e.2)) (goes-past (stays keep k) (stays keep (suc k)) k (stays-less keep k) (stays-more keep k) (stays-gone keep k u) f x (s k)
            (λ o. e.0 (permutes-one-to-one n s r c x k i l (e.1 ∙ sym o))) (subst (GoesOn (stays keep k) f x) (e.1) v) w)
        | inr e ↦ subst (GoesOn (stays keep (suc k)) f x) (sym (e.2)) (goes-same (stays keep k) (stays keep (suc k)) k (stays-less keep k) (stays-more keep k) f x (s x) (e.1) v)
      ]
    ]

-- with the others taken out, each number that passes goes on to the next that does
pub taken-out-goes : (n : ℕ) (keep : ℕ → Bool) (f g : ℕ → ℕ) → Permutes n f g → (x : ℕ) → x < n → keep x ≡ true → GoesOn keep f x (taken_out keep n f x)
taken-out-goes n keep f g b x l h = let w = taken-out-walk n keep f g b n (omega arith) x l (stays-end keep n x l ∙ h) in (
  w.0,
  w.1,
  sym (stays-end keep n (taken_out keep n f x) ((taken-out-permutes n keep f g b n (omega arith)).forth x l)) ∙ w.2,
  λ j m. sym (stays-end keep n (iterate f (suc j) x) (iterate-below n f g b (suc j) x l)) ∙ w.3 j m,
)

-- such a walk leads where the restriction says
pub goes-restricted : (n : ℕ) (keep : ℕ → Bool) (f g : ℕ → ℕ) → Permutes n f g → (x : ℕ) → x < n → keep x ≡ true → (y : ℕ) → GoesOn keep f x y → restricted n keep f x ≡ y
unfolding restricted
goes-restricted n keep f g b x l h y w = rw h (ap (λ (k : ℕ). iterate f (suc k) x) e ∙ sym (w.1))
  where
    p : (k : ℕ) × (0 < k) × (k ≤ n) × (iterate f k x ≡ x)
    p = period n f g b x l

    short : w.0 < n
    short = elim (cases_lt (w.0) n) [
      | inl m ↦ m
      | inr m ↦ let s : suc (p.0 - 1) ≡ p.0 = omega (arith, p.1) in
          absurd (both_ways (keep x) (subst (λ (z : ℕ). keep z ≡ false) (ap (λ (k : ℕ). iterate f k x) s ∙ p.3) (w.3 (p.0 - 1) (omega (arith, p.1, p.2)))) h)
    ]

    e : least n (λ k. keep (iterate f (suc k) x)) ≡ w.0
    e = least-is n (λ k. keep (iterate f (suc k) x)) (w.0) short (subst (λ (z : ℕ). keep z ≡ true) (w.1) w.2) (λ i m. w.3 i m)

-- a number that fails the test is alone
pub restricted-alone : (n : ℕ) (keep : ℕ → Bool) (f : ℕ → ℕ) (x : ℕ) → keep x ≡ false → restricted n keep f x ≡ x
unfolding restricted
restricted-alone n keep f x h = rw h refl

-- taking out one after the other leaves the restriction
pub restricted-taken-out : (n : ℕ) (keep : ℕ → Bool) (f g : ℕ → ℕ) → Permutes n f g → (x : ℕ) → x < n → restricted n keep f x ≡ taken_out keep n f x
restricted-taken-out n keep f g b x l = elim (cases_Bool (keep x)) [
  | inl t ↦ goes-restricted n keep f g b x l t (taken_out keep n f x) (taken-out-goes n keep f g b x l t)
  | inr u ↦ restricted-alone n keep f x u ∙ sym (taken-out-alone n keep f g b n (omega arith) x l u)
]

-- the restriction is a permutation, and its inverse is that of the inverse
pub restricted-permutes : (n : ℕ) (keep : ℕ → Bool) (f g : ℕ → ℕ) → Permutes n f g → Permutes n (restricted n keep f) (restricted n keep g)
restricted-permutes n keep f g b = permutes-ext n (taken_out keep n f) (taken_out keep n g) (restricted n keep f) (restricted n keep g) (taken-out-permutes n keep f g b n (omega arith))
    (restricted-taken-out n keep f g b) (restricted-taken-out n keep g f (permutes-inverse n f g b))

-- each number that passes goes on to the next that does
pub restricted-goes : (n : ℕ) (keep : ℕ → Bool) (f g : ℕ → ℕ) → Permutes n f g → (x : ℕ) → x < n → keep x ≡ true → GoesOn keep f x (restricted n keep f x)
restricted-goes n keep f g b x l h = subst (GoesOn keep f x) (sym (restricted-taken-out n keep f g b x l)) (taken-out-goes n keep f g b x l h)

-- a number that passes is followed by one that passes as before
pub restricted-next : (n : ℕ) (keep : ℕ → Bool) (f g : ℕ → ℕ) → Permutes n f g → (x : ℕ) → x < n → keep x ≡ true → keep (f x) ≡ true → restricted n keep f x ≡ f x
restricted-next n keep f g b x l h k = goes-restricted n keep f g b x l h (f x) (0, refl, k, λ i m. absurd (omega arith))

-- numbers that pass are in one orbit of the restriction exactly where they were in one orbit
pub restricted-orbit : (n : ℕ) (keep : ℕ → Bool) (f g : ℕ → ℕ) → Permutes n f g → (x y : ℕ) → keep x ≡ true → keep y ≡ true → same_orbit n (restricted n keep f) x y ≡ same_orbit n f x y
restricted-orbit n keep f g b x y h k = orbit-ext n (restricted n keep f) (taken_out keep n f) (restricted-taken-out n keep f g b) x y ∙ taken-out-orbit n keep f g b x y h k n (omega arith)

-- a walk to z, which fails the test, all between failing too, and a walk from z on
goes-join : (keep : ℕ → Bool) (f : ℕ → ℕ) (x z y k : ℕ) → z ≡ iterate f (suc k) x → ((i : ℕ) → i < k → keep (iterate f (suc i) x) ≡ false) → keep z ≡ false → GoesOn keep f z y → GoesOn keep f x y
goes-join keep f x z y k e none gone w = (suc (w.0) + k, w.1 ∙ ap (iterate f (suc (w.0))) e ∙ sym (iterate-sum f (suc (w.0)) (suc k) x) ∙ ap (λ (j : ℕ). iterate f j x) s, w.2, between)
  where
    s : suc (w.0) + suc k ≡ suc (suc (w.0) + k)
    s = omega arith

    later : (i : ℕ) → i < w.0 → keep (iterate f (suc i + suc k) x) ≡ false
    later i l = subst (λ (v : ℕ). keep v ≡ false) (ap (iterate f (suc i)) e ∙ sym (iterate-sum f (suc i) (suc k) x)) (w.3 i l)

    between : (i : ℕ) → i < suc (w.0) + k → keep (iterate f (suc i) x) ≡ false
    between i l = elim (cases_order i k) [
      | inl q ↦ subst (λ (v : ℕ). keep v ≡ false) (e ∙ ap (λ (j : ℕ). iterate f (suc j) x) (sym q)) gone
      | inr r ↦ elim r [
        | inl q ↦ none i q
        | inr q ↦ let t : suc (i - suc k) + suc k ≡ suc i = omega arith in subst (λ (j : ℕ). keep (iterate f j x) ≡ false) t (later (i - suc k) (omega arith))
      ]
    ]

-- a walk in the restriction to more numbers is a walk
goes-through : (n : ℕ) (more keep : ℕ → Bool) (f g : ℕ → ℕ) → Permutes n f g → ((z : ℕ) → keep z ≡ true → more z ≡ true) → (j x : ℕ) → x < n → more x ≡ true → ((i : ℕ) → i < j → keep (iterate (restricted n more f) (suc i) x) ≡ false) → keep (iterate (restricted n more f) (suc j) x) ≡ true → GoesOn keep f x (iterate (restricted n more f) (suc j) x)
goes-through n more keep f g b sub zero x l m none here = let w = restricted-goes n more f g b x l m in (w.0, w.1, here, λ i k. false_from_ne_true (keep (iterate f (suc i) x)) (λ t. both_ways (more (iterate f (suc i) x)) (w.3 i k) (sub (iterate f (suc i) x) t)))
goes-through n more keep f g b sub (suc j) x l m none here = let w = restricted-goes n more f g b x l m in
    let first : (k : ℕ) → iterate (restricted n more f) (suc k) x ≡ iterate (restricted n more f) k (restricted n more f x) = λ k. sym (iterate-more (restricted n more f) k x) ∙ iterate-first (restricted n more f) k x in
    let step : (k : ℕ) → iterate (restricted n more f) (suc (suc k)) x ≡ iterate (restricted n more f) (suc k) (restricted n more f x) = λ k. ap (restricted n more f) (first k) in
    goes-join keep f x (restricted n more f x) (iterate (restricted n more f) (suc (suc j)) x) (w.0) (w.1)
    (λ i k. false_from_ne_true (keep (iterate f (suc i) x)) (λ t. both_ways (more (iterate f (suc i) x)) (w.3 i k) (sub (iterate f (suc i) x) t)))
    (none 0 (omega arith))
    (subst (GoesOn keep f (restricted n more f x)) (sym (step j))
    (goes-through n more keep f g b sub j (restricted n more f x) ((restricted-permutes n more f g b).forth x l) (w.2)
    (λ i k. ap keep (sym (step i)) ∙ none (suc i) (omega arith)) (ap keep (sym (step j)) ∙ here)))

-- a restriction restricted further is the restriction to fewer
pub restricted-twice : (n : ℕ) (more keep : ℕ → Bool) (f g : ℕ → ℕ) → Permutes n f g → ((z : ℕ) → keep z ≡ true → more z ≡ true) → (x : ℕ) → x < n → restricted n keep (restricted n more f) x ≡ restricted n keep f x
restricted-twice n more keep f g b sub x l = elim (cases_Bool (keep x)) [
  | inl t ↦ let w = restricted-goes n keep (restricted n more f) (restricted n more g) (restricted-permutes n more f g b) x l t in
      sym (goes-restricted n keep f g b x l t (restricted n keep (restricted n more f) x)
      (subst (GoesOn keep f x) (sym (w.1)) (goes-through n more keep f g b sub (w.0) x l (sub x t) (w.3) (ap keep (sym (w.1)) ∙ w.2))))
  | inr u ↦ restricted-alone n keep (restricted n more f) x u ∙ sym (restricted-alone n keep f x u)
]
