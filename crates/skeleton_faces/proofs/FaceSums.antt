-- Sums of weights over the numbers that pass a test, and over the darts of a face.
use Rattle.std.proofs.Common.{◌≡◌, ◌≢◌, ℕ, zero, suc, ◌+◌, ◌*◌, ◌<◌, ◌≤◌, ◌⊎◌, inl, inr, Bool, true, not, ◌&&◌, ◌||◌, ◌==◌, cond, refl, sym, ap, ◌∙◌, subst, arith, eq-eqb}
use Rattle.std.proofs.lemmas.Bool.{cases_Bool, cases_eq, ne_eqb, and_from}
use Rattle.permutations.specs.Count.{sum_below}
use Rattle.permutations.proofs.Sums.{sum_below-ext, sum_below-add, sum_below-le}
use Rattle.permutations.proofs.Orbits.{orbit-equivalence}
use Rattle.permutations.proofs.Relation.{same-tests}
use Rattle.dart_maps.specs.Map.{face, same_face}

-- the sum of the weights of the numbers below n that pass the test
abbrev pub sum_of : ℕ → (ℕ → Bool) → (ℕ → ℕ) → ℕ
sum_of n t weight = sum_below n (λ y. cond (t y) (weight y) 0)

-- the sum of the weights of the darts on the face of dart x
abbrev pub face_sum : ℕ → (ℕ → ℕ) → (ℕ → ℕ) → ℕ → ℕ
face_sum m f weight x = sum_of (2 * m) (same_face m f x) weight

-- tests that agree below n have one sum
pub sum_of-ext : (n : ℕ) (s t : ℕ → Bool) (w : ℕ → ℕ) → ((x : ℕ) → x < n → s x ≡ t x) → sum_of n s w ≡ sum_of n t w
sum_of-ext n s t w h = sum_below-ext n (λ y. cond (s y) (w y) 0) (λ y. cond (t y) (w y) 0) (λ y l. ap (λ (z : Bool). cond z (w y) 0) (h y l))

-- more numbers have a greater sum
pub sum_of-more : (n : ℕ) (s t : ℕ → Bool) (w : ℕ → ℕ) → ((x : ℕ) → x < n → s x ≡ true → t x ≡ true) → sum_of n s w ≤ sum_of n t w
sum_of-more n s t w h = sum_below-le n (λ y. cond (s y) (w y) 0) (λ y. cond (t y) (w y) 0) (λ y l. elim (cases_Bool (s y)) [
  | inl i ↦ rw (i, h y l i) (omega arith)
  | inr i ↦ rw i (omega arith)
])

-- a number more
pub sum_of-one : (n : ℕ) (t : ℕ → Bool) (w : ℕ → ℕ) (p : ℕ) → p < n → t p ≡ true → sum_of n (λ y. t y && not (y == p)) w + w p ≡ sum_of n t w
sum_of-one zero t w p l h = absurd (omega (arith, l))
sum_of-one (suc n) t w p l h = elim (cases_eq n p) [
  | inl i ↦ subst (λ (z : ℕ). sum_of (suc n) (λ y. t y && not (y == z)) w + w z ≡ sum_of (suc n) t w) i (last (ap t i ∙ h))
  | inr i ↦ let before : sum_of n (λ y. t y && not (y == p)) w + w p ≡ sum_of n t w = sum_of-one n t w p (omega (arith, l, i)) h in
      rw (ne_eqb n p i, plain (t n)) (omega (arith, before))
]
  where
    plain : (x : Bool) → (x && true) ≡ x
    plain x = grind (arith, cases_Bool x)

    less : (x y : ℕ) → x < y → x ≡ y → ⊥
    less x y l q = omega (arith, l, q)

    last : t n ≡ true → sum_of (suc n) (λ y. t y && not (y == n)) w + w n ≡ sum_of (suc n) t w
    last k = let before : sum_of n (λ y. t y && not (y == n)) w ≡ sum_of n t w = sum_of-ext n (λ y. t y && not (y == n)) t w (λ y m. ap (λ (z : Bool). t y && not z) (ne_eqb y n (λ q. less y n m q)) ∙ plain (t y)) in
        rw (eq-eqb n n refl, before, k) (omega arith)

-- the sum over two tests is at least that over numbers that pass one of them
pub sum_of-either : (n : ℕ) (s t u : ℕ → Bool) (w : ℕ → ℕ) → ((x : ℕ) → x < n → s x ≡ true → (t x ≡ true) ⊎ (u x ≡ true)) → sum_of n s w ≤ sum_of n t w + sum_of n u w
sum_of-either n s t u w h = subst (λ (z : ℕ). sum_of n s w ≤ z) (sum_below-add n (λ y. cond (t y) (w y) 0) (λ y. cond (u y) (w y) 0))
    (sum_below-le n (λ y. cond (s y) (w y) 0) (λ y. cond (t y) (w y) 0 + cond (u y) (w y) 0) (λ y l. elim (cases_Bool (s y)) [
      | inr i ↦ rw i (omega arith)
      | inl i ↦ elim (h y l i) [
        | inl k ↦ rw (i, k) (omega arith)
        | inr k ↦ rw (i, k) (omega arith)
      ]
    ]))

-- and with one number left out of each of the two tests
pub sum_of-two : (n : ℕ) (s t u : ℕ → Bool) (w : ℕ → ℕ) (p q : ℕ) → p < n → q < n → t p ≡ true → u q ≡ true
    → ((x : ℕ) → x < n → s x ≡ true → ((t x ≡ true) ⊎ (u x ≡ true)) × (x ≢ p) × (x ≢ q)) → sum_of n s w + (w p + w q) ≤ sum_of n t w + sum_of n u w
sum_of-two n s t u w p q lp lq hp hq h =
    let less : sum_of n s w ≤ sum_of n (λ y. t y && not (y == p)) w + sum_of n (λ y. u y && not (y == q)) w
    = sum_of-either n s (λ y. t y && not (y == p)) (λ y. u y && not (y == q)) w (λ x l i. let c = h x l i in elim c.0 [
      | inl k ↦ inl (and_from (t x) (not (x == p)) k (ap not (ne_eqb x p c.1)))
      | inr k ↦ inr (and_from (u x) (not (x == q)) k (ap not (ne_eqb x q c.2)))
    ]) in
    omega (arith, less, sum_of-one n t w p lp hp, sum_of-one n u w q lq hq)

-- darts of one face have one sum
pub face_sum-one : (m : ℕ) (f w : ℕ → ℕ) (x y : ℕ) → same_face m f x y ≡ true → face_sum m f w x ≡ face_sum m f w y
face_sum-one m f w x y t = sum_of-ext (2 * m) (same_face m f x) (same_face m f y) w (λ z l. same-tests (same_face m f x z) (same_face m f y z)
    (λ h. (orbit-equivalence (2 * m) (face f)).transitive y x z ((orbit-equivalence (2 * m) (face f)).symmetric x y t) h)
    (λ h. (orbit-equivalence (2 * m) (face f)).transitive x y z t h))

-- a number more or not
pub sum_of-take : (n : ℕ) (t : ℕ → Bool) (w : ℕ → ℕ) (p : ℕ) → p < n → sum_of n (λ y. t y && not (y == p)) w + cond (t p) (w p) 0 ≡ sum_of n t w
sum_of-take n t w p l = elim (cases_Bool (t p)) [
  | inl i ↦ rw i (sum_of-one n t w p l i)
  | inr i ↦ rw i (omega (
    arith,
    sum_of-ext n (λ y. t y && not (y == p)) t w (λ y k. elim (cases_eq y p) [
      | inl q ↦ ap (λ (z : ℕ). t z && not (y == p)) q ∙ ap (λ (z : Bool). z && not (y == p)) i ∙ sym (ap t q ∙ i)
      | inr q ↦ rw (ne_eqb y p q) (plain (t y))
    ]),
  ))
]
  where
    plain : (x : Bool) → (x && true) ≡ x
    plain x = grind (arith, cases_Bool x)

-- the sum over numbers that a function takes one to one to numbers of another sum, none of which weighs less
pub sum_of-injection : (n m : ℕ) (s t : ℕ → Bool) (w v : ℕ → ℕ) (f : ℕ → ℕ)
    → ((x : ℕ) → x < n → s x ≡ true → f x < m)
    → ((x : ℕ) → x < n → s x ≡ true → t (f x) ≡ true)
    → ((x : ℕ) → x < n → s x ≡ true → w x ≤ v (f x))
    → ((x y : ℕ) → x < n → y < n → s x ≡ true → s y ≡ true → f x ≡ f y → x ≡ y)
    → sum_of n s w ≤ sum_of m t v
sum_of-injection zero m s t w v f b k e i = omega arith
sum_of-injection (suc n) m s t w v f b k e i = elim (cases_Bool (s n)) [
  | inr h ↦ rw h (omega (arith, sum_of-injection n m s t w v f (λ x l. b x (omega arith)) (λ x l. k x (omega arith)) (λ x l. e x (omega arith)) (λ x y l o. i x y (omega arith) (omega arith))))
  | inl h ↦
      let less : sum_of n s w ≤ sum_of m (λ z. t z && not (z == f n)) v = sum_of-injection n m s (λ z. t z && not (z == f n)) w v f
      (λ x l. b x (omega arith))
      (λ x l q. and_from (t (f x)) (not (f x == f n)) (k x (omega arith) q) (ap not (ne_eqb (f x) (f n) (λ d. under x l (i x n (omega arith) (omega arith) q h d)))))
      (λ x l. e x (omega arith))
      (λ x y l o. i x y (omega arith) (omega arith)) in
      rw h (omega (arith, less, sum_of-one m t v (f n) (b n (omega arith) h) (k n (omega arith) h), e n (omega arith) h))
]
  where
    under : (x : ℕ) → x < n → x ≡ n → ⊥
    under x l q = omega (arith, l, q)
