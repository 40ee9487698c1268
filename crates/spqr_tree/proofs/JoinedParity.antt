-- Where each vertex has none or two of the edges, an even number of edges has one end that passes a test and one that fails.
use Rattle.std.proofs.Common.{◌≡◌, ◌≢◌, ℕ, zero, suc, ◌+◌, ◌<◌, ◌≤◌, ◌==◌, ◌&&◌, ◌||◌, inl, inr, Bool, true, false, not, cond, List, [], ◌∷◌, length, filter, refl, sym, ap, ◌∙◌, arith, All}
use Rattle.std.proofs.lemmas.Bool.{cases_Bool, cases_eq, eq-eqb, ne_eqb}
use Rattle.std.proofs.lemmas.List.Elements.{All-head, All-tail}
use Rattle.permutations.specs.Count.{sum_below}
use Rattle.permutations.proofs.Sums.{sum_below-ext, sum_below-add, sum_below-zero}
use Rattle.pair_split.specs.Skeleton.{is_end_of, degree}
use Rattle.spqr_tree.proofs.MergeCounts.{number-cons, sum-changed}

-- one end passes and one fails
abbrev pub crosses : (ℕ → Bool) → ℕ × ℕ → Bool
crosses s ends = (s ends.0 && not (s ends.1)) || (s ends.1 && not (s ends.0))

-- greater than all ends
ends_bound : List (ℕ × ℕ) → ℕ
ends_bound [] = 0
ends_bound (ends ∷ skeleton) = (ends.0 + ends.1 + 1) + ends_bound skeleton

-- one for true
abbrev one : Bool → ℕ
one b = cond b 1 0

-- a sum with one term
sum-point : (n a c : ℕ) → a < n → sum_below n (λ v. cond (a == v) c 0) ≡ c
sum-point n a c l =
    let s = sum-changed n (λ v. 0) (λ v. cond (a == v) c 0) a l (λ x m n. ap (λ (b : Bool). cond b c 0) (ne_eqb a x (λ e. n (sym e)))) in
    let t : cond (a == a) c 0 ≡ c = ap (λ (b : Bool). cond b c 0) (eq-eqb a a refl) in
    omega (arith, s, t, sum_below-zero n)

-- the degrees of the vertices that pass, added up
abbrev passing : ℕ → (ℕ → Bool) → List (ℕ × ℕ) → ℕ
passing n s skeleton = sum_below n (λ v. cond (s v) (degree skeleton v) 0)

-- an edge more at v, by its first end, by its second end, or not at v
sums : (b c d e f : Bool) (x y : ℕ) → x ≡ one (e || f) + y → e ≡ true → f ≡ false → c ≡ b → cond b x 0 ≡ (cond e (one c) 0 + cond f (one d) 0) + cond b y 0
sums b c d e f x y h i j k = rw (h, i, j, k) (elim (cases_Bool b) [ inl t ↦ rw t (omega arith) | inr t ↦ rw t (omega arith) ])

other : (b c d e f : Bool) (x y : ℕ) → x ≡ one (e || f) + y → e ≡ false → f ≡ true → d ≡ b → cond b x 0 ≡ (cond e (one c) 0 + cond f (one d) 0) + cond b y 0
other b c d e f x y h i j k = rw (h, i, j, k) (elim (cases_Bool b) [ inl t ↦ rw t (omega arith) | inr t ↦ rw t (omega arith) ])

neither : (b c d e f : Bool) (x y : ℕ) → x ≡ one (e || f) + y → e ≡ false → f ≡ false → cond b x 0 ≡ (cond e (one c) 0 + cond f (one d) 0) + cond b y 0
neither b c d e f x y h i j = rw (h, i, j) (elim (cases_Bool b) [ inl t ↦ rw t (omega arith) | inr t ↦ rw t (omega arith) ])

-- they are as many as edges with one end that passes, and twice those with two
passing-counts : (n : ℕ) (s : ℕ → Bool) (skeleton : List (ℕ × ℕ)) → ends_bound skeleton ≤ n → All (λ ends. ends.0 ≢ ends.1) skeleton
    → (twice : ℕ) × (passing n s skeleton ≡ length (filter (crosses s) skeleton) + (twice + twice))
unfolding ends_bound
passing-counts n s [] l a = (0, sum_below-ext n (λ v. cond (s v) 0 0) (λ v. 0) (λ v m. elim (cases_Bool (s v)) [ inl h ↦ rw h refl | inr h ↦ rw h refl ]) ∙ sum_below-zero n)
passing-counts n s (ends ∷ skeleton) l a =
    let rest = passing-counts n s skeleton (omega (arith, l)) (All-tail (λ (e : ℕ × ℕ). e.0 ≢ e.1) ends skeleton a) in (
      rest.0 + one (s ends.0 && s ends.1),
      omega (
        arith,
        rest.1,
        sum_below-ext n (λ v. cond (s v) (degree (ends ∷ skeleton) v) 0) (λ v. (two v) + cond (s v) (degree skeleton v) 0) (λ v m. step v),
        sum_below-add n two (λ v. cond (s v) (degree skeleton v) 0),
        sum_below-add n (λ v. cond (ends.0 == v) (one (s ends.0)) 0) (λ v. cond (ends.1 == v) (one (s ends.1)) 0),
        sum-point n ends.0 (one (s ends.0)) (omega (arith, l)),
        sum-point n ends.1 (one (s ends.1)) (omega (arith, l)),
        number-cons (crosses s) ends skeleton,
        split (s ends.0) (s ends.1),
      ),
    )
  where
    two : ℕ → ℕ
    two v = cond (ends.0 == v) (one (s ends.0)) 0 + cond (ends.1 == v) (one (s ends.1)) 0

    split : (b c : Bool) → one b + one c ≡ one ((b && not c) || (c && not b)) + (one (b && c) + one (b && c))
    split true true = omega arith
    split true false = omega arith
    split false true = omega arith
    split false false = omega arith

    step : (v : ℕ) → cond (s v) (degree (ends ∷ skeleton) v) 0 ≡ two v + cond (s v) (degree skeleton v) 0
    step v = elim (cases_eq ends.0 v) [
      | inl e ↦ elim (cases_eq ends.1 v) [
        | inl f ↦ absurd (All-head (λ (z : ℕ × ℕ). z.0 ≢ z.1) ends skeleton a (e ∙ sym f))
        | inr f ↦ sums (s v) (s ends.0) (s ends.1) (ends.0 == v) (ends.1 == v) (degree (ends ∷ skeleton) v) (degree skeleton v) (number-cons (is_end_of v) ends skeleton) (eq-eqb ends.0 v e) (ne_eqb ends.1 v f) (ap s e)
      ]
      | inr e ↦ elim (cases_eq ends.1 v) [
        | inl f ↦ other (s v) (s ends.0) (s ends.1) (ends.0 == v) (ends.1 == v) (degree (ends ∷ skeleton) v) (degree skeleton v) (number-cons (is_end_of v) ends skeleton) (ne_eqb ends.0 v e) (eq-eqb ends.1 v f) (ap s f)
        | inr f ↦ neither (s v) (s ends.0) (s ends.1) (ends.0 == v) (ends.1 == v) (degree (ends ∷ skeleton) v) (degree skeleton v) (number-cons (is_end_of v) ends skeleton) (ne_eqb ends.0 v e) (ne_eqb ends.1 v f)
      ]
    ]

-- where each degree is even, so is the number of edges that cross
pub crosses-even : (s : ℕ → Bool) (skeleton : List (ℕ × ℕ)) → All (λ ends. ends.0 ≢ ends.1) skeleton → (half : ℕ → ℕ) → ((v : ℕ) → degree skeleton v ≡ half v + half v) → (h : ℕ) × (length (filter (crosses s) skeleton) ≡ h + h)
crosses-even s skeleton a half even =
    let n = ends_bound skeleton in
    let w = passing-counts n s skeleton (omega arith) a in
    let twice = sum_below n (λ v. cond (s v) (half v) 0) in
    let e : passing n s skeleton ≡ twice + twice = sum_below-ext n (λ v. cond (s v) (degree skeleton v) 0) (λ v. cond (s v) (half v) 0 + cond (s v) (half v) 0) (λ v l. term v) ∙ sum_below-add n (λ v. cond (s v) (half v) 0) (λ v. cond (s v) (half v) 0) in
    less (length (filter (crosses s) skeleton)) w.0 twice (sym w.1 ∙ e)
  where
    term : (v : ℕ) → cond (s v) (degree skeleton v) 0 ≡ cond (s v) (half v) 0 + cond (s v) (half v) 0
    term v = elim (cases_Bool (s v)) [ inl t ↦ rw t (even v) | inr t ↦ rw t (omega arith) ]

    less : (c t u : ℕ) → c + (t + t) ≡ u + u → (h : ℕ) × (c ≡ h + h)
    less c zero u e = (u, omega (arith, e))
    less c (suc t) zero e = absurd (omega (arith, e))
    less c (suc t) (suc u) e = less c t u (omega (arith, e))
