-- Numbers in a mixed radix: bounds, both ways, digit by digit from either end; products within a bound.
use Rattle.std.proofs.Common.{◌≡◌, ℕ, zero, suc, ◌+◌, ◌*◌, ◌/◌, ◌%◌, ◌<◌, ◌≤◌, inl, inr, cond, nat_lt, List, [], ◌∷◌, ◌++◌, All, Some, None, refl, sym, ap, ap₂, ◌∙◌, arith, add-mul, mul_assoc, mul-one, div-add-mod', mod-lt, mul-pos}
use Rattle.std.proofs.lemmas.Bool.{cases_lt, lt-ltb, le-ltb}
use Rattle.std.proofs.lemmas.Nat.{mul-le, div-mul-add, mod-mul-add, div_below}
use Rattle.choice_lists.specs.Arrangements.{factorial}
use Rattle.choice_lists.specs.Products.{product_of}
use Rattle.choice_lists.specs.Numbers.{radix_number, AreDigitsBelow, digits_of, horner, product_below, from_one_to}

-- a number is below the product of its radices
pub radix-below : (rs ds : List ℕ) → AreDigitsBelow rs ds → radix_number rs ds < product_of rs
radix-below [] [] h = omega arith
radix-below [] (d ∷ ds) h = absurd h
radix-below (r ∷ rs) [] h = absurd h
radix-below (r ∷ rs) (d ∷ ds) h =
    omega (arith, radix-below rs ds h.1, mul-le (d + 1) (product_of rs) r (product_of rs) (omega (arith, h.0)) (omega arith), add-mul d 1 (product_of rs))

-- the digits of the number of some digits
pub digits-number : (rs ds : List ℕ) → AreDigitsBelow rs ds → digits_of rs (radix_number rs ds) ≡ ds
digits-number [] [] h = refl
digits-number [] (d ∷ ds) h = absurd h
digits-number (r ∷ rs) [] h = absurd h
digits-number (r ∷ rs) (d ∷ ds) h =
    ap₂ (λ a b. a ∷ b) (div-mul-add d (product_of rs) (radix_number rs ds) (radix-below rs ds h.1))
    (ap (digits_of rs) (mod-mul-add d (product_of rs) (radix_number rs ds) (radix-below rs ds h.1)) ∙ digits-number rs ds h.1)

-- what is below a product is so by factors that aren't 0
pub factor-positive : (a b n : ℕ) → n < a * b → 0 < b
factor-positive a zero n h = absurd (omega arith)
factor-positive a (suc b) n h = omega arith

-- the digits of a number below the product
pub digits-below : (rs : List ℕ) (n : ℕ) → n < product_of rs → AreDigitsBelow rs (digits_of rs n)
digits-below [] n h = tt
digits-below (r ∷ rs) n h =
    let p : 0 < product_of rs = factor-positive r (product_of rs) n h in
    (div_below n (product_of rs) r p h, digits-below rs (n % product_of rs) (mod-lt n p))

-- the number of the digits of a number
pub number-digits : (rs : List ℕ) (n : ℕ) → n < product_of rs → radix_number rs (digits_of rs n) ≡ n
number-digits [] n h = omega (arith, h)
number-digits (r ∷ rs) n h =
    let p : 0 < product_of rs = factor-positive r (product_of rs) n h in
    ap (λ z. n / product_of rs * product_of rs + z) (number-digits rs (n % product_of rs) (mod-lt n p)) ∙ div-add-mod' n (product_of rs)

-- one digit after the other from the first
pub horner-number : (n : ℕ) (rs ds : List ℕ) → AreDigitsBelow rs ds → horner n rs ds ≡ n * product_of rs + radix_number rs ds
horner-number n [] [] h = omega arith
horner-number n [] (d ∷ ds) h = absurd h
horner-number n (r ∷ rs) [] h = absurd h
horner-number n (r ∷ rs) (d ∷ ds) h =
    omega (arith, horner-number (n * r + d) rs ds h.1, add-mul (n * r) d (product_of rs), mul_assoc n r (product_of rs))

-- the product with one factor more at the end
pub product_of-more : (rs : List ℕ) (r : ℕ) → product_of (rs ++ r ∷ []) ≡ product_of rs * r
product_of-more [] r = omega arith
product_of-more (q ∷ rs) r = ap (λ z. q * z) (product_of-more rs r) ∙ sym (mul_assoc q (product_of rs) r)

-- the number with one digit more at the end
pub radix-more : (rs ds : List ℕ) (r d : ℕ) → AreDigitsBelow rs ds → radix_number (rs ++ r ∷ []) (ds ++ d ∷ []) ≡ radix_number rs ds * r + d
radix-more [] [] r d h = omega arith
radix-more [] (e ∷ ds) r d h = absurd h
radix-more (q ∷ rs) [] r d h = absurd h
radix-more (q ∷ rs) (e ∷ ds) r d h =
    omega (
      arith,
      radix-more rs ds r d h.1,
      ap (λ z. e * z) (product_of-more rs r) ∙ sym (mul_assoc e (product_of rs) r),
      add-mul (e * product_of rs) (radix_number rs ds) r,
    )

-- a product of factors that aren't 0 isn't 0
pub product_of-positive : (rs : List ℕ) → All (λ r. 0 < r) rs → 0 < product_of rs
product_of-positive [] h = omega arith
product_of-positive (r ∷ rs) h = mul-pos (h 0 r (omega arith)) (product_of-positive rs (λ i d l. h (suc i) d (omega (arith, l))))

-- where no factor is 0, the checked product is the product exactly where that is below the limit
pub checked-product : (limit n : ℕ) (fs : List ℕ) → n < limit → All (λ f. 0 < f) fs
    → product_below limit n fs ≡ cond (nat_lt (n * product_of fs) limit) (Some (n * product_of fs)) None
checked-product limit n [] l h = let e : n * 1 ≡ n = omega arith in rw (e, lt-ltb n limit l) refl
checked-product limit n (f ∷ fs) l h = elim (cases_lt (n * f) limit) [
  | inl m ↦ rw (lt-ltb (n * f) limit m) (checked-product limit (n * f) fs m rest ∙ ap (λ z. cond (nat_lt z limit) (Some z) None) (mul_assoc n f (product_of fs)))
  | inr m ↦ rw (le-ltb (n * f) limit m, le-ltb (n * (f * product_of fs)) limit (grown m)) refl
]
  where
    rest : All (λ z. 0 < z) fs
    rest i d b = h (suc i) d (omega (arith, b))

    grown : limit ≤ n * f → limit ≤ n * (f * product_of fs)
    grown m = let p : 0 < product_of fs = product_of-positive fs rest in
        omega (arith, mul-le (n * f) 1 (n * f) (product_of fs) (omega arith) (omega arith), mul-one (n * f), mul_assoc n f (product_of fs))

-- the product of the numbers 1 to n is n factorial
pub factorial-product : (n : ℕ) → product_of (from_one_to n) ≡ factorial n
factorial-product zero = refl
factorial-product (suc n) = ap (λ z. (n + 1) * z) (factorial-product n)

-- a factorial isn't 0
pub factorial-positive : (n : ℕ) → 0 < factorial n
factorial-positive zero = omega arith
factorial-positive (suc n) = mul-pos (omega arith) (factorial-positive n)

-- a product in two parts
pub product_of-append : (fs gs : List ℕ) → product_of (fs ++ gs) ≡ product_of fs * product_of gs
product_of-append [] gs = omega arith
product_of-append (f ∷ fs) gs = ap (λ z. f * z) (product_of-append fs gs) ∙ sym (mul_assoc f (product_of fs) (product_of gs))

-- a number in two parts
pub radix-append : (rs ds qs es : List ℕ) → AreDigitsBelow rs ds → radix_number (rs ++ qs) (ds ++ es) ≡ radix_number rs ds * product_of qs + radix_number qs es
radix-append [] [] qs es h = omega arith
radix-append [] (d ∷ ds) qs es h = absurd h
radix-append (r ∷ rs) [] qs es h = absurd h
radix-append (r ∷ rs) (d ∷ ds) qs es h =
    omega (
      arith,
      radix-append rs ds qs es h.1,
      ap (λ z. d * z) (product_of-append rs qs) ∙ sym (mul_assoc d (product_of rs) (product_of qs)),
      add-mul (d * product_of rs) (radix_number rs ds) (product_of qs),
    )
