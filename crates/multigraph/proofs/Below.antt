-- The numbers below a bound, and those of them that pass a test.
use Rattle.std.proofs.Common.{◌≡◌, ℕ, zero, suc, ◌+◌, ◌<◌, ◌≤◌, Bool, true, false, cond, List, [], ◌∷◌, ◌++◌, length, get_or, refl, sym, ap, ◌∙◌, subst, inl, inr, arith, add-one, append-nil}
use Rattle.std.specs.List.{filter, Contains}
use Rattle.std.proofs.lemmas.List.{length_push, get_or_push, get_or_append_left}
use Rattle.std.proofs.lemmas.List.Elements.{filter-append, Contains-append_left, Contains-push, Contains-push_cases, Contains-get_or}
use Rattle.std.proofs.lemmas.Bool.{cases_Bool, cases_lt, cases_eq, cases_order}
use Rattle.multigraph.specs.Graph.{numbers_below}

-- there are n numbers below n
pub length-numbers_below : (n : ℕ) → length (numbers_below n) ≡ n
length-numbers_below zero = refl
length-numbers_below (suc n) = omega (arith, length_push (numbers_below n) n, length-numbers_below n)

-- the number at place k is k
pub get_or-numbers_below : (n k d : ℕ) → k < n → get_or (numbers_below n) k d ≡ k
get_or-numbers_below zero k d l = absurd (omega arith)
get_or-numbers_below (suc n) k d l = elim (cases_eq k n) [
  | inl e ↦ let m : length (numbers_below n) ≡ k = omega (arith, length-numbers_below n) in get_or_push (numbers_below n) n d k m ∙ sym e
  | inr e ↦ let m : k < length (numbers_below n) = omega (arith, length-numbers_below n) in
      get_or_append_left (numbers_below n) (n ∷ []) d k m ∙ get_or-numbers_below n k d (omega arith)
]

-- one number more
pub numbers_below-more : (n : ℕ) → numbers_below (n + 1) ≡ numbers_below n ++ n ∷ []
numbers_below-more n = rw add-one

-- one number more, of those that pass
pub filter_below-suc : (p : ℕ → Bool) (n : ℕ) → filter p (numbers_below (suc n)) ≡ filter p (numbers_below n) ++ cond (p n) (n ∷ []) []
filter_below-suc p n = filter-append p (numbers_below n) (n ∷ [])

-- the next number passes
pub filter_suc-yes : (p : ℕ → Bool) (n : ℕ) → p n ≡ true → filter p (numbers_below (suc n)) ≡ filter p (numbers_below n) ++ n ∷ []
filter_suc-yes p n h = filter_below-suc p n ∙ ap (λ (b : Bool). filter p (numbers_below n) ++ cond b (n ∷ []) []) h

-- the next number does not pass
pub filter_suc-no : (p : ℕ → Bool) (n : ℕ) → p n ≡ false → filter p (numbers_below (suc n)) ≡ filter p (numbers_below n)
filter_suc-no p n h = filter_below-suc p n ∙ (ap (λ (b : Bool). filter p (numbers_below n) ++ cond b (n ∷ []) []) h ∙ append-nil (filter p (numbers_below n)))

-- the next number passes
pub filter_below-yes : (p : ℕ → Bool) (n : ℕ) → p n ≡ true → filter p (numbers_below (n + 1)) ≡ filter p (numbers_below n) ++ n ∷ []
filter_below-yes p n h = rw add-one (filter_suc-yes p n h)

-- the next number does not pass
pub filter_below-no : (p : ℕ → Bool) (n : ℕ) → p n ≡ false → filter p (numbers_below (n + 1)) ≡ filter p (numbers_below n)
filter_below-no p n h = rw add-one (filter_suc-no p n h)

-- at most n numbers pass
pub length-filter_below : (p : ℕ → Bool) (n : ℕ) → length (filter p (numbers_below n)) ≤ n
length-filter_below p zero = omega arith
length-filter_below p (suc n) = elim (cases_Bool (p n)) [
  | inl e ↦ omega (arith, length-filter_below p n, length_push (filter p (numbers_below n)) n, ap length (filter_suc-yes p n e))
  | inr e ↦ omega (arith, length-filter_below p n, ap length (filter_suc-no p n e))
]

-- each number that passes is there
pub filter_below-has : (p : ℕ → Bool) (n x : ℕ) → x < n → p x ≡ true → Contains (filter p (numbers_below n)) x
filter_below-has p zero x l h = absurd (omega arith)
filter_below-has p (suc n) x l h = elim (cases_eq x n) [
  | inl e ↦ let same : p n ≡ true = subst (λ (y : ℕ). p y ≡ true) e h in
      subst (λ (y : ℕ). Contains (filter p (numbers_below (suc n))) y) (sym e)
      (subst (λ (l : List ℕ). Contains l n) (sym (filter_suc-yes p n same)) (Contains-push (filter p (numbers_below n)) n))
  | inr e ↦ subst (λ (l : List ℕ). Contains l x) (sym (filter_below-suc p n))
      (Contains-append_left (filter p (numbers_below n)) (cond (p n) (n ∷ []) []) x (filter_below-has p n x (omega arith) h))
]

-- what is there is below n and passes
pub filter_below-only : (p : ℕ → Bool) (n x : ℕ) → Contains (filter p (numbers_below n)) x → (x < n) × (p x ≡ true)
filter_below-only p zero x c = absurd (omega (arith, c.1))
filter_below-only p (suc n) x c = elim (cases_Bool (p n)) [
  | inl e ↦ elim (Contains-push_cases (filter p (numbers_below n)) n x (subst (λ (l : List ℕ). Contains l x) (filter_suc-yes p n e) c)) [
    | inl d ↦ let r = filter_below-only p n x d in (omega (arith, r.0), r.1)
    | inr d ↦ (omega arith, subst (λ (y : ℕ). p y ≡ true) d e)
  ]
  | inr e ↦ let r = filter_below-only p n x (subst (λ (l : List ℕ). Contains l x) (filter_suc-no p n e) c) in (omega (arith, r.0), r.1)
]

-- the number at a place is below n and passes
pub filter_below-at : (p : ℕ → Bool) (n k d : ℕ) → k < length (filter p (numbers_below n)) → (get_or (filter p (numbers_below n)) k d < n) × (p (get_or (filter p (numbers_below n)) k d) ≡ true)
filter_below-at p n k d l = filter_below-only p n (get_or (filter p (numbers_below n)) k d) (Contains-get_or (filter p (numbers_below n)) k d l)

-- a rising list rises with a larger number behind it
pub rises-push : (xs : List ℕ) (n : ℕ) → ((i j d : ℕ) → i < j → j < length xs → get_or xs i d < get_or xs j d) → ((i d : ℕ) → i < length xs → get_or xs i d < n) → (i j d : ℕ) → i < j → j < length (xs ++ n ∷ []) → get_or (xs ++ n ∷ []) i d < get_or (xs ++ n ∷ []) j d
rises-push xs n rises below i j d l m =
    let long : length (xs ++ n ∷ []) ≡ length xs + 1 = length_push xs n in
    let i_in : i < length xs = omega arith in
    let e : get_or (xs ++ n ∷ []) i d ≡ get_or xs i d = get_or_append_left xs (n ∷ []) d i i_in in
    elim (cases_lt j (length xs)) [
      | inl j_in ↦ let f : get_or (xs ++ n ∷ []) j d ≡ get_or xs j d = get_or_append_left xs (n ∷ []) d j j_in in omega (arith, rises i j d l j_in)
      | inr j_out ↦ let at_end : length xs ≡ j = omega arith in let f : get_or (xs ++ n ∷ []) j d ≡ n = get_or_push xs n d j at_end in omega (arith, below i d i_in)
    ]

-- they rise
pub filter_below-rises : (p : ℕ → Bool) (n i j d : ℕ) → i < j → j < length (filter p (numbers_below n)) → get_or (filter p (numbers_below n)) i d < get_or (filter p (numbers_below n)) j d
filter_below-rises p zero i j d l m = absurd (omega arith)
filter_below-rises p (suc n) i j d l m = elim (cases_Bool (p n)) [
  | inl e ↦ subst (λ (xs : List ℕ). j < length xs → get_or xs i d < get_or xs j d) (sym (filter_suc-yes p n e))
      (rises-push (filter p (numbers_below n)) n (filter_below-rises p n) (λ k c h. (filter_below-at p n k c h).0) i j d l) m
  | inr e ↦ subst (λ (xs : List ℕ). j < length xs → get_or xs i d < get_or xs j d) (sym (filter_suc-no p n e)) (filter_below-rises p n i j d l) m
]

-- none stands there twice
pub filter_below-once : (p : ℕ → Bool) (n i j d : ℕ) → i < length (filter p (numbers_below n)) → j < length (filter p (numbers_below n)) → get_or (filter p (numbers_below n)) i d ≡ get_or (filter p (numbers_below n)) j d → i ≡ j
filter_below-once p n i j d li lj e = elim (cases_order i j) [
  | inl same ↦ same
  | inr apart ↦ elim apart [
    | inl less ↦ absurd (omega (arith, filter_below-rises p n i j d less lj))
    | inr more ↦ absurd (omega (arith, filter_below-rises p n j i d more li))
  ]
]
