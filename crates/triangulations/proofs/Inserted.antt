-- Two new numbers put into a permutation that is kept as two lists: the first before d, the second after q.
use Rattle.std.proofs.Common.{◌≡◌, ◌≢◌, ℕ, ◌+◌, ◌<◌, ◌⊎◌, inl, inr, List, [], ◌∷◌, ◌++◌, length, slice_index, slice_set, sym, ap, ◌∙◌, arith}
use Rattle.std.proofs.lemmas.Bool.{cases_eq, cases_lt}
use Rattle.std.proofs.lemmas.List.{length-append, length-set, get_or_append_left, get_or_push, get_or-set_same, get_or-set_other}
use Rattle.permutations.specs.Permutation.{Permutes}

-- a list with two more members
module _ (l : List ℕ) (n a c : ℕ) (e : length l ≡ n) where
  abbrev longer : List ℕ
  longer = (l ++ a ∷ []) ++ c ∷ []

  pub longer-length : length ((l ++ a ∷ []) ++ c ∷ []) ≡ n + 2
  longer-length = let i = length-append (l ++ a ∷ []) (c ∷ []) in let j = length-append l (a ∷ []) in omega (arith, e, i, j)

  one-more : length (l ++ a ∷ []) ≡ n + 1
  one-more = let j = length-append l (a ∷ []) in omega (arith, e, j)

  pub longer-old : (k : ℕ) → k < n → slice_index ((l ++ a ∷ []) ++ c ∷ []) k ≡ slice_index l k
  longer-old k i = get_or_append_left (l ++ a ∷ []) (c ∷ []) 0 k (omega (arith, i, one-more)) ∙ get_or_append_left l (a ∷ []) 0 k (omega (arith, i, e))

  pub longer-first : slice_index ((l ++ a ∷ []) ++ c ∷ []) n ≡ a
  longer-first = get_or_append_left (l ++ a ∷ []) (c ∷ []) 0 n (omega (arith, one-more)) ∙ get_or_push l a 0 n e

  pub longer-second : slice_index ((l ++ a ∷ []) ++ c ∷ []) (n + 1) ≡ c
  longer-second = get_or_push (l ++ a ∷ []) c 0 (n + 1) one-more

  -- with two members changed
  module _ (p q : ℕ) (lp : p < n) (lq : q < n) (pq : p ≢ q) where
    abbrev changed : List ℕ
    changed = slice_set (slice_set ((l ++ a ∷ []) ++ c ∷ []) p n) q (n + 1)

    pub changed-q : slice_index changed q ≡ n + 1
    changed-q = get_or-set_same (slice_set longer p n) q (n + 1) 0 (omega (arith, lq, longer-length, length-set longer p n))

    pub changed-p : slice_index changed p ≡ n
    changed-p = get_or-set_other (slice_set longer p n) q p (n + 1) 0 pq ∙ get_or-set_same longer p n 0 (omega (arith, lp, longer-length))

    changed-other : (k : ℕ) → k ≢ p → k ≢ q → slice_index changed k ≡ slice_index longer k
    changed-other k i j = get_or-set_other (slice_set longer p n) q k (n + 1) 0 j ∙ get_or-set_other longer p k n 0 i

    pub changed-first : slice_index changed n ≡ a
    changed-first = changed-other n (λ i. omega (arith, i, lp)) (λ i. omega (arith, i, lq)) ∙ longer-first

    pub changed-second : slice_index changed (n + 1) ≡ c
    changed-second = changed-other (n + 1) (λ i. omega (arith, i, lp)) (λ i. omega (arith, i, lq)) ∙ longer-second

    pub changed-old : (k : ℕ) → k < n → k ≢ p → k ≢ q → slice_index changed k ≡ slice_index l k
    changed-old k u i j = changed-other k i j ∙ longer-old k u

-- f and g with two new numbers, n between p and d, and n + 1 between q and x
module _ (n : ℕ) (f g : ℕ → ℕ) (b : Permutes n f g) (d q : ℕ) (ld : d < n) (lq : q < n) (pq : g d ≢ q) (f' g' : ℕ → ℕ)
    (fp : f' (g d) ≡ n) (fq : f' q ≡ n + 1) (fn : f' n ≡ d) (fm : f' (n + 1) ≡ f q) (fo : (k : ℕ) → k < n → k ≢ g d → k ≢ q → f' k ≡ f k)
    (gd : g' d ≡ n) (gx : g' (f q) ≡ n + 1) (gn : g' n ≡ g d) (gm : g' (n + 1) ≡ q) (go : (k : ℕ) → k < n → k ≢ d → k ≢ f q → g' k ≡ g k) where
  new-cases : (k : ℕ) → k < n + 2 → (k < n) ⊎ ((k ≡ n) ⊎ (k ≡ n + 1))
  new-cases k l = elim (cases_lt k n) [
    | inl i ↦ inl i
    | inr i ↦ elim (cases_eq k n) [ inl j ↦ inr (inl j) | inr j ↦ inr (inr (omega (arith, l, i, j))) ]
  ]

  forth : (k : ℕ) → k < n + 2 → (f' k < n + 2) × (g' (f' k) ≡ k)
  forth k l = elim (new-cases k l) [
    | inl u ↦ elim (cases_eq k (g d)) [
      | inl i ↦ let e : f' k ≡ n = ap f' i ∙ fp in (omega (arith, e), ap g' e ∙ gn ∙ sym i)
      | inr i ↦ elim (cases_eq k q) [
        | inl j ↦ let e : f' k ≡ n + 1 = ap f' j ∙ fq in (omega (arith, e), ap g' e ∙ gm ∙ sym j)
        | inr j ↦ let e : f' k ≡ f k = fo k u i j in let v = b.forth k u in
            (omega (arith, e, v), ap g' e ∙ go (f k) v (λ t. i (sym (b.back_forth k u) ∙ ap g t)) (λ t. j (sym (b.back_forth k u) ∙ ap g t ∙ b.back_forth q lq)) ∙ b.back_forth k u)
      ]
    ]
    | inr u ↦ elim u [
      | inl i ↦ let e : f' k ≡ d = ap f' i ∙ fn in (omega (arith, e, ld), ap g' e ∙ gd ∙ sym i)
      | inr i ↦ let e : f' k ≡ f q = ap f' i ∙ fm in let v = b.forth q lq in (omega (arith, e, v), ap g' e ∙ gx ∙ sym i)
    ]
  ]

  back : (k : ℕ) → k < n + 2 → (g' k < n + 2) × (f' (g' k) ≡ k)
  back k l = elim (new-cases k l) [
    | inl u ↦ elim (cases_eq k d) [
      | inl i ↦ let e : g' k ≡ n = ap g' i ∙ gd in (omega (arith, e), ap f' e ∙ fn ∙ sym i)
      | inr i ↦ elim (cases_eq k (f q)) [
        | inl j ↦ let e : g' k ≡ n + 1 = ap g' j ∙ gx in (omega (arith, e), ap f' e ∙ fm ∙ sym j)
        | inr j ↦ let e : g' k ≡ g k = go k u i j in let v = b.back k u in
            (omega (arith, e, v), ap f' e ∙ fo (g k) v (λ t. i (sym (b.forth_back k u) ∙ ap f t ∙ b.forth_back d ld)) (λ t. j (sym (b.forth_back k u) ∙ ap f t)) ∙ b.forth_back k u)
      ]
    ]
    | inr u ↦ elim u [
      | inl i ↦ let e : g' k ≡ g d = ap g' i ∙ gn in let v = b.back d ld in (omega (arith, e, v), ap f' e ∙ fp ∙ sym i)
      | inr i ↦ let e : g' k ≡ q = ap g' i ∙ gm in (omega (arith, e, lq), ap f' e ∙ fq ∙ sym i)
    ]
  ]

  -- they are inverse to each other
  pub inserted-permutes : Permutes (n + 2) f' g'
  inserted-permutes = record { forth = λ k l. (forth k l).0; back = λ k l. (back k l).0; back_forth = λ k l. (forth k l).1; forth_back = λ k l. (back k l).1 }
