-- Lists made member by member, each one of the options that those before it leave: with the least option at each place a list is
-- the least, and changed at the last place with a greater option it is the next. The options are any test.
use Rattle.std.proofs.Common.{◌≡◌, ℕ, zero, suc, ◌+◌, ◌<◌, ◌≤◌, inl, inr, Bool, true, ◌&&◌, ◌==◌, nat_lt, List, [], ◌∷◌, length, take, get_or, refl, sym, ap, ap₂, ◌∙◌, subst, arith}
use Rattle.std.proofs.lemmas.Bool.{cases_lt, both_ways, and_parts, and_from, or_cases, or_left, or_right, eq-eqb, eqb-true, lt-ltb, ltb-true, true≢false}
use Rattle.std.proofs.lemmas.List.{get_or-take, take-take, take_more_same}
use Rattle.choice_lists.specs.Order.{is_before}
use Rattle.choice_lists.proofs.Orders.{linear-before}

-- equal up to a place and less there: before
pub before-at : (l k : List ℕ) (i : ℕ) → i < length l → i < length k → take i l ≡ take i k → get_or l i 0 < get_or k i 0 → is_before l k ≡ true
before-at [] k i a b e h = absurd (omega arith)
before-at (x ∷ l) [] i a b e h = absurd (omega arith)
before-at (x ∷ l) (y ∷ k) zero a b e h = or_left (nat_lt x y) ((x == y) && is_before l k) (lt-ltb x y h)
before-at (x ∷ l) (y ∷ k) (suc i) a b e h =
    let s : x ≡ y = cc in
    let t : take i l ≡ take i k = cc in
    or_right (nat_lt x y) ((x == y) && is_before l k) (and_from (x == y) (is_before l k) (eq-eqb x y s) (before-at l k i (omega arith) (omega arith) t h))

-- of two equally long lists one that comes before is less at the first place where they differ
pub record Less (l k : List ℕ) : Type 0 where
  pub place : ℕ
  pub within : place < length l
  pub same : take place l ≡ take place k
  pub less : get_or l place 0 < get_or k place 0

pub before-place : (l k : List ℕ) → length l ≡ length k → is_before l k ≡ true → Less l k
before-place [] [] e h = absurd (true≢false (sym h))
before-place [] (y ∷ k) e h = absurd (omega arith)
before-place (x ∷ l) [] e h = absurd (omega arith)
before-place (x ∷ l) (y ∷ k) e h = elim (or_cases (nat_lt x y) ((x == y) && is_before l k) h) [
  | inl a ↦ record { place = 0; within = omega arith; same = refl; less = ltb-true x y a }
  | inr b ↦
      let p = and_parts (x == y) (is_before l k) b in
      let r = before-place l k (omega arith) p.1 in
      record { place = suc r.place; within = omega (arith, r.within); same = ap₂ (λ (u : ℕ) (v : List ℕ). u ∷ v) (eqb-true x y p.0) r.same; less = r.less }
]

-- members before a place up to which two lists are equal
pub same-member : (l k : List ℕ) (n i : ℕ) → take n l ≡ take n k → i < n → get_or l i 0 ≡ get_or k i 0
same-member l k n i e h = sym (get_or-take n l i 0 h) ∙ ap (λ (z : List ℕ). get_or z i 0) e ∙ get_or-take n k i 0 h

-- a prefix of a prefix
pub same-take : (l k : List ℕ) (n i : ℕ) → take n l ≡ take n k → i ≤ n → take i l ≡ take i k
same-take l k n i e h = sym (take-take i n l h) ∙ ap (take i) e ∙ take-take i n k h

module _ (option : List ℕ → ℕ → Bool) where
  -- each member is an option of those before it
  abbrev pub Built : List ℕ → Type 0
  Built l = (i : ℕ) → i < length l → option (take i l) (get_or l i 0) ≡ true

  -- from a place on no option is less than the member
  abbrev pub NoneLess : ℕ → List ℕ → Type 0
  NoneLess n l = (i o : ℕ) → n ≤ i → i < length l → option (take i l) o ≡ true → get_or l i 0 ≤ o

  -- from a place on no option is greater than the member
  abbrev pub NoneGreater : ℕ → List ℕ → Type 0
  NoneGreater n l = (i o : ℕ) → n ≤ i → i < length l → option (take i l) o ≡ true → o ≤ get_or l i 0

  -- with the least options from a place on, no list with the same prefix comes before
  pub filled-least : (n : ℕ) (l k : List ℕ) → length k ≡ length l → take n k ≡ take n l → NoneLess n l → Built k → is_before k l ≡ true → ⊥
  filled-least n l k e s f b h = elim (cases_lt d.place n) [
    | inl a ↦ absurd (omega (arith, d.less, same-member k l n d.place s a))
    | inr g ↦ absurd (omega (arith, d.less, f d.place (get_or k d.place 0) g (omega (arith, d.within, e)) (subst (λ (z : List ℕ). option z (get_or k d.place 0) ≡ true) d.same (b d.place d.within))))
  ]
    where
      d : Less k l
      d = before-place k l e h

  -- where from a place on no option is greater, no list with the same prefix comes after
  pub none-after : (n : ℕ) (l k : List ℕ) → length k ≡ length l → take n k ≡ take n l → NoneGreater n l → Built k → is_before l k ≡ true → ⊥
  none-after n l k e s f b h = elim (cases_lt d.place n) [
    | inl a ↦ absurd (omega (arith, d.less, same-member k l n d.place s a))
    | inr g ↦ absurd (omega (arith, d.less, f d.place (get_or k d.place 0) g d.within (subst (λ (z : List ℕ). option z (get_or k d.place 0) ≡ true) (sym d.same) (b d.place (omega (arith, d.within, e))))))
  ]
    where
      d : Less l k
      d = before-place l k (sym e) h

  module _ (l k : List ℕ) (n : ℕ) (within : n < length l) (long : length k ≡ length l) (same : take n k ≡ take n l) (greater : get_or l n 0 < get_or k n 0) where
    -- changed to a greater option: after
    pub changed-after : is_before l k ≡ true
    changed-after = before-at l k n within (omega (arith, within, long)) (sym same) greater

    -- changed to the least greater option at the last place that has one, with the least options after it: nothing is between
    pub changed-next : ((o : ℕ) → option (take n l) o ≡ true → get_or l n 0 < o → get_or k n 0 ≤ o) → NoneGreater (n + 1) l → NoneLess (n + 1) k
        → (m : List ℕ) → Built m → length m ≡ length l → is_before l m ≡ true → is_before m k ≡ true → ⊥
    changed-next least last filled m b e h t = elim (cases_lt n d.place) [
      | inl a ↦ absurd (omega (arith, d.less, last d.place (get_or m d.place 0) (omega (arith, a)) d.within option_m))
      | inr g ↦ elim (cases_lt d.place n) [
        | inl a ↦ after d.place (omega (arith, a, within)) (same-take k l n d.place same (omega (arith, a)) ∙ d.same) (omega (arith, d.less, same-member k l n d.place same a))
        | inr c ↦ here (omega (arith, g, c))
      ]
    ]
      where
        d : Less l m
        d = before-place l m (sym e) h

        option_m : option (take d.place l) (get_or m d.place 0) ≡ true
        option_m = subst (λ (z : List ℕ). option z (get_or m d.place 0) ≡ true) (sym d.same) (b d.place (omega (arith, d.within, e)))

        after : (i : ℕ) → i < length l → take i k ≡ take i m → get_or k i 0 < get_or m i 0 → ⊥
        after i w s q = both_ways (is_before k m) (linear-before.apart m k t) (before-at k m i (omega (arith, w, long)) (omega (arith, w, e)) s q)

        here : d.place ≡ n → ⊥
        here q = elim (cases_lt (get_or k n 0) (get_or m n 0)) [
          | inl a ↦ after n within (same ∙ sames) a
          | inr c ↦ filled-least (n + 1) k m (omega (arith, e, long)) (sym (take_more_same k m n 0 (omega (arith, within, long)) (omega (arith, within, e)) (same ∙ sames) (omega (arith, c, up)))) filled b t
        ]
          where
            sames : take n l ≡ take n m
            sames = subst (λ (i : ℕ). take i l ≡ take i m) q d.same

            up : get_or k n 0 ≤ get_or m n 0
            up = least (get_or m n 0) (subst (λ (i : ℕ). option (take i l) (get_or m i 0) ≡ true) q option_m) (subst (λ (i : ℕ). get_or l i 0 < get_or m i 0) q d.less)

    -- and it is made of options
    pub changed-built : Built l → option (take n l) (get_or k n 0) ≡ true → ((i : ℕ) → n + 1 ≤ i → i < length k → option (take i k) (get_or k i 0) ≡ true) → Built k
    changed-built b at rest i w = elim (cases_lt i n) [
      | inl a ↦
          subst (λ (z : ℕ). option (take i k) z ≡ true) (sym (same-member k l n i same a))
          (subst (λ (z : List ℕ). option z (get_or l i 0) ≡ true) (sym (same-take k l n i same (omega (arith, a)))) (b i (omega (arith, a, within))))
      | inr g ↦ elim (cases_lt n i) [
        | inl a ↦ rest i (omega (arith, a)) w
        | inr c ↦ let q : n ≡ i = omega (arith, g, c) in subst (λ (z : ℕ). option (take z k) (get_or k z 0) ≡ true) q (subst (λ (z : List ℕ). option z (get_or k n 0) ≡ true) (sym same) at)
      ]
    ]
