-- How many pieces pass a test, and how many of a group.
use Rattle.std.proofs.Common.{◌≡◌, ◌≢◌, ℕ, zero, suc, ◌+◌, ◌<◌, ◌≤◌, ◌==◌, ◌&&◌, inl, inr, Bool, true, false, not, cond, List, [], ◌∷◌, ◌++◌, length, map, filter, slice_index_or, refl, sym, ap, ◌∙◌, subst, arith, IsPermutation, sum_by}
use Rattle.std.proofs.lemmas.Bool.{cases_Bool, cases_eq, cases_lt, and_parts, and_from, both_ways, eq-eqb, eqb-true}
use Rattle.std.proofs.lemmas.List.Sums.{sum_by-cons}
use Rattle.std.proofs.lemmas.List.Sorted.{sum_by-IsPermutation}
use Rattle.permutations.specs.Count.{sum_below}
use Rattle.permutations.proofs.Sums.{sum_below-ext, sum_below-term}
use Rattle.pair_split.specs.Split.{items_of, item_at}
use Rattle.pair_split.specs.declared.components.Piece.{Piece}
use Rattle.pair_split.specs.declared.components.Comp.{Comp}
use Rattle.pair_split.proofs.Links.{no_piece}
use Rattle.spqr_tree.specs.Merged.{how_many, is_outer, gathered}

-- one element more in front
pub number-cons : {X : Type 0} (t : X → Bool) (x : X) (xs : List X) → length (filter t (x ∷ xs)) ≡ cond (t x) 1 0 + length (filter t xs)
number-cons t x xs = elim (cases_Bool (t x)) [ inl h ↦ rw h (omega arith) | inr h ↦ rw h (omega arith) ]

-- two lists one after the other
pub number-append : {X : Type 0} (t : X → Bool) (xs others : List X) → length (filter t (xs ++ others)) ≡ length (filter t xs) + length (filter t others)
number-append t [] others = omega arith
number-append t (x ∷ xs) others = omega (arith, number-cons t x (xs ++ others), number-cons t x xs, number-append t xs others)

-- an element that passes counts
pub number-from : {X : Type 0} (o : X) (t : X → Bool) (xs : List X) (i : ℕ) → i < length xs → t (slice_index_or xs i o) ≡ true → 1 ≤ length (filter t xs)
number-from o t [] i l h = absurd (omega (arith, l))
number-from o t (x ∷ xs) zero l h = rw h (omega arith)
number-from o t (x ∷ xs) (suc i) l h = omega (arith, number-cons t x xs, number-from o t xs i (omega (arith, l)) h)

-- where one counts, there is one
pub number-some : {X : Type 0} (o : X) (t : X → Bool) (xs : List X) → 1 ≤ length (filter t xs) → (i : ℕ) × (i < length xs) × (t (slice_index_or xs i o) ≡ true)
number-some o t [] l = absurd (omega (arith, l))
number-some o t (x ∷ xs) l = elim (cases_Bool (t x)) [
  | inl h ↦ (0, omega arith, h)
  | inr h ↦ let w = number-some o t xs (rw h at l) in (suc w.0, omega (arith, w.1), w.2)
]

-- elements at two places that pass are two
pub number-two : {X : Type 0} (o : X) (t : X → Bool) (xs : List X) (i j : ℕ) → i < length xs → j < length xs → i ≢ j → t (slice_index_or xs i o) ≡ true → t (slice_index_or xs j o) ≡ true → 2 ≤ length (filter t xs)
number-two o t [] i j l k n h m = absurd (omega (arith, l))
number-two o t (x ∷ xs) zero zero l k n h m = absurd (n refl)
number-two o t (x ∷ xs) zero (suc j) l k n h m = rw h (omega (arith, number-from o t xs j (omega (arith, k)) m))
number-two o t (x ∷ xs) (suc i) zero l k n h m = rw m (omega (arith, number-from o t xs i (omega (arith, l)) h))
number-two o t (x ∷ xs) (suc i) (suc j) l k n h m = omega (arith, number-cons t x xs, number-two o t xs i j (omega (arith, l)) (omega (arith, k)) (λ e. n (ap suc e)) h m)

-- where at most one place has an element that passes, at most one does
pub number-once : {X : Type 0} (o : X) (t : X → Bool) (xs : List X)
    → ((i j : ℕ) → i < length xs → j < length xs → t (slice_index_or xs i o) ≡ true → t (slice_index_or xs j o) ≡ true → i ≡ j)
    → length (filter t xs) ≤ 1
number-once o t [] u = omega arith
number-once o t (x ∷ xs) u = elim (cases_Bool (t x)) [
  | inl h ↦ elim (cases_lt 0 (length (filter t xs))) [
    | inl l ↦ let w = number-some o t xs l in absurd (zero-suc w.0 (u 0 (suc w.0) (omega arith) (omega (arith, w.1)) h w.2))
    | inr l ↦ rw h (omega (arith, l))
  ]
  | inr h ↦ rw h (number-once o t xs (λ i j l k m n. same-suc i j (u (suc i) (suc j) (omega (arith, l)) (omega (arith, k)) m n)))
]
  where
    zero-suc : (i : ℕ) → 0 ≡ suc i → ⊥
    zero-suc i e = absurd (omega (arith, e))

    same-suc : (i j : ℕ) → suc i ≡ suc j → i ≡ j
    same-suc i j e = omega (arith, e)

-- a weaker test passes no fewer
pub number-weaker : {X : Type 0} (t u : X → Bool) (xs : List X) → ((x : X) → t x ≡ true → u x ≡ true) → length (filter t xs) ≤ length (filter u xs)
number-weaker t u [] h = omega arith
number-weaker t u (x ∷ xs) h = elim (cases_Bool (t x)) [
  | inl a ↦ rw (a, h x a) (omega (arith, number-weaker t u xs h))
  | inr a ↦ rw a (omega (arith, number-cons u x xs, number-weaker t u xs h))
]

-- tests that agree pass as many
pub number-ext : {X : Type 0} (t u : X → Bool) (xs : List X) → ((x : X) → t x ≡ u x) → length (filter t xs) ≡ length (filter u xs)
number-ext t u [] h = refl
number-ext t u (x ∷ xs) h = rw (number-cons t x xs, number-cons u x xs, number-ext t u xs h, h x) refl

-- tests that agree on the elements pass as many
pub number-within : {X : Type 0} (o : X) (t u : X → Bool) (xs : List X) → ((i : ℕ) → i < length xs → t (slice_index_or xs i o) ≡ u (slice_index_or xs i o)) → length (filter t xs) ≡ length (filter u xs)
number-within o t u [] h = refl
number-within o t u (x ∷ xs) h = rw (number-cons t x xs, number-cons u x xs, number-within o t u xs (λ i l. h (suc i) (omega (arith, l))), h 0 (omega arith)) refl

-- where all pass, all count
pub number-all : {X : Type 0} (o : X) (t : X → Bool) (xs : List X) → ((i : ℕ) → i < length xs → t (slice_index_or xs i o) ≡ true) → length (filter t xs) ≡ length xs
number-all o t [] h = refl
number-all o t (x ∷ xs) h = rw (number-cons t x xs, number-all o t xs (λ i l. h (suc i) (omega (arith, l))), h 0 (omega arith)) (omega arith)

-- where none passes, none counts
pub number-none : {X : Type 0} (o : X) (t : X → Bool) (xs : List X) → ((i : ℕ) → i < length xs → t (slice_index_or xs i o) ≡ false) → length (filter t xs) ≡ 0
number-none o t [] h = refl
number-none o t (x ∷ xs) h = rw (number-cons t x xs, number-none o t xs (λ i l. h (suc i) (omega (arith, l))), h 0 (omega arith)) (omega arith)

-- the images that pass
pub number-map : {X Y : Type 0} (f : X → Y) (t : Y → Bool) (xs : List X) → length (filter t (map f xs)) ≡ length (filter (λ x. t (f x)) xs)
number-map f t [] = refl
number-map f t (x ∷ xs) = number-cons t (f x) (map f xs) ∙ ap (λ z. cond (t (f x)) 1 0 + z) (number-map f t xs) ∙ sym (number-cons (λ y. t (f y)) x xs)

-- those that pass, parted by another test
pub number-parts : {X : Type 0} (a t : X → Bool) (xs : List X) → length (filter t xs) ≡ length (filter (λ x. not (a x) && t x) xs) + length (filter (λ x. a x && t x) xs)
number-parts a t [] = refl
number-parts a t (x ∷ xs) = rw (number-cons t x xs, number-cons (λ y. not (a y) && t y) x xs, number-cons (λ y. a y && t y) x xs) (omega (arith, number-parts a t xs, one (a x) (t x)))
  where
    one : (b c : Bool) → cond c 1 0 ≡ cond (not b && c) 1 0 + cond (b && c) 1 0
    one true c = omega arith
    one false c = omega arith

-- where an element at one place alone passes a test, that one counts where it passes another one as well
pub number-only : {X : Type 0} (o : X) (a t : X → Bool) (xs : List X) (i : ℕ) → i < length xs → a (slice_index_or xs i o) ≡ true → length (filter a xs) ≤ 1 → length (filter (λ x. a x && t x) xs) ≡ cond (t (slice_index_or xs i o)) 1 0
number-only o a t xs i l h few = elim (cases_Bool (t (slice_index_or xs i o))) [
  | inl p ↦ rw p (omega (
    arith,
    few,
    number-weaker (λ x. a x && t x) a xs (λ x q. (and_parts (a x) (t x) q).0),
    number-from o (λ x. a x && t x) xs i l (and_from (a (slice_index_or xs i o)) (t (slice_index_or xs i o)) h p),
  ))
  | inr p ↦ rw p (elim (cases_lt 0 (length (filter (λ x. a x && t x) xs))) [
    | inl some ↦
        let w = number-some o (λ x. a x && t x) xs some in
        let q = and_parts (a (slice_index_or xs w.0 o)) (t (slice_index_or xs w.0 o)) w.2 in
        elim (cases_eq w.0 i) [
          | inl e ↦ absurd (both_ways (t (slice_index_or xs i o)) p (subst (λ j. t (slice_index_or xs j o) ≡ true) e q.1))
          | inr n ↦ absurd (omega (arith, few, number-two o a xs w.0 i w.1 l n q.0 h))
        ]
    | inr none ↦ omega (arith, none)
  ])
]

-- as many as pass a test count, in any order
pub permutation-how_many : (t : Piece → Bool) (pieces others : List Piece) → IsPermutation pieces others → how_many t others ≡ how_many t pieces
permutation-how_many t pieces others p = as-sum others ∙ sum_by-IsPermutation (λ piece. cond (t piece) 1 0) pieces others p ∙ sym (as-sum pieces)
  where
    as-sum : (l : List Piece) → how_many t l ≡ sum_by (λ piece. cond (t piece) 1 0) l
    as-sum [] = refl
    as-sum (piece ∷ l) = number-cons t piece l ∙ ap (λ z. cond (t piece) 1 0 + z) (as-sum l) ∙ sym (sum_by-cons (λ q. cond (t q) 1 0) piece l)

-- a sum that is not zero has such a term
pub sum-some : (n : ℕ) (f : ℕ → ℕ) → 1 ≤ sum_below n f → (x : ℕ) × (x < n) × (1 ≤ f x)
sum-some zero f l = absurd (omega (arith, l))
sum-some (suc n) f l = elim (cases_lt 0 (f n)) [
  | inl a ↦ (n, omega arith, a)
  | inr a ↦ let w = sum-some n f (omega (arith, l, a)) in (w.0, omega (arith, w.1), w.2)
]

-- a sum of terms, of which one at most is not zero, and that one is at most one
pub sum-once : (n : ℕ) (f : ℕ → ℕ) → ((x : ℕ) → x < n → f x ≤ 1) → ((x y : ℕ) → x < n → y < n → 1 ≤ f x → 1 ≤ f y → x ≡ y) → sum_below n f ≤ 1
sum-once zero f h u = omega arith
sum-once (suc n) f h u = elim (cases_lt 0 (f n)) [
  | inl a ↦ elim (cases_lt 0 (sum_below n f)) [
    | inl b ↦ let w = sum-some n f b in absurd (omega (arith, w.1, u w.0 n (omega (arith, w.1)) (omega arith) w.2 a))
    | inr b ↦ omega (arith, b, h n (omega arith))
  ]
  | inr a ↦ omega (arith, a, sum-once n f (λ x l. h x (omega (arith, l))) (λ x y l k. u x y (omega (arith, l)) (omega (arith, k))))
]

-- one term changed
pub sum-changed : (n : ℕ) (f h : ℕ → ℕ) (d : ℕ) → d < n → ((x : ℕ) → x < n → x ≢ d → h x ≡ f x) → sum_below n h + f d ≡ sum_below n f + h d
sum-changed zero f h d l e = absurd (omega (arith, l))
sum-changed (suc n) f h d l e = elim (cases_eq d n) [
  | inl i ↦ let s : sum_below n h ≡ sum_below n f = sum_below-ext n h f (λ x k. e x (omega (arith, k)) (λ j. omega (arith, k, j, i))) in omega (arith, s, ap f i, ap h i)
  | inr i ↦ omega (arith, sum-changed n f h d (omega (arith, l, i)) (λ x k. e x (omega (arith, k))), e n (omega arith) (λ j. i (sym j)))
]

module _ (comps : List Comp) (lead : ℕ → ℕ) (k : ℕ) (t : Piece → Bool) where
  -- the pieces of component x that count
  abbrev pub share : ℕ → ℕ
  share x = cond (lead x == k) (how_many (λ piece. is_outer lead k piece.what && t piece) (items_of comps x)) 0

  -- a piece of the group that passes counts
  pub gathered-from : (x i : ℕ) → x < length comps → lead x ≡ k → i < length (items_of comps x) → is_outer lead k (item_at comps x i).what ≡ true → t (item_at comps x i) ≡ true → 1 ≤ gathered comps lead k t
  gathered-from x i l e j o h =
      let one = number-from no_piece (λ piece. is_outer lead k piece.what && t piece) (items_of comps x) i j (and_from (is_outer lead k (item_at comps x i).what) (t (item_at comps x i)) o h) in
      let s : share x ≡ how_many (λ piece. is_outer lead k piece.what && t piece) (items_of comps x) = rw (eq-eqb (lead x) k e) refl in
      omega (arith, one, s, sum_below-term (length comps) share x l)

  -- a component with a piece that counts
  share-some : (x : ℕ) → 1 ≤ share x → (i : ℕ) × (i < length (items_of comps x)) × (lead x ≡ k) × (is_outer lead k (item_at comps x i).what ≡ true) × (t (item_at comps x i) ≡ true)
  share-some x h = elim (cases_Bool (lead x == k)) [
    | inl e ↦
        let w = number-some no_piece (λ piece. is_outer lead k piece.what && t piece) (items_of comps x) (rw e at h) in
        let p = and_parts (is_outer lead k (item_at comps x w.0).what) (t (item_at comps x w.0)) w.2 in
        (w.0, w.1, eqb-true (lead x) k e, p.0, p.1)
    | inr e ↦ absurd (omega (arith, h, ap (λ (b : Bool). cond b (how_many (λ piece. is_outer lead k piece.what && t piece) (items_of comps x)) 0) e))
  ]

  -- a piece of the group that passes
  pub record Gathered : Type 0 where
    pub home : ℕ
    pub place : ℕ
    pub home_in : home < length comps
    pub led : lead home ≡ k
    pub place_in : place < length (items_of comps home)
    pub outer : is_outer lead k (item_at comps home place).what ≡ true
    pub passes : t (item_at comps home place) ≡ true

  -- where one counts, there is one
  pub gathered-some : 1 ≤ gathered comps lead k t → Gathered
  gathered-some h =
      let w = sum-some (length comps) share h in
      let i = share-some w.0 w.2 in
      record { home = w.0; place = i.0; home_in = w.1; led = i.2; place_in = i.1; outer = i.3; passes = i.4 }

  -- where at most one piece of the group passes, at most one counts
  pub gathered-once : ((x i y j : ℕ) → x < length comps → y < length comps → lead x ≡ k → lead y ≡ k → i < length (items_of comps x) → j < length (items_of comps y)
      → is_outer lead k (item_at comps x i).what ≡ true → is_outer lead k (item_at comps y j).what ≡ true → t (item_at comps x i) ≡ true → t (item_at comps y j) ≡ true → (x ≡ y) × (i ≡ j))
      → gathered comps lead k t ≤ 1
  gathered-once u = sum-once (length comps) share few (λ x y l m a b. let i = share-some x a in let j = share-some y b in (u x i.0 y j.0 l m i.2 j.2 i.1 j.1 i.3 j.3 i.4 j.4).0)
    where
      few : (x : ℕ) → x < length comps → share x ≤ 1
      few x l = elim (cases_Bool (lead x == k)) [
        | inl e ↦ rw e (number-once no_piece (λ piece. is_outer lead k piece.what && t piece) (items_of comps x) (λ i j a b p q.
            let v = and_parts (is_outer lead k (item_at comps x i).what) (t (item_at comps x i)) p in
            let w = and_parts (is_outer lead k (item_at comps x j).what) (t (item_at comps x j)) q in
            (u x i x j l l (eqb-true (lead x) k e) (eqb-true (lead x) k e) a b v.0 w.0 v.1 w.1).1))
        | inr e ↦ rw e (omega arith)
      ]
