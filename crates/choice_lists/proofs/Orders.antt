-- Linear orders, the lexicographic order over one, and rising lists told by their members.
use Rattle.std.proofs.Common.{◌≡◌, ℕ, zero, suc, ◌<◌, ◌↔◌, ◌⊎◌, inl, inr, Bool, true, false, cond, nat_lt, List, [], ◌∷◌, ◌++◌, length, Contains, refl, sym, ap, ap₂, ◌∙◌, subst, arith}
use Rattle.std.proofs.lemmas.Bool.{both_ways, false_from_ne_true, cases_Bool, true≢false, lt-ltb, le-ltb, ltb-true, ltb-false, eq-eqb, ne_eqb, cases_order}
use mathlib.Core.Path.{fun_ext}
use Rattle.choice_lists.specs.Order.{IsLinear, IsRising, IsLessWhereTheyDiffer, lexicographic, is_before, vector_before}
use Rattle.choice_lists.proofs.Places.{Has, Ascends, ascends-from, has-from, contains-from}

-- numbers by size
pub linear-numbers : IsLinear nat_lt
linear-numbers = record {
  apart = λ x y h. let l : x < y = ltb-true x y h in le-ltb y x (omega arith);
  transitive = λ x y z h k. let l : x < y = ltb-true x y h in let m : y < z = ltb-true y z k in lt-ltb x z (omega arith);
  one_of_three = λ x y h k. omega (arith, ltb-false x y h, ltb-false y x k);
}

-- what comes before nothing twice: nothing comes before itself
pub never-itself : {X : Type 0} (before : X → X → Bool) → ((x y : X) → before x y ≡ true → before y x ≡ false) → (x : X) → before x x ≡ false
never-itself before a x = false_from_ne_true (before x x) (λ h. both_ways (before x x) (a x x h) h)

-- the first members decide
pub lex-less : {X : Type 0} (before : X → X → Bool) (x y : X) (xs ys : List X) → before x y ≡ true → lexicographic before (x ∷ xs) (y ∷ ys) ≡ true
lex-less before x y xs ys h = rw h refl

-- where neither comes first the rest decides
pub lex-rest : {X : Type 0} (before : X → X → Bool) (x y : X) (xs ys : List X) → before x y ≡ false → before y x ≡ false
    → lexicographic before (x ∷ xs) (y ∷ ys) ≡ lexicographic before xs ys
lex-rest before x y xs ys h k = rw (h, k) refl

-- with one first member the rest decides
pub lex-same : {X : Type 0} (before : X → X → Bool) (x : X) (xs ys : List X) → before x x ≡ false
    → lexicographic before (x ∷ xs) (x ∷ ys) ≡ lexicographic before xs ys
lex-same before x xs ys h = rw h refl

-- what decides
pub lex-cases : {X : Type 0} (before : X → X → Bool) (x y : X) (xs ys : List X) → lexicographic before (x ∷ xs) (y ∷ ys) ≡ true
    → (before x y ≡ true) ⊎ ((before x y ≡ false) × (before y x ≡ false) × (lexicographic before xs ys ≡ true))
lex-cases before x y xs ys h = elim (cases_Bool (before x y)) [
  | inl e ↦ inl e
  | inr e ↦ elim (cases_Bool (before y x)) [
    | inl f ↦ absurd (true≢false (sym (rw (e, f) at h)))
    | inr f ↦ inr (e, f, rw (e, f) at h)
  ]
]

-- never both ways
lex-apart : {X : Type 0} (before : X → X → Bool) → IsLinear before → (xs ys : List X) → lexicographic before xs ys ≡ true → lexicographic before ys xs ≡ false
lex-apart before l [] [] h = refl
lex-apart before l [] (y ∷ ys) h = refl
lex-apart before l (x ∷ xs) [] h = absurd (true≢false (sym h))
lex-apart before l (x ∷ xs) (y ∷ ys) h = elim (lex-cases before x y xs ys h) [
  | inl e ↦ let f = l.apart x y e in rw (f, e) refl
  | inr e ↦ lex-rest before y x ys xs e.1 e.0 ∙ lex-apart before l xs ys e.2
]

-- transitive
lex-trans : {X : Type 0} (before : X → X → Bool) → IsLinear before → (xs ys zs : List X)
    → lexicographic before xs ys ≡ true → lexicographic before ys zs ≡ true → lexicographic before xs zs ≡ true
lex-trans before l [] [] zs h k = absurd (true≢false (sym h))
lex-trans before l [] (y ∷ ys) [] h k = absurd (true≢false (sym k))
lex-trans before l [] (y ∷ ys) (z ∷ zs) h k = refl
lex-trans before l (x ∷ xs) [] zs h k = absurd (true≢false (sym h))
lex-trans before l (x ∷ xs) (y ∷ ys) [] h k = absurd (true≢false (sym k))
lex-trans before l (x ∷ xs) (y ∷ ys) (z ∷ zs) h k = elim (lex-cases before x y xs ys h) [
  | inl a ↦ elim (lex-cases before y z ys zs k) [
    | inl b ↦ lex-less before x z xs zs (l.transitive x y z a b)
    | inr b ↦ lex-less before x z xs zs (subst (λ v. before x v ≡ true) (l.one_of_three y z b.0 b.1) a)
  ]
  | inr a ↦ elim (lex-cases before y z ys zs k) [
    | inl b ↦ lex-less before x z xs zs (subst (λ v. before v z ≡ true) (sym (l.one_of_three x y a.0 a.1)) b)
    | inr b ↦
        let e = l.one_of_three y z b.0 b.1 in
        lex-rest before x z xs zs (subst (λ v. before x v ≡ false) e a.0) (subst (λ v. before v x ≡ false) e a.1) ∙ lex-trans before l xs ys zs a.2 b.2
  ]
]

-- one of three
lex-three : {X : Type 0} (before : X → X → Bool) → IsLinear before → (xs ys : List X)
    → lexicographic before xs ys ≡ false → lexicographic before ys xs ≡ false → xs ≡ ys
lex-three before l [] [] h k = refl
lex-three before l [] (y ∷ ys) h k = absurd (true≢false h)
lex-three before l (x ∷ xs) [] h k = absurd (true≢false k)
lex-three before l (x ∷ xs) (y ∷ ys) h k = elim (cases_Bool (before x y)) [
  | inl e ↦ absurd (both_ways (lexicographic before (x ∷ xs) (y ∷ ys)) h (lex-less before x y xs ys e))
  | inr e ↦ elim (cases_Bool (before y x)) [
    | inl f ↦ absurd (both_ways (lexicographic before (y ∷ ys) (x ∷ xs)) k (lex-less before y x ys xs f))
    | inr f ↦ ap₂ (λ a b. a ∷ b) (l.one_of_three x y e f)
        (lex-three before l xs ys (sym (lex-rest before x y xs ys e f) ∙ h) (sym (lex-rest before y x ys xs f e) ∙ k))
  ]
]

-- the lexicographic order over a linear order is linear
pub linear-lexicographic : {X : Type 0} (before : X → X → Bool) → IsLinear before → IsLinear (lexicographic before)
linear-lexicographic before l = record { apart = lex-apart before l; transitive = lex-trans before l; one_of_three = lex-three before l }

-- the order of lists of numbers is the lexicographic order over the numbers
pub before-lexicographic : (xs ys : List ℕ) → is_before xs ys ≡ lexicographic nat_lt xs ys
before-lexicographic [] [] = refl
before-lexicographic [] (y ∷ ys) = refl
before-lexicographic (x ∷ xs) [] = refl
before-lexicographic (x ∷ xs) (y ∷ ys) = elim (cases_order x y) [
  | inl e ↦
      let a = le-ltb x y (omega (arith, e)) in let b = le-ltb y x (omega (arith, e)) in let c = eq-eqb x y e in
      rw (a, c, b) (before-lexicographic xs ys)
  | inr d ↦ elim d [
    | inl l ↦ rw (lt-ltb x y l) refl
    | inr l ↦ let a = le-ltb x y (omega (arith, l)) in let b = lt-ltb y x l in let c = ne_eqb x y (λ e. absurd (omega (arith, l, e))) in rw (a, c, b) refl
  ]
]

-- so it is linear
pub linear-before : IsLinear is_before
linear-before = subst (λ (t : List ℕ → List ℕ → Bool). IsLinear t) (fun_ext (λ xs. fun_ext (λ ys. sym (before-lexicographic xs ys)))) (linear-lexicographic nat_lt linear-numbers)

-- the order of vectors is linear
pub linear-vectors : IsLinear vector_before
linear-vectors = linear-lexicographic is_before linear-before

-- a list that is less where they differ comes before
pub lex-from_difference : {X : Type 0} (before : X → X → Bool) → IsLinear before → (xs ys : List X) → IsLessWhereTheyDiffer before xs ys → lexicographic before xs ys ≡ true
lex-from_difference {X} before l xs ys d = subst (λ z. lexicographic before z ys ≡ true) (sym d.first) (subst (λ z. lexicographic before (d.common ++ d.x ∷ d.xs_rest) z ≡ true) (sym d.second) (go d.common))
  where
    go : (c : List X) → lexicographic before (c ++ d.x ∷ d.xs_rest) (c ++ d.y ∷ d.ys_rest) ≡ true
    go [] = lex-less before d.x d.y d.xs_rest d.ys_rest d.lesser
    go (z ∷ c) = lex-same before z (c ++ d.x ∷ d.xs_rest) (c ++ d.y ∷ d.ys_rest) (never-itself before l.apart z) ∙ go c

-- of two equally long lists, the one that comes before is less where they differ
pub lex-difference : {X : Type 0} (before : X → X → Bool) → IsLinear before → (xs ys : List X) → length xs ≡ length ys → lexicographic before xs ys ≡ true → IsLessWhereTheyDiffer before xs ys
lex-difference before l [] [] e h = absurd (true≢false (sym h))
lex-difference before l [] (y ∷ ys) e h = absurd (omega arith)
lex-difference before l (x ∷ xs) [] e h = absurd (omega arith)
lex-difference before l (x ∷ xs) (y ∷ ys) e h = elim (lex-cases before x y xs ys h) [
  | inl a ↦ record { common = []; x = x; y = y; xs_rest = xs; ys_rest = ys; first = refl; second = refl; lesser = a }
  | inr a ↦
      let r = lex-difference before l xs ys (omega arith) a.2 in
      record {
        common = x ∷ r.common;
        x = r.x;
        y = r.y;
        xs_rest = r.xs_rest;
        ys_rest = r.ys_rest;
        first = ap (λ z. x ∷ z) r.first;
        second = ap₂ (λ u v. u ∷ v) (sym (l.one_of_three x y a.0 a.1)) r.second;
        lesser = r.lesser;
      }
]

-- one choice more at the end: it decides where all before are equal
pub lex-longer : {X : Type 0} (before : X → X → Bool) → IsLinear before → (xs ys : List X) (x y : X) → length xs ≡ length ys
    → lexicographic before (xs ++ x ∷ []) (ys ++ y ∷ []) ≡ cond (lexicographic before xs ys) true (cond (lexicographic before ys xs) false (before x y))
lex-longer before l [] [] x y e = elim (cases_Bool (before x y)) [ inl a ↦ rw a refl | inr a ↦ elim (cases_Bool (before y x)) [ inl b ↦ rw (a, b) refl | inr b ↦ rw (a, b) refl ] ]
lex-longer before l [] (w ∷ ys) x y e = absurd (omega arith)
lex-longer before l (v ∷ xs) [] x y e = absurd (omega arith)
lex-longer before l (v ∷ xs) (w ∷ ys) x y e = elim (cases_Bool (before v w)) [
  | inl a ↦ rw a refl
  | inr a ↦ elim (cases_Bool (before w v)) [
    | inl b ↦ rw (a, b) refl
    | inr b ↦ rw (a, b) (lex-longer before l xs ys x y (omega arith))
  ]
]

-- two rising lists with the same members are equal
pub ascends-same : {X : Type 0} (before : X → X → Bool) → ((x y : X) → before x y ≡ true → before y x ≡ false) → (l k : List X) → Ascends before l → Ascends before k
    → ((x : X) → Has l x → Has k x) → ((x : X) → Has k x → Has l x) → l ≡ k
ascends-same before p [] [] a b f g = refl
ascends-same before p [] (y ∷ k) a b f g = absurd ((g y (0, refl)).1)
ascends-same before p (x ∷ l) [] a b f g = absurd ((f x (0, refl)).1)
ascends-same {X} before p (x ∷ l) (y ∷ k) a b f g = again (ascends-same before p l k a.1 b.1)
  where
    heads : x ≡ y
    heads = at (f x (0, refl)) (g y (0, refl))
      where
        at : Has (y ∷ k) x → Has (x ∷ l) y → x ≡ y
        at (zero, e) m = sym e
        at (suc i, e) (zero, m) = m
        at (suc i, e) (suc j, m) = absurd (both_ways (before y x) (p x y (a.0 j y m)) (b.0 i x e))

    down : (z : X) → Has l z → Has k z
    down z h = at (f z (suc h.0, h.1))
      where
        at : Has (y ∷ k) z → Has k z
        at (zero, e) = absurd (both_ways (before x z) (subst (λ v. before x v ≡ false) (heads ∙ e) (never-itself before p x)) (a.0 h.0 z h.1))
        at (suc i, e) = (i, e)

    up : (z : X) → Has k z → Has l z
    up z h = at (g z (suc h.0, h.1))
      where
        at : Has (x ∷ l) z → Has l z
        at (zero, e) = absurd (both_ways (before y z) (subst (λ v. before y v ≡ false) (sym heads ∙ e) (never-itself before p y)) (b.0 h.0 z h.1))
        at (suc i, e) = (i, e)

    again : (((z : X) → Has l z → Has k z) → ((z : X) → Has k z → Has l z) → l ≡ k) → x ∷ l ≡ y ∷ k
    again r = ap₂ (λ u v. u ∷ v) heads (r down up)

-- the same in the public form
pub rising-same : {X : Type 0} (before : X → X → Bool) → ((x y : X) → before x y ≡ true → before y x ≡ false) → (l k : List X) → IsRising before l → IsRising before k
    → ((x : X) → Contains l x ↔ Contains k x) → l ≡ k
rising-same before p l k a b h = ascends-same before p l k (ascends-from before l a) (ascends-from before k b)
    (λ x m. has-from k x ((h x).0 (contains-from l x m)))
    (λ x m. has-from l x ((h x).1 (contains-from k x m)))
