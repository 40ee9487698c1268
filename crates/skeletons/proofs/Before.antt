-- The order of rotation systems by their choices: the record and the test agree, not both of two come before the other, and a
-- rising list is told by its members.
use Rattle.std.proofs.Common.{◌≡◌, ℕ, zero, suc, ◌<◌, ◌⊎◌, ◌==◌, ◌&&◌, ◌||◌, inl, inr, true, false, not, List, [], ◌∷◌, length, refl, sym, ap₂, ◌∙◌, subst, arith, Contains}
use Rattle.std.specs.Prelude.{nat_lt, AllPairs}
use Rattle.std.proofs.lemmas.Bool.{cases_Bool, cases_eq, cases_lt, both_ways, true≢false, or_cases, or_left, or_right, and_parts, and_from, eq-eqb, eqb-true, lt-ltb, ltb-true, false_from_ne_true, not_from_false, not-true}
use Rattle.pair_split.specs.Tutte.{Node, is_before}
use Rattle.pair_split.proofs.Elements.{contains-here}
use Rattle.skeletons.specs.Choices.{choice, Precedes, precedes_below}
use Rattle.skeletons.specs.Lists.{IsListOf, IsKept}
use Rattle.skeletons.specs.Laws.{PrecedesIsTested, KeptListIsUnique}

-- no list comes before itself
pub before-irreflexive : (l : List ℕ) → is_before l l ≡ true → ⊥
before-irreflexive [] h = true≢false (sym h)
before-irreflexive (x ∷ l) h = elim (or_cases (nat_lt x x) ((x == x) && is_before l l) h) [
  | inl a ↦ omega (arith, ltb-true x x a)
  | inr a ↦ before-irreflexive l (and_parts (x == x) (is_before l l) a).1
]

-- of two different lists one comes before the other
pub before-total : (l m : List ℕ) → is_before l m ≡ false → is_before m l ≡ false → l ≡ m
before-total [] [] a b = refl
before-total [] (y ∷ m) a b = absurd (true≢false a)
before-total (x ∷ l) [] a b = absurd (true≢false b)
before-total (x ∷ l) (y ∷ m) a b = elim (cases_eq x y) [
  | inl e ↦ ap₂ ◌∷◌ e (before-total l m
      (false_from_ne_true (is_before l m) (λ h. both_ways (is_before (x ∷ l) (y ∷ m)) a (or_right (nat_lt x y) ((x == y) && is_before l m) (and_from (x == y) (is_before l m) (eq-eqb x y e) h))))
      (false_from_ne_true (is_before m l) (λ h. both_ways (is_before (y ∷ m) (x ∷ l)) b (or_right (nat_lt y x) ((y == x) && is_before m l) (and_from (y == x) (is_before m l) (eq-eqb y x (sym e)) h)))))
  | inr n ↦ elim (cases_lt x y) [
    | inl k ↦ absurd (both_ways (is_before (x ∷ l) (y ∷ m)) a (or_left (nat_lt x y) ((x == y) && is_before l m) (lt-ltb x y k)))
    | inr k ↦ let less : y < x = omega (arith, k, n) in absurd (both_ways (is_before (y ∷ m) (x ∷ l)) b (or_left (nat_lt y x) ((y == x) && is_before m l) (lt-ltb y x less)))
  ]
]

-- the order is transitive
pub before-transitive : (l m n : List ℕ) → is_before l m ≡ true → is_before m n ≡ true → is_before l n ≡ true
before-transitive [] [] n a b = b
before-transitive [] (y ∷ m) [] a b = absurd (true≢false (sym b))
before-transitive [] (y ∷ m) (z ∷ n) a b = refl
before-transitive (x ∷ l) [] n a b = absurd (true≢false (sym a))
before-transitive (x ∷ l) (y ∷ m) [] a b = absurd (true≢false (sym b))
before-transitive (x ∷ l) (y ∷ m) (z ∷ n) a b = elim (or_cases (nat_lt x y) ((x == y) && is_before l m) a) [
  | inl p ↦ elim (or_cases (nat_lt y z) ((y == z) && is_before m n) b) [
    | inl q ↦ less (omega (arith, ltb-true x y p, ltb-true y z q))
    | inr q ↦ less (omega (arith, ltb-true x y p, eqb-true y z (and_parts (y == z) (is_before m n) q).0))
  ]
  | inr p ↦
      let u = and_parts (x == y) (is_before l m) p in
      elim (or_cases (nat_lt y z) ((y == z) && is_before m n) b) [
        | inl q ↦ less (omega (arith, eqb-true x y u.0, ltb-true y z q))
        | inr q ↦ let w = and_parts (y == z) (is_before m n) q in
            or_right (nat_lt x z) ((x == z) && is_before l n) (and_from (x == z) (is_before l n) (eq-eqb x z (eqb-true x y u.0 ∙ eqb-true y z w.0)) (before-transitive l m n u.1 w.1))
      ]
]
  where
    less : x < z → (nat_lt x z || ((x == z) && is_before l n)) ≡ true
    less k = or_left (nat_lt x z) ((x == z) && is_before l n) (lt-ltb x z k)

module _ (nodes : List Node) where
  abbrev at : List (List ℕ) → ℕ → List ℕ
  at r k = choice nodes r k

  -- with the same choices below n neither precedes
  same-below : (r q : List (List ℕ)) (n : ℕ) → ((j : ℕ) → j < n → at r j ≡ at q j) → precedes_below nodes r q n ≡ false
  same-below r q zero h = refl
  same-below r q (suc n) h = false_from_ne_true (precedes_below nodes r q (suc n)) (λ y. elim (or_cases (precedes_below nodes r q n) (not (precedes_below nodes q r n) && is_before (at r n) (at q n)) y) [
    | inl a ↦ both_ways (precedes_below nodes r q n) (same-below r q n (λ j l. h j (omega (arith, l)))) a
    | inr a ↦ before-irreflexive (at q n) (subst (λ (z : List ℕ). is_before z (at q n) ≡ true) (h n (omega arith)) (and_parts (not (precedes_below nodes q r n)) (is_before (at r n) (at q n)) a).1)
  ])

  -- a first difference below n is found
  pub below-from : (r q : List (List ℕ)) (n m : ℕ) → m < n → ((j : ℕ) → j < m → at r j ≡ at q j) → is_before (at r m) (at q m) ≡ true → precedes_below nodes r q n ≡ true
  below-from r q zero m l h y = absurd (omega (arith, l))
  below-from r q (suc n) m l h y = elim (cases_eq m n) [
    | inr d ↦ or_left (precedes_below nodes r q n) (not (precedes_below nodes q r n) && is_before (at r n) (at q n)) (below-from r q n m (omega (arith, l, d)) h y)
    | inl e ↦ or_right (precedes_below nodes r q n) (not (precedes_below nodes q r n) && is_before (at r n) (at q n)) (and_from (not (precedes_below nodes q r n)) (is_before (at r n) (at q n))
        (not_from_false (precedes_below nodes q r n) (same-below q r n (λ j k. sym (h j (omega (arith, k, e)))))) (subst (λ z. is_before (at r z) (at q z) ≡ true) e y))
  ]

  -- where neither precedes the choices are the same
  pub neither-below : (r q : List (List ℕ)) (n : ℕ) → precedes_below nodes r q n ≡ false → precedes_below nodes q r n ≡ false → (j : ℕ) → j < n → at r j ≡ at q j
  neither-below r q zero a b j l = absurd (omega (arith, l))
  neither-below r q (suc n) a b j l = elim (cases_eq j n) [
    | inr d ↦ neither-below r q n first second j (omega (arith, l, d))
    | inl e ↦ subst (λ z. at r z ≡ at q z) (sym e) (before-total (at r n) (at q n)
        (false_from_ne_true (is_before (at r n) (at q n)) (λ y. both_ways (precedes_below nodes r q (suc n)) a (or_right (precedes_below nodes r q n) (not (precedes_below nodes q r n) && is_before (at r n) (at q n)) (and_from (not (precedes_below nodes q r n)) (is_before (at r n) (at q n)) (not_from_false (precedes_below nodes q r n) second) y))))
        (false_from_ne_true (is_before (at q n) (at r n)) (λ y. both_ways (precedes_below nodes q r (suc n)) b (or_right (precedes_below nodes q r n) (not (precedes_below nodes r q n) && is_before (at q n) (at r n)) (and_from (not (precedes_below nodes r q n)) (is_before (at q n) (at r n)) (not_from_false (precedes_below nodes r q n) first) y)))))
  ]
    where
      first : precedes_below nodes r q n ≡ false
      first = false_from_ne_true (precedes_below nodes r q n) (λ y. both_ways (precedes_below nodes r q (suc n)) a (or_left (precedes_below nodes r q n) (not (precedes_below nodes q r n) && is_before (at r n) (at q n)) y))

      second : precedes_below nodes q r n ≡ false
      second = false_from_ne_true (precedes_below nodes q r n) (λ y. both_ways (precedes_below nodes q r (suc n)) b (or_left (precedes_below nodes q r n) (not (precedes_below nodes r q n) && is_before (at q n) (at r n)) y))

  -- what is found is a first difference
  pub below-to : (r q : List (List ℕ)) (n : ℕ) → precedes_below nodes r q n ≡ true → (m : ℕ) × (m < n) × ((j : ℕ) → j < m → at r j ≡ at q j) × (is_before (at r m) (at q m) ≡ true)
  below-to r q zero y = absurd (true≢false (sym y))
  below-to r q (suc n) y = elim (cases_Bool (precedes_below nodes r q n)) [
    | inl a ↦ earlier (below-to r q n a)
    | inr a ↦ elim (or_cases (precedes_below nodes r q n) (not (precedes_below nodes q r n) && is_before (at r n) (at q n)) y) [
      | inl b ↦ earlier (below-to r q n b)
      | inr b ↦ let p = and_parts (not (precedes_below nodes q r n)) (is_before (at r n) (at q n)) b in
          (n, omega arith, neither-below r q n a (not-true (precedes_below nodes q r n) p.0), p.1)
    ]
  ]
    where
      earlier : (m : ℕ) × (m < n) × ((j : ℕ) → j < m → at r j ≡ at q j) × (is_before (at r m) (at q m) ≡ true) → (m : ℕ) × (m < suc n) × ((j : ℕ) → j < m → at r j ≡ at q j) × (is_before (at r m) (at q m) ≡ true)
      earlier w = (w.0, omega (arith, w.1), w.2, w.3)

  -- not both of two precede
  pub not-both : (r q : List (List ℕ)) → Precedes nodes r q → Precedes nodes q r → ⊥
  not-both r q a b = elim (cases_eq a.node b.node) [
    | inl e ↦ before-irreflexive (at r a.node) (before-transitive (at r a.node) (at q a.node) (at r a.node) a.smaller (subst (λ z. is_before (at q z) (at r z) ≡ true) (sym e) b.smaller))
    | inr n ↦ elim (cases_lt a.node b.node) [
      | inl l ↦ before-irreflexive (at r a.node) (subst (λ (z : List ℕ). is_before (at r a.node) z ≡ true) (b.same a.node l) a.smaller)
      | inr l ↦ let less : b.node < a.node = omega (arith, l, n) in before-irreflexive (at q b.node) (subst (λ (z : List ℕ). is_before (at q b.node) z ≡ true) (a.same b.node less) b.smaller)
    ]
  ]

-- the record and the test agree
pub precedes-tested : PrecedesIsTested
precedes-tested nodes r q = ((λ p. below-from nodes r q (length nodes) p.node p.is_node p.same p.smaller), λ y. let w = below-to nodes r q (length nodes) y in record { node = w.0; is_node = w.1; same = w.2; smaller = w.3 })

-- a member of a list is its first or stands behind
contains-cases : {X : Type 0} (x : X) (l : List X) (z : X) → Contains (x ∷ l) z → (x ≡ z) ⊎ Contains l z
contains-cases x l z (zero, h, e) = inl e
contains-cases x l z (suc k, h, e) = inr (k, omega (arith, h), e)

contains-behind : {X : Type 0} (x : X) (l : List X) (z : X) → Contains l z → Contains (x ∷ l) z
contains-behind x l z c = (suc c.0, omega (arith, c.1), c.2)

-- the first of a rising list is related to each behind
first-related : {X : Type 0} (L : X → X → Type 0) (x : X) (l : List X) → AllPairs L (x ∷ l) → (z : X) → Contains l z → L x z
first-related L x l a z c = subst (L x) c.2 (a 0 (suc c.0) z (omega arith) (omega (arith, c.1)))

rest-related : {X : Type 0} (L : X → X → Type 0) (x : X) (l : List X) → AllPairs L (x ∷ l) → AllPairs L l
rest-related L x l a i j d h k = a (suc i) (suc j) d (omega (arith, h)) (omega (arith, k))

-- lists that rise by an order of which not both hold, with the same members, are equal
pub rising-told : {X : Type 0} (L : X → X → Type 0) → ((x y : X) → L x y → L y x → ⊥) → (l m : List X) → AllPairs L l → AllPairs L m → ((z : X) → Contains l z → Contains m z) → ((z : X) → Contains m z → Contains l z) → l ≡ m
rising-told L strict [] [] a b f h = refl
rising-told L strict [] (y ∷ m) a b f h = let c = h y (contains-here y m) in absurd (omega (arith, c.1))
rising-told L strict (x ∷ l) [] a b f h = let c = f x (contains-here x l) in absurd (omega (arith, c.1))
rising-told {X} L strict (x ∷ l) (y ∷ m) a b f h = ap₂ ◌∷◌ one (rising-told L strict l m (rest-related L x l a) (rest-related L y m b) forth back)
  where
    one : x ≡ y
    one = elim (contains-cases y m x (f x (contains-here x l))) [
      | inl e ↦ sym e
      | inr c ↦ elim (contains-cases x l y (h y (contains-here y m))) [
        | inl e ↦ e
        | inr d ↦ absurd (strict x y (first-related L x l a y d) (first-related L y m b x c))
      ]
    ]

    forth : (z : X) → Contains l z → Contains m z
    forth z c = elim (contains-cases y m z (f z (contains-behind x l z c))) [
      | inr d ↦ d
      | inl e ↦ let p : L x z = first-related L x l a z c in absurd (strict z z (subst (λ w. L w z) (one ∙ e) p) (subst (λ w. L w z) (one ∙ e) p))
    ]

    back : (z : X) → Contains m z → Contains l z
    back z c = elim (contains-cases x l z (h z (contains-behind y m z c))) [
      | inr d ↦ d
      | inl e ↦ let p : L y z = first-related L y m b z c in absurd (strict z z (subst (λ w. L w z) (sym one ∙ e) p) (subst (λ w. L w z) (sym one ∙ e) p))
    ]

-- two lists of one property are equal
pub list-unique : (nodes : List Node) (M : List (List ℕ) → Type 0) (l m : List (List (List ℕ))) → IsListOf nodes M l → IsListOf nodes M m → l ≡ m
list-unique nodes M l m a b = rising-told (Precedes nodes) (not-both nodes) l m a.rising b.rising (λ z c. (b.members z).1 ((a.members z).0 c)) (λ z c. (a.members z).1 ((b.members z).0 c))

pub kept-unique : KeptListIsUnique
kept-unique g nodes locked r l m a b = list-unique nodes (IsKept g nodes locked r) l m a b
