-- Two 2-separations that cross: which vertices the four corners touch (Tutte 1966; Cunningham and Edmonds 1980). Either two
-- vertices are touched by all four, and no others by two; or there are four, each touched by two neighbours.
use Rattle.std.proofs.Common.{◌≡◌, ℕ, ◌+◌, ◌<◌, ◌≤◌, ◌⊎◌, inl, inr, Bool, true, false, not, ◌&&◌, ◌||◌, refl, sym, ◌∙◌, arith}
use Rattle.std.proofs.lemmas.Bool.{cases_Bool}
use Rattle.permutations.specs.Count.{count, sum_below}
use Rattle.permutations.proofs.Count.{count-positive, count-none}
use Rattle.permutations.proofs.Sums.{count-sum, sum_below-add, sum_below-same}
use Rattle.graph_theory.proofs.Counting.{bit, one-of, one-only, count-three_parts}

-- in two corners that are neighbours along the first division, and in the other two
abbrev pub first_common : Bool → Bool → Bool → Bool → Bool
first_common a b c d = (a || b) && (c || d)

-- the same along the second division
abbrev pub second_common : Bool → Bool → Bool → Bool → Bool
second_common a b c d = (a || d) && (b || c)

-- in the first corner and in another
abbrev pub corner_common : Bool → Bool → Bool → Bool → Bool
corner_common a b c d = a && (b || (c || d))

-- at how many corners a vertex is common
abbrev corners : Bool → Bool → Bool → Bool → ℕ
corners a b c d = (bit (corner_common a b c d) + bit (corner_common b a c d)) + (bit (corner_common c a b d) + bit (corner_common d a b c))

-- twice at how many of the two divisions
abbrev divisions : Bool → Bool → Bool → Bool → ℕ
divisions a b c d = (bit (first_common a b c d) + bit (first_common a b c d)) + (bit (second_common a b c d) + bit (second_common a b c d))

corners-few : (a b c d : Bool) → corners a b c d ≤ divisions a b c d
corners-few true true true true = omega arith
corners-few true true true false = omega arith
corners-few true true false true = omega arith
corners-few true true false false = omega arith
corners-few true false true true = omega arith
corners-few true false true false = omega arith
corners-few true false false true = omega arith
corners-few true false false false = omega arith
corners-few false true true true = omega arith
corners-few false true true false = omega arith
corners-few false true false true = omega arith
corners-few false true false false = omega arith
corners-few false false true true = omega arith
corners-few false false true false = omega arith
corners-few false false false true = omega arith
corners-few false false false false = omega arith

-- all four
abbrev pub all_four : Bool → Bool → Bool → Bool → Bool
all_four a b c d = (a && b) && (c && d)

-- just two neighbours
abbrev pub neighbours : Bool → Bool → Bool → Bool → Bool
neighbours a b c d = (a && b) && (not c && not d)

-- what is left: a vertex is in all four corners, in two neighbours, in one or in none
record Parts (a b c d : Bool) : Type 0 where
  first : bit (first_common a b c d) ≡ bit (neighbours b c a d) + bit (neighbours a d b c) + bit (all_four a b c d)
  second : bit (second_common a b c d) ≡ bit (neighbours a b c d) + bit (neighbours c d a b) + bit (all_four a b c d)
  one : bit (corner_common a b c d) ≡ bit (neighbours a b c d) + bit (neighbours a d b c) + bit (all_four a b c d)
  two : bit (corner_common b a c d) ≡ bit (neighbours a b c d) + bit (neighbours b c a d) + bit (all_four a b c d)
  three : bit (corner_common c a b d) ≡ bit (neighbours b c a d) + bit (neighbours c d a b) + bit (all_four a b c d)
  four : bit (corner_common d a b c) ≡ bit (neighbours c d a b) + bit (neighbours a d b c) + bit (all_four a b c d)
  pair : a ≡ true → b ≡ true → (neighbours a b c d || all_four a b c d) ≡ true
  common : first_common a b c d ≡ true → ((neighbours a d b c || neighbours b c a d) || all_four a b c d) ≡ true

all-parts : (a b c d : Bool) → corners a b c d ≡ divisions a b c d → Parts a b c d
all-parts true true true true e = record { first = refl; second = refl; one = refl; two = refl; three = refl; four = refl; pair = λ h i. refl; common = λ h. refl }
all-parts true true true false e = absurd (omega (arith, e))
all-parts true true false true e = absurd (omega (arith, e))
all-parts true true false false e = record { first = refl; second = refl; one = refl; two = refl; three = refl; four = refl; pair = λ h i. refl; common = λ h. h }
all-parts true false true true e = absurd (omega (arith, e))
all-parts true false true false e = absurd (omega (arith, e))
all-parts true false false true e = record { first = refl; second = refl; one = refl; two = refl; three = refl; four = refl; pair = λ h i. i; common = λ h. refl }
all-parts true false false false e = record { first = refl; second = refl; one = refl; two = refl; three = refl; four = refl; pair = λ h i. i; common = λ h. h }
all-parts false true true true e = absurd (omega (arith, e))
all-parts false true true false e = record { first = refl; second = refl; one = refl; two = refl; three = refl; four = refl; pair = λ h i. h; common = λ h. refl }
all-parts false true false true e = absurd (omega (arith, e))
all-parts false true false false e = record { first = refl; second = refl; one = refl; two = refl; three = refl; four = refl; pair = λ h i. h; common = λ h. h }
all-parts false false true true e = record { first = refl; second = refl; one = refl; two = refl; three = refl; four = refl; pair = λ h i. h; common = λ h. h }
all-parts false false true false e = record { first = refl; second = refl; one = refl; two = refl; three = refl; four = refl; pair = λ h i. h; common = λ h. h }
all-parts false false false true e = record { first = refl; second = refl; one = refl; two = refl; three = refl; four = refl; pair = λ h i. h; common = λ h. h }
all-parts false false false false e = record { first = refl; second = refl; one = refl; two = refl; three = refl; four = refl; pair = λ h i. h; common = λ h. h }

-- which vertices below n each of four corners touches, where the corners are those of two crossing 2-separations of a block
pub record AreCorners (n : ℕ) (a b c d : ℕ → Bool) : Type 0 where
  pub first : count n (λ v. first_common (a v) (b v) (c v) (d v)) ≡ 2
  pub second : count n (λ v. second_common (a v) (b v) (c v) (d v)) ≡ 2
  pub one : 2 ≤ count n (λ v. corner_common (a v) (b v) (c v) (d v))
  pub two : 2 ≤ count n (λ v. corner_common (b v) (a v) (c v) (d v))
  pub three : 2 ≤ count n (λ v. corner_common (c v) (a v) (b v) (d v))
  pub four : 2 ≤ count n (λ v. corner_common (d v) (a v) (b v) (c v))

module _ (n : ℕ) (a b c d : ℕ → Bool) (h : AreCorners n a b c d) where
  abbrev c1 : ℕ → ℕ
  c1 v = bit (corner_common (a v) (b v) (c v) (d v))

  abbrev c2 : ℕ → ℕ
  c2 v = bit (corner_common (b v) (a v) (c v) (d v))

  abbrev c3 : ℕ → ℕ
  c3 v = bit (corner_common (c v) (a v) (b v) (d v))

  abbrev c4 : ℕ → ℕ
  c4 v = bit (corner_common (d v) (a v) (b v) (c v))

  abbrev d1 : ℕ → ℕ
  d1 v = bit (first_common (a v) (b v) (c v) (d v))

  abbrev d2 : ℕ → ℕ
  d2 v = bit (second_common (a v) (b v) (c v) (d v))

  -- the sums over all vertices
  enough : sum_below n (λ v. divisions (a v) (b v) (c v) (d v)) ≤ sum_below n (λ v. corners (a v) (b v) (c v) (d v))
  enough = omega (
    arith,
    h.first,
    h.second,
    h.one,
    h.two,
    h.three,
    h.four,
    count-sum n (λ v. first_common (a v) (b v) (c v) (d v)),
    count-sum n (λ v. second_common (a v) (b v) (c v) (d v)),
    count-sum n (λ v. corner_common (a v) (b v) (c v) (d v)),
    count-sum n (λ v. corner_common (b v) (a v) (c v) (d v)),
    count-sum n (λ v. corner_common (c v) (a v) (b v) (d v)),
    count-sum n (λ v. corner_common (d v) (a v) (b v) (c v)),
    sum_below-add n (λ v. d1 v + d1 v) (λ v. d2 v + d2 v),
    sum_below-add n d1 d1,
    sum_below-add n d2 d2,
    sum_below-add n (λ v. c1 v + c2 v) (λ v. c3 v + c4 v),
    sum_below-add n c1 c2,
    sum_below-add n c3 c4,
  )

  parts : (v : ℕ) → v < n → Parts (a v) (b v) (c v) (d v)
  parts v l = all-parts (a v) (b v) (c v) (d v)
      (sum_below-same n (λ v. corners (a v) (b v) (c v) (d v)) (λ v. divisions (a v) (b v) (c v) (d v)) (λ v l. corners-few (a v) (b v) (c v) (d v)) enough v l)

  abbrev n12 : ℕ → Bool
  n12 v = neighbours (a v) (b v) (c v) (d v)

  abbrev n34 : ℕ → Bool
  n34 v = neighbours (c v) (d v) (a v) (b v)

  abbrev n14 : ℕ → Bool
  n14 v = neighbours (a v) (d v) (b v) (c v)

  abbrev n23 : ℕ → Bool
  n23 v = neighbours (b v) (c v) (a v) (d v)

  abbrev n4 : ℕ → Bool
  n4 v = all_four (a v) (b v) (c v) (d v)

  -- how many vertices are in which corners
  record Numbers : Type 0 where
    first : count n n23 + count n n14 + count n n4 ≡ 2
    second : count n n12 + count n n34 + count n n4 ≡ 2
    one : 2 ≤ count n n12 + count n n14 + count n n4
    two : 2 ≤ count n n12 + count n n23 + count n n4
    three : 2 ≤ count n n23 + count n n34 + count n n4
    four : 2 ≤ count n n34 + count n n14 + count n n4

  numbers : Numbers
  numbers = record {
    first = sym (count-three_parts n (λ v. first_common (a v) (b v) (c v) (d v)) n23 n14 n4 (λ v l. (parts v l).first)) ∙ h.first;
    second = sym (count-three_parts n (λ v. second_common (a v) (b v) (c v) (d v)) n12 n34 n4 (λ v l. (parts v l).second)) ∙ h.second;
    one = omega (arith, h.one, count-three_parts n (λ v. corner_common (a v) (b v) (c v) (d v)) n12 n14 n4 (λ v l. (parts v l).one));
    two = omega (arith, h.two, count-three_parts n (λ v. corner_common (b v) (a v) (c v) (d v)) n12 n23 n4 (λ v l. (parts v l).two));
    three = omega (arith, h.three, count-three_parts n (λ v. corner_common (c v) (a v) (b v) (d v)) n23 n34 n4 (λ v l. (parts v l).three));
    four = omega (arith, h.four, count-three_parts n (λ v. corner_common (d v) (a v) (b v) (c v)) n34 n14 n4 (λ v l. (parts v l).four));
  }

  -- the bond type: where one vertex is in all four corners, so is each one that is in the first two, or common to the first
  -- division
  pub bond-type : (w : ℕ) → w < n → n4 w ≡ true → (v : ℕ) → v < n
      → ((a v ≡ true) × (b v ≡ true)) ⊎ (first_common (a v) (b v) (c v) (d v) ≡ true) → n4 v ≡ true
  bond-type w lw hw v l k = elim k [
    | inl q ↦ grind (arith, (parts v l).pair q.0 q.1, gone n12 (omega (arith, numbers.first, numbers.second, numbers.one, numbers.two, numbers.three, numbers.four, some-all)), cases_Bool (n12 v), cases_Bool (n4 v))
    | inr q ↦ grind (arith, (parts v l).common q, gone n14 (omega (arith, numbers.first, numbers.second, numbers.one, numbers.two, numbers.three, numbers.four, some-all)), gone n23 (omega (arith, numbers.first, numbers.second, numbers.one, numbers.two, numbers.three, numbers.four, some-all)), cases_Bool (n14 v), cases_Bool (n23 v), cases_Bool (n4 v))
  ]
    where
      some-all : 1 ≤ count n n4
      some-all = omega (arith, count-positive n n4 w lw hw)

      gone : (p : ℕ → Bool) → count n p ≡ 0 → p v ≡ false
      gone p z = elim (cases_Bool (p v)) [ inr f ↦ f | inl t ↦ absurd (omega (arith, z, count-positive n p v l t)) ]

  -- the ring type: where none is in all four corners, only one is in the first two, that one is not common to the first
  -- division, and of those that are one is in the first and the last corner alone, and one in the two others alone
  pub record RingType : Type 0 where
    pub between : ℕ
    pub between_only : (v : ℕ) → v < n → a v ≡ true → b v ≡ true → v ≡ between
    pub between_not : first_common (a between) (b between) (c between) (d between) ≡ false
    pub front : ℕ
    pub front_at : n14 front ≡ true
    pub back : ℕ
    pub back_at : n23 back ≡ true

  pub ring-type : ((v : ℕ) → v < n → n4 v ≡ false) → RingType
  ring-type none =
      let u = one-of n n12 (omega (arith, numbers.first, numbers.second, numbers.one, numbers.two, numbers.three, numbers.four, zero)) in
      let p = one-of n n14 (omega (arith, numbers.first, numbers.second, numbers.one, numbers.two, numbers.three, numbers.four, zero)) in
      let q = one-of n n23 (omega (arith, numbers.first, numbers.second, numbers.one, numbers.two, numbers.three, numbers.four, zero)) in
      record {
        between = u.0;
        between_only = λ v l x y. one-only n n12 (omega (arith, numbers.first, numbers.second, numbers.one, numbers.two, numbers.three, numbers.four, zero)) v u.0 l u.1
            (grind (arith, (parts v l).pair x y, none v l, cases_Bool (n12 v), cases_Bool (n4 v))) u.2;
        between_not = grind (arith, u.2, cases_Bool (a u.0), cases_Bool (b u.0), cases_Bool (c u.0), cases_Bool (d u.0));
        front = p.0;
        front_at = p.2;
        back = q.0;
        back_at = q.2;
      }
    where
      zero : count n n4 ≡ 0
      zero = count-none n n4 none
