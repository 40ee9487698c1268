-- The lexicographic order of lists; pairs in order with the same ends.
use Rattle.std.proofs.Common.{◌≡◌, ℕ, ◌<◌, ◌⊎◌, ◌==◌, ◌&&◌, inl, inr, true, List, [], ◌∷◌, nat_lt, sym, arith}
use Rattle.std.proofs.lemmas.Bool.{or_cases, and_parts, eqb-true, ltb-true, true≢false}
use Rattle.pair_split.specs.Skeleton.{is_end_of}
use Rattle.pair_split.specs.Tutte.{is_before}
use Rattle.tree_unique.proofs.Items.{end-cases, first-end, second-end}

-- no list comes before itself
pub before-not : (l : List ℕ) → is_before l l ≡ true → ⊥
before-not [] h = true≢false (sym h)
before-not (x ∷ xs) h = elim (or_cases (nat_lt x x) ((x == x) && is_before xs xs) h) [
  | inl a ↦ absurd (omega (arith, ltb-true x x a))
  | inr a ↦ before-not xs (and_parts (x == x) (is_before xs xs) a).1
]

-- of two lists not each comes before the other
pub before-once : (l m : List ℕ) → is_before l m ≡ true → is_before m l ≡ true → ⊥
before-once [] [] h i = true≢false (sym h)
before-once [] (y ∷ ys) h i = true≢false (sym i)
before-once (x ∷ xs) [] h i = true≢false (sym h)
before-once (x ∷ xs) (y ∷ ys) h i = elim (or_cases (nat_lt x y) ((x == y) && is_before xs ys) h) [
  | inl a ↦ elim (or_cases (nat_lt y x) ((y == x) && is_before ys xs) i) [
    | inl b ↦ absurd (omega (arith, ltb-true x y a, ltb-true y x b))
    | inr b ↦ absurd (omega (arith, ltb-true x y a, eqb-true y x (and_parts (y == x) (is_before ys xs) b).0))
  ]
  | inr a ↦ elim (or_cases (nat_lt y x) ((y == x) && is_before ys xs) i) [
    | inl b ↦ absurd (omega (arith, ltb-true y x b, eqb-true x y (and_parts (x == y) (is_before xs ys) a).0))
    | inr b ↦ before-once xs ys (and_parts (x == y) (is_before xs ys) a).1 (and_parts (y == x) (is_before ys xs) b).1
  ]
]

-- pairs in order with the same ends are equal
pub rising-pairs : (p q : ℕ × ℕ) → p.0 < p.1 → q.0 < q.1 → ((v : ℕ) → is_end_of v p ≡ true → is_end_of v q ≡ true) → ((v : ℕ) → is_end_of v q ≡ true → is_end_of v p ≡ true) → (p.0 ≡ q.0) × (p.1 ≡ q.1)
rising-pairs p q lp lq h i = pick (end-cases p.0 q (h p.0 (first-end p))) (end-cases p.1 q (h p.1 (second-end p)))
  where
    pick : (p.0 ≡ q.0) ⊎ (p.0 ≡ q.1) → (p.1 ≡ q.0) ⊎ (p.1 ≡ q.1) → (p.0 ≡ q.0) × (p.1 ≡ q.1)
    pick (inl a) (inr b) = (a, b)
    pick (inl a) (inl b) = absurd (omega (arith, a, b, lp))
    pick (inr a) (inl b) = absurd (omega (arith, a, b, lp, lq))
    pick (inr a) (inr b) = absurd (omega (arith, a, b, lp))
