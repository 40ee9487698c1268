-- Permutations and orbits of small tables, by computation.
use Rattle.std.proofs.Common.{◌≡◌, ℕ, ◌<◌, Bool, true, not, ◌&&◌, ◌==◌, ltb, ap, arith, eqb-true, ltb-true}
use Rattle.std.proofs.lemmas.Bool.{and_parts, not-true, not-false}
use Rattle.permutations.specs.Count.{count, some}
use Rattle.permutations.specs.Relation.{leads}
use Rattle.permutations.specs.Permutation.{Permutes, same_orbit, reaches, orbit_count}
use Rattle.permutations.proofs.Search.{some-none, some-ext}
use Rattle.permutations.proofs.Count.{count-ext}
use Rattle.permutations.proofs.Iterates.{orbit-reaches}

-- whether f permutes the numbers below n with the inverse g
abbrev pub permutes_below : ℕ → (ℕ → ℕ) → (ℕ → ℕ) → Bool
permutes_below n f g = not (some n (λ x. not ((ltb (f x) n && ltb (g x) n) && ((g (f x) == x) && (f (g x) == x)))))

-- where the test says so it does
pub permutes-computed : (n : ℕ) (f g : ℕ → ℕ) → permutes_below n f g ≡ true → Permutes n f g
permutes-computed n f g h = record {
  forth = λ x l. ltb-true (f x) n (ranges x l).0;
  back = λ x l. ltb-true (g x) n (ranges x l).1;
  back_forth = λ x l. eqb-true (g (f x)) x (backs x l).0;
  forth_back = λ x l. eqb-true (f (g x)) x (backs x l).1;
}
  where
    fits : ℕ → Bool
    fits x = (ltb (f x) n && ltb (g x) n) && ((g (f x) == x) && (f (g x) == x))

    all : (x : ℕ) → x < n → ((ltb (f x) n && ltb (g x) n) && ((g (f x) == x) && (f (g x) == x))) ≡ true
    all x l = not-false ((ltb (f x) n && ltb (g x) n) && ((g (f x) == x) && (f (g x) == x))) (some-none n (λ y. not ((ltb (f y) n && ltb (g y) n) && ((g (f y) == y) && (f (g y) == y)))) (not-true (some n (λ y. not ((ltb (f y) n && ltb (g y) n) && ((g (f y) == y) && (f (g y) == y))))) h) x l)

    ranges : (x : ℕ) → x < n → (ltb (f x) n ≡ true) × (ltb (g x) n ≡ true)
    ranges x l = and_parts (ltb (f x) n) (ltb (g x) n) (and_parts (ltb (f x) n && ltb (g x) n) ((g (f x) == x) && (f (g x) == x)) (all x l)).0

    backs : (x : ℕ) → x < n → ((g (f x) == x) ≡ true) × ((f (g x) == x) ≡ true)
    backs x l = and_parts (g (f x) == x) (f (g x) == x) (and_parts (ltb (f x) n && ltb (g x) n) ((g (f x) == x) && (f (g x) == x)) (all x l)).1

-- the orbits counted by what is reached
pub orbit-count-computed : (n : ℕ) (f g : ℕ → ℕ) → Permutes n f g → orbit_count n f ≡ count n (λ x. not (some x (λ y. reaches n f y x)))
orbit-count-computed n f g b = count-ext n (leads (same_orbit n f)) (λ x. not (some x (λ y. reaches n f y x))) (λ x l. ap not (some-ext x (λ y. same_orbit n f y x) (λ y. reaches n f y x) (λ y k. orbit-reaches n f g b y x (below y x k l))))
  where
    below : (y x : ℕ) → y < x → x < n → y < n
    below y x k l = omega arith
