-- Orbits after two exchanges between the inside and the outside of a part that the steps keep.
use Rattle.std.proofs.Common.{◌≡◌, ℕ, ◌+◌, ◌<◌, inl, inr, Bool, true, false, ◌&&◌, ◌||◌, sym, ◌∙◌, subst, arith}
use Rattle.std.proofs.lemmas.Bool.{cases_Bool, both_ways, false_from_ne_true}
use Rattle.permutations.specs.Relation.{IsEquivalence}
use Rattle.permutations.specs.Permutation.{Permutes, same_orbit, orbit_count}
use Rattle.permutations.specs.Exchange.{swapped, exchange}
use Rattle.permutations.proofs.Relation.{same-tests}
use Rattle.permutations.proofs.Permutations.{exchange-permutes}
use Rattle.permutations.proofs.Orbits.{orbit-equivalence, orbit-step, orbit-test}
use Rattle.permutations.proofs.Transpositions.{exchange-join, exchange-count-join, exchange-count-split}

-- images are in one orbit where the numbers are
pub orbit-shift : (n : ℕ) (s : ℕ → ℕ) (x y : ℕ) → x < n → y < n → same_orbit n s (s x) (s y) ≡ same_orbit n s x y
orbit-shift n s x y l k = same-tests (same_orbit n s (s x) (s y)) (same_orbit n s x y)
    (λ h. e.transitive x (s x) y (orbit-step n s x l) (e.transitive (s x) (s y) y h (e.symmetric y (s y) (orbit-step n s y k))))
    (λ h. e.transitive (s x) x (s y) (e.symmetric x (s x) (orbit-step n s x l)) (e.transitive x y (s y) h (orbit-step n s y k)))
  where
    e : IsEquivalence (same_orbit n s)
    e = orbit-equivalence n s

-- numbers of which one passes and one fails a test that the steps keep
pub test-apart : (n : ℕ) (s : ℕ → ℕ) (t : ℕ → Bool) → ((d : ℕ) → d < n → t (s d) ≡ t d) → (x y : ℕ) → t x ≡ true → t y ≡ false → same_orbit n s x y ≡ false
test-apart n s t keep x y a c = false_from_ne_true (same_orbit n s x y) (λ h. both_ways (t y) c (sym (orbit-test n s t keep x y h) ∙ a))

-- a permutation whose steps keep a test, u and p that pass it, v and q that fail it
module _ (n : ℕ) (s r : ℕ → ℕ) (b : Permutes n s r) (t : ℕ → Bool) (keep : (d : ℕ) → d < n → t (s d) ≡ t d) (u v p q : ℕ) (lu : u < n) (lv : v < n) (lp : p < n) (lq : q < n) (tu : t u ≡ true) (tv : t v ≡ false) (tp : t p ≡ true) (tq : t q ≡ false) where
  -- one exchange makes one orbit fewer
  pub count-exchange-once : orbit_count n (exchange u v s) + 1 ≡ orbit_count n s
  count-exchange-once = exchange-count-join n s r b u v lu lv (test-apart n s t keep u v tu tv)

  -- after it the other two are in one orbit where the insides are and the outsides are
  once-together : same_orbit n (exchange u v s) p q ≡ (same_orbit n s u p && same_orbit n s v q)
  once-together = exchange-join n s r b u v lu lv (test-apart n s t keep u v tu tv) p q
      ∙ join-value (same_orbit n s p q) (same_orbit n s p u) (same_orbit n s v q) (same_orbit n s p v) (same_orbit n s u q) (same_orbit n s u p)
      (test-apart n s t keep p q tp tq) (test-apart n s t keep p v tp tv) (same-tests (same_orbit n s p u) (same_orbit n s u p) ((orbit-equivalence n s).symmetric p u) ((orbit-equivalence n s).symmetric u p))
    where
      join-value : (i j k l w o : Bool) → i ≡ false → l ≡ false → j ≡ o → (i || ((j && k) || (l && w))) ≡ (o && k)
      join-value i j k l w o a c e = grind (arith, cases_Bool j, cases_Bool k)

  -- the map after the first exchange
  once-permutes : Permutes n (exchange u v s) (λ w. swapped u v (r w))
  once-permutes = exchange-permutes n u v s r lu lv b

  -- both in one orbit: the second exchange makes one more
  pub count-exchange-together : (same_orbit n s u p && same_orbit n s v q) ≡ true → orbit_count n (exchange p q (exchange u v s)) ≡ orbit_count n s
  count-exchange-together h = exchange-count-split n (exchange u v s) (λ w. swapped u v (r w)) once-permutes p q lp lq (λ i. both_ways (t q) tq (subst (λ (z : ℕ). t z ≡ true) i tp)) (once-together ∙ h) ∙ count-exchange-once

  -- else one fewer
  pub count-exchange-apart : (same_orbit n s u p && same_orbit n s v q) ≡ false → orbit_count n (exchange p q (exchange u v s)) + 2 ≡ orbit_count n s
  count-exchange-apart h = omega (arith, exchange-count-join n (exchange u v s) (λ w. swapped u v (r w)) once-permutes p q lp lq (once-together ∙ h), count-exchange-once)

-- what the two counts are together
pub count-exchange-both : (k : Bool) (c d o w : ℕ) → (k ≡ true → c ≡ o) → (k ≡ false → c + 2 ≡ o) → (k ≡ true → d ≡ w) → (k ≡ false → d + 2 ≡ w) → o ≡ w → c ≡ d
count-exchange-both k c d o w a e i j h = elim (cases_Bool k) [
  | inl x ↦ a x ∙ h ∙ sym (i x)
  | inr x ↦ let y : c + 2 ≡ o = e x in let z : d + 2 ≡ w = j x in omega arith
]
