-- Each member taken out of a list in its turn.
use Rattle.std.proofs.Common.{◌≡◌, ℕ, zero, suc, ◌+◌, ◌<◌, true, nat_lt, List, [], ◌∷◌, length, map, IsPermutation, refl, ap, ◌∙◌, subst, arith}
use Rattle.std.proofs.lemmas.Bool.{ltb-true}
use Rattle.std.proofs.lemmas.List.{length-map}
use Rattle.std.proofs.lemmas.List.Sorted.{IsPermutation-refl, IsPermutation-cons, IsPermutation-middle, IsPermutation-trans}
use Rattle.choice_lists.specs.Arrangements.{each_first}
use Rattle.choice_lists.proofs.Places.{At, Has, at-map, at-map_back, Above, Ascends, ascends-map}
use Rattle.choice_lists.proofs.Smaller.{smaller, smaller-yes, smaller-none}

-- what is known of the q-th member with the others
pub record Taken (keys : List ℕ) (q : ℕ) (p : ℕ × List ℕ) : Type 0 where
  pub stands : At keys q p.0
  pub all : IsPermutation keys (p.0 ∷ p.1)
  pub long : length p.1 + 1 ≡ length keys
  pub within : (i y : ℕ) → At p.1 i y → Has keys y
  pub rise : Ascends nat_lt keys → Ascends nat_lt p.1
  pub digit : Ascends nat_lt keys → smaller p.0 p.1 ≡ q

-- two members change places at the head
pub two-swapped : (x y : ℕ) (l : List ℕ) → IsPermutation (x ∷ y ∷ l) (y ∷ x ∷ l)
two-swapped x y l = IsPermutation-middle (x ∷ []) y l

-- each has these facts
pub taken : (keys : List ℕ) (q : ℕ) (p : ℕ × List ℕ) → At (each_first keys) q p → Taken keys q p
taken [] q p a = absurd a
taken (x ∷ xs) zero p a = subst (λ (z : ℕ × List ℕ). Taken (x ∷ xs) 0 z) a (record {
  stands = refl;
  all = IsPermutation-refl (x ∷ xs);
  long = omega arith;
  within = λ i y m. (suc i, m);
  rise = λ r. r.1;
  digit = λ r. smaller-none x xs (λ i y m. let l : x < y = ltb-true x y (r.0 i y m) in omega arith);
})
taken (x ∷ xs) (suc q) p a = put (at-map_back (λ (s : ℕ × List ℕ). (s.0, x ∷ s.1)) (each_first xs) q p a) (taken xs q)
  where
    put : ((s : ℕ × List ℕ) × At (each_first xs) q s × ((s.0, x ∷ s.1) ≡ p)) → ((s : ℕ × List ℕ) → At (each_first xs) q s → Taken xs q s) → Taken (x ∷ xs) (suc q) p
    put m f = subst (λ (z : ℕ × List ℕ). Taken (x ∷ xs) (suc q) z) m.2 (record {
      stands = t.stands;
      all = IsPermutation-trans (x ∷ xs) (x ∷ m.0.0 ∷ m.0.1) (m.0.0 ∷ x ∷ m.0.1) (IsPermutation-cons x xs (m.0.0 ∷ m.0.1) t.all) (two-swapped x m.0.0 m.0.1);
      long = omega (arith, t.long);
      within = inside;
      rise = λ r. (λ i y k. let h = t.within i y k in r.0 h.0 y h.1, t.rise r.1);
      digit = λ r. omega (arith, smaller-yes m.0.0 x m.0.1 (ltb-true x m.0.0 (r.0 q m.0.0 t.stands)), t.digit r.1);
    })
      where
        t : Taken xs q m.0
        t = f m.0 m.1

        inside : (i y : ℕ) → At (x ∷ m.0.1) i y → Has (x ∷ xs) y
        inside zero y e = (0, e)
        inside (suc i) y e = let h = t.within i y e in (suc h.0, h.1)

-- each member is taken out
pub each_first-at : (keys : List ℕ) (q x : ℕ) → At keys q x → (others : List ℕ) × At (each_first keys) q (x, others)
each_first-at [] q x a = absurd a
each_first-at (y ∷ xs) zero x a = (xs, ap (λ (z : ℕ). (z, xs)) a)
each_first-at (y ∷ xs) (suc q) x a = let r = each_first-at xs q x a in (y ∷ r.0, at-map (λ (s : ℕ × List ℕ). (s.0, y ∷ s.1)) (each_first xs) q (x, r.0) r.1)

-- one for each member
pub each_first-length : (keys : List ℕ) → length (each_first keys) ≡ length keys
each_first-length [] = refl
each_first-length (x ∷ xs) = ap suc (length-map (each_first xs) (λ (s : ℕ × List ℕ). (s.0, x ∷ s.1)) ∙ each_first-length xs)

-- of rising keys, in rising order
pub each_first-ascends : (keys : List ℕ) → Ascends nat_lt keys → Ascends (λ (p s : ℕ × List ℕ). nat_lt p.0 s.0) (each_first keys)
each_first-ascends [] a = tt
each_first-ascends (x ∷ xs) a = (
  above,
  ascends-map (λ (p s : ℕ × List ℕ). nat_lt p.0 s.0) (λ (p s : ℕ × List ℕ). nat_lt p.0 s.0) (λ (s : ℕ × List ℕ). (s.0, x ∷ s.1)) (each_first xs) (each_first-ascends xs a.1) (λ p s e. e),
)
  where
    above : Above (λ (p s : ℕ × List ℕ). nat_lt p.0 s.0) (x, xs) (map (λ (s : ℕ × List ℕ). (s.0, x ∷ s.1)) (each_first xs))
    above i p k =
        let m = at-map_back (λ (s : ℕ × List ℕ). (s.0, x ∷ s.1)) (each_first xs) i p k in
        subst (λ (z : ℕ × List ℕ). nat_lt x z.0 ≡ true) m.2 (a.0 i m.0.0 (taken xs i m.0 m.1).stands)
