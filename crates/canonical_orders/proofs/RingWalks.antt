-- The walks of the code around a vertex, step by step.
use Rattle.std.proofs.Common.{◌≡◌, ◌≢◌, ℕ, ◌+◌, ◌<◌, ◌≤◌, inl, inr, Bool, true, false, List, [], ◌∷◌, ◌++◌, length, refl, sym, ap, ◌∙◌, arith}
use Rattle.std.proofs.lemmas.Bool.{both_ways, cases_lt}
use Rattle.std.proofs.lemmas.List.{length-append}
use Rattle.permutations.specs.Count.{some, least}
use Rattle.permutations.specs.Permutation.{Permutes, iterate}
use Rattle.permutations.specs.Ring.{images, orbit_length, ring}
use Rattle.permutations.proofs.Search.{least-passes, least-first}
use Rattle.permutations.proofs.Iterates.{iterate-more}
use Rattle.permutations.proofs.Rings.{images-append, orbit_length-back, orbit_length-least}

-- one image more
images-more : (f : ℕ → ℕ) (x d : ℕ) (l : List ℕ) → l ≡ images f (length l) x → d ≡ iterate f (length l) x → l ++ d ∷ [] ≡ images f (length (l ++ d ∷ [])) x
images-more f x d l e i = ap (λ (k : List ℕ). k ++ d ∷ []) e ∙ ap (λ (z : ℕ). images f (length l) x ++ z ∷ []) i ∙ sym (images-append f (length l) 1 x)
    ∙ ap (λ (k : ℕ). images f k x) (sym (length-append l (d ∷ [])))

-- the walk around the vertex of x so far: these darts, and now at dart d
pub record IsAround (n : ℕ) (f : ℕ → ℕ) (x d : ℕ) (l : List ℕ) : Type 0 where
  pub items : l ≡ images f (length l) x
  pub at : d ≡ iterate f (length l) x
  pub some : 0 < length l
  pub most : length l ≤ orbit_length n f x

-- its first step
pub around-start : (n : ℕ) (f : ℕ → ℕ) (x : ℕ) → IsAround n f x (f x) (x ∷ [])
around-start n f x = record { items = refl; at = refl; some = omega arith; most = omega arith }

-- before the walk is back at x it is shorter than the orbit
pub around-short : (n : ℕ) (f g : ℕ → ℕ) → Permutes n f g → (x d : ℕ) (l : List ℕ) → x < n → IsAround n f x d l → d ≢ x → length l < orbit_length n f x
around-short n f g b x d l k w ne = elim (cases_lt (length l) (orbit_length n f x)) [
  | inl s ↦ s
  | inr s ↦ let e : length l ≡ orbit_length n f x = omega (arith, w.most, s) in absurd (ne (w.at ∙ ap (λ (j : ℕ). iterate f j x) e ∙ orbit_length-back n f g b x k))
]

-- one step more
pub around-more : (n : ℕ) (f g : ℕ → ℕ) → Permutes n f g → (x d : ℕ) (l : List ℕ) → x < n → IsAround n f x d l → d ≢ x → IsAround n f x (f d) (l ++ d ∷ [])
around-more n f g b x d l k w ne = record {
  items = images-more f x d l w.items w.at;
  at = ap f w.at ∙ sym (iterate-more f (length l) x) ∙ ap (λ (j : ℕ). iterate f j x) (sym longer);
  some = omega (arith, longer);
  most = omega (arith, longer, around-short n f g b x d l k w ne);
}
  where
    longer : length (l ++ d ∷ []) ≡ length l + 1
    longer = length-append l (d ∷ [])

-- where the walk is back at x, the darts are the ring
pub around-all : (n : ℕ) (f g : ℕ → ℕ) → Permutes n f g → (x d : ℕ) (l : List ℕ) → x < n → IsAround n f x d l → d ≡ x → l ≡ ring n f x
around-all n f g b x d l k w e = w.items ∙ ap (λ (j : ℕ). images f j x) whole
  where
    whole : length l ≡ orbit_length n f x
    whole = elim (cases_lt (length l) (orbit_length n f x)) [
      | inl s ↦ absurd (orbit_length-least n f g b x k (length l) w.some s (sym w.at ∙ e))
      | inr s ↦ omega (arith, w.most, s)
    ]

-- the walk from y to the first dart that passes a test, so far; `passes` is the test of the number of steps
pub record IsOnTheWay (n : ℕ) (f : ℕ → ℕ) (passes : ℕ → Bool) (y d : ℕ) (l : List ℕ) : Type 0 where
  pub items : l ≡ images f (length l) y
  pub at : d ≡ iterate f (length l) y
  pub most : length l ≤ least n passes

-- where dart d doesn't pass, more are to come
pub way-short : (n : ℕ) (f : ℕ → ℕ) (passes : ℕ → Bool) (y d : ℕ) (l : List ℕ) → some n passes ≡ true → IsOnTheWay n f passes y d l → passes (length l) ≡ false → length l < least n passes
way-short n f passes y d l s w h = elim (cases_lt (length l) (least n passes)) [
  | inl k ↦ k
  | inr k ↦ let e : least n passes ≡ length l = omega (arith, w.most, k) in absurd (both_ways (passes (length l)) h (ap passes (sym e) ∙ least-passes n passes s))
]

pub way-more : (n : ℕ) (f : ℕ → ℕ) (passes : ℕ → Bool) (y d : ℕ) (l : List ℕ) → some n passes ≡ true → IsOnTheWay n f passes y d l → passes (length l) ≡ false → IsOnTheWay n f passes y (f d) (l ++ d ∷ [])
way-more n f passes y d l s w h = record {
  items = images-more f y d l w.items w.at;
  at = ap f w.at ∙ sym (iterate-more f (length l) y) ∙ ap (λ (j : ℕ). iterate f j y) (sym (length-append l (d ∷ [])));
  most = omega (arith, length-append l (d ∷ []), way-short n f passes y d l s w h);
}

-- where it passes, this dart is the last
pub way-all : (n : ℕ) (f : ℕ → ℕ) (passes : ℕ → Bool) (y d : ℕ) (l : List ℕ) → IsOnTheWay n f passes y d l → passes (length l) ≡ true → l ++ d ∷ [] ≡ images f (least n passes + 1) y
way-all n f passes y d l w h = images-more f y d l w.items w.at ∙ ap (λ (k : ℕ). images f k y) (length-append l (d ∷ []) ∙ ap (λ (k : ℕ). k + 1) whole)
  where
    whole : length l ≡ least n passes
    whole = omega (arith, w.most, least-first n passes (length l) h)
