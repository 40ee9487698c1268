-- A map under other numbers, beside darts that are alone: the inner map made from the outer one, and the outer from the inner.
use Rattle.std.proofs.Common.{◌≡◌, ℕ, ◌<◌, inl, inr, Bool, true, false, if◌then◌else◌, refl, sym, ap, ◌∙◌, subst}
use Rattle.std.proofs.lemmas.Bool.{cases_Bool, both_ways}
use Rattle.permutations.specs.Permutation.{Permutes, same_orbit}
use Rattle.permutations.proofs.Relation.{same-tests}
use Rattle.permutations.proofs.Permutations.{permutes-one-to-one, permutes-inverse}
use Rattle.permutations.proofs.Orbits.{orbit-equivalence, orbit-least, orbit-step}
use Rattle.permutations.proofs.Renaming.{equivalence-through}
use Rattle.dart_maps.proofs.Renumber.{copied, copied-equivalence, copied-live, copied-dead, copied-says}

-- `into` takes the numbers below n to those below m that pass the test, and `back` takes them back
pub record IsNumbering (n m : ℕ) (live : ℕ → Bool) (into back : ℕ → ℕ) : Type 0 where
  pub numbers : (d : ℕ) → d < n → into d < m
  pub lives : (d : ℕ) → d < n → live (into d) ≡ true
  pub numbers_back : (d : ℕ) → d < m → live d ≡ true → back d < n
  pub into_back : (d : ℕ) → d < m → live d ≡ true → into (back d) ≡ d
  pub back_into : (d : ℕ) → d < n → back (into d) ≡ d

-- a permutation of the outer numbers that leaves those alone which fail
module _ (n m : ℕ) (live : ℕ → Bool) (into back : ℕ → ℕ) (z : IsNumbering n m live into back) (f g : ℕ → ℕ) (p : Permutes m f g) (alone : (d : ℕ) → d < m → live d ≡ false → f d ≡ d) where
  -- keeps those that pass
  pub live-stays : (d : ℕ) → d < m → live d ≡ true → live (f d) ≡ true
  live-stays d l h = elim (cases_Bool (live (f d))) [
    | inl t ↦ t
    | inr t ↦ absurd (both_ways (live d) (subst (λ w. live w ≡ false) (permutes-one-to-one m f g p (f d) d (p.forth d l) l (alone (f d) (p.forth d l) t)) t) h)
  ]

  -- and so does its inverse, which leaves the same alone
  pub alone-back : (d : ℕ) → d < m → live d ≡ false → g d ≡ d
  alone-back d l h = ap g (sym (alone d l h)) ∙ p.back_forth d l

-- the inverse too
live-back : (n m : ℕ) (live : ℕ → Bool) (into back : ℕ → ℕ) → IsNumbering n m live into back → (f g : ℕ → ℕ) → Permutes m f g → ((d : ℕ) → d < m → live d ≡ false → f d ≡ d) → (d : ℕ) → d < m → live d ≡ true → live (g d) ≡ true
live-back n m live into back z f g p alone = live-stays n m live into back z g f (permutes-inverse m f g p) (alone-back n m live into back z f g p alone)

-- the inner permutation
pub inner-permutes : (n m : ℕ) (live : ℕ → Bool) (into back : ℕ → ℕ) → IsNumbering n m live into back → (f g : ℕ → ℕ) → Permutes m f g → ((d : ℕ) → d < m → live d ≡ false → f d ≡ d)
    → Permutes n (λ d. back (f (into d))) (λ d. back (g (into d)))
inner-permutes n m live into back z f g p alone = record {
  forth = λ d l. z.numbers_back (f (into d)) (p.forth (into d) (z.numbers d l)) (forth d l);
  back = λ d l. z.numbers_back (g (into d)) (p.back (into d) (z.numbers d l)) (behind d l);
  back_forth = λ d l. ap (λ w. back (g w)) (z.into_back (f (into d)) (p.forth (into d) (z.numbers d l)) (forth d l)) ∙ ap back (p.back_forth (into d) (z.numbers d l)) ∙ z.back_into d l;
  forth_back = λ d l. ap (λ w. back (f w)) (z.into_back (g (into d)) (p.back (into d) (z.numbers d l)) (behind d l)) ∙ ap back (p.forth_back (into d) (z.numbers d l)) ∙ z.back_into d l;
}
  where
    forth : (d : ℕ) → d < n → live (f (into d)) ≡ true
    forth d l = live-stays n m live into back z f g p alone (into d) (z.numbers d l) (z.lives d l)

    behind : (d : ℕ) → d < n → live (g (into d)) ≡ true
    behind d l = live-back n m live into back z f g p alone (into d) (z.numbers d l) (z.lives d l)

-- the outer map that an inner one makes
pub outer : (ℕ → Bool) → (ℕ → ℕ) → (ℕ → ℕ) → (ℕ → ℕ) → ℕ → ℕ
outer live into back f d = (if live d then into (f (back d)) else d)

pub outer-live : (live : ℕ → Bool) (into back f : ℕ → ℕ) (d : ℕ) → live d ≡ true → outer live into back f d ≡ into (f (back d))
unfolding outer
outer-live live into back f d h = rw h refl

pub outer-dead : (live : ℕ → Bool) (into back f : ℕ → ℕ) (d : ℕ) → live d ≡ false → outer live into back f d ≡ d
unfolding outer
outer-dead live into back f d h = rw h refl

-- is a permutation too
pub outer-permutes : (n m : ℕ) (live : ℕ → Bool) (into back : ℕ → ℕ) → IsNumbering n m live into back → (f g : ℕ → ℕ) → Permutes n f g → Permutes m (outer live into back f) (outer live into back g)
outer-permutes n m live into back z f g p = record {
  forth = λ d l. below f p.forth d l;
  back = λ d l. below g p.back d l;
  back_forth = λ d l. there f g p.forth p.back_forth d l;
  forth_back = λ d l. there g f p.back p.forth_back d l;
}
  where
    below : (s : ℕ → ℕ) → ((d : ℕ) → d < n → s d < n) → (d : ℕ) → d < m → outer live into back s d < m
    below s k d l = elim (cases_Bool (live d)) [
      | inl t ↦ subst (λ w. w < m) (sym (outer-live live into back s d t)) (z.numbers (s (back d)) (k (back d) (z.numbers_back d l t)))
      | inr t ↦ subst (λ w. w < m) (sym (outer-dead live into back s d t)) l
    ]

    there : (s r : ℕ → ℕ) → ((d : ℕ) → d < n → s d < n) → ((d : ℕ) → d < n → r (s d) ≡ d) → (d : ℕ) → d < m → outer live into back r (outer live into back s d) ≡ d
    there s r k q d l = elim (cases_Bool (live d)) [
      | inl t ↦
          let b : back d < n = z.numbers_back d l t in
          ap (outer live into back r) (outer-live live into back s d t)
          ∙ outer-live live into back r (into (s (back d))) (z.lives (s (back d)) (k (back d) b))
          ∙ ap (λ w. into (r w)) (z.back_into (s (back d)) (k (back d) b))
          ∙ ap into (q (back d) b)
          ∙ z.into_back d l t
      | inr t ↦ ap (outer live into back r) (outer-dead live into back s d t) ∙ outer-dead live into back r d t
    ]

-- orbits are the same here and there
pub numbered-orbit : (n m : ℕ) (live : ℕ → Bool) (into back : ℕ → ℕ) → IsNumbering n m live into back → (s f : ℕ → ℕ) → ((d : ℕ) → d < n → s d < n) → ((d : ℕ) → d < n → into (s d) ≡ f (into d)) → ((d : ℕ) → d < m → live d ≡ false → f d ≡ d)
    → (x y : ℕ) → x < n → y < n → same_orbit n s x y ≡ same_orbit m f (into x) (into y)
numbered-orbit n m live into back z s f stay steps alone x y a c = same-tests (same_orbit n s x y) (same_orbit m f (into x) (into y)) forth behind
  where
    forth : same_orbit n s x y ≡ true → same_orbit m f (into x) (into y) ≡ true
    forth t = orbit-least n s (λ u v. same_orbit m f (into u) (into v)) (equivalence-through (same_orbit m f) into (orbit-equivalence m f))
        (λ d l. subst (λ w. same_orbit m f (into d) w ≡ true) (sym (steps d l)) (orbit-step m f (into d) (z.numbers d l))) x y t

    -- the step of a live number, seen inside
    seen : (d : ℕ) → d < m → live d ≡ true → (live (f d) ≡ true) × (back (f d) ≡ s (back d))
    seen d l h =
        let b : back d < n = z.numbers_back d l h in
        let q : f d ≡ into (s (back d)) = ap f (sym (z.into_back d l h)) ∙ sym (steps (back d) b) in
        (ap live q ∙ z.lives (s (back d)) (stay (back d) b), ap back q ∙ z.back_into (s (back d)) (stay (back d) b))

    behind : same_orbit m f (into x) (into y) ≡ true → same_orbit n s x y ≡ true
    behind t =
        let r : same_orbit n s (back (into x)) (back (into y)) ≡ true = copied-says live back (same_orbit n s) (into x) (into y) (z.lives x a)
        (orbit-least m f (copied live back (same_orbit n s)) (copied-equivalence live back (same_orbit n s) (orbit-equivalence n s))
        (λ d l. elim (cases_Bool (live d)) [
          | inl w ↦ copied-live live back (same_orbit n s) d (f d) w (seen d l w).0 (subst (λ u. same_orbit n s (back d) u ≡ true) (sym (seen d l w).1) (orbit-step n s (back d) (z.numbers_back d l w)))
          | inr w ↦ copied-dead live back (same_orbit n s) d (f d) w (ap live (alone d l w) ∙ w)
        ])
        (into x) (into y) t) in
        subst (λ u. same_orbit n s u y ≡ true) (z.back_into x a) (subst (λ u. same_orbit n s (back (into x)) u ≡ true) (z.back_into y c) r)
