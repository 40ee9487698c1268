-- One dart more in a restriction: it comes in after the last kept dart before it, in the corner of that dart.
use Rattle.std.proofs.Common.{◌≡◌, ◌≢◌, ℕ, suc, ◌<◌, ◌≤◌, inl, inr, Bool, true, false, ◌||◌, ◌==◌, refl, sym, ap, ◌∙◌, subst, arith}
use Rattle.std.proofs.lemmas.Bool.{cases_Bool, cases_eq, cases_lt, both_ways, or_cases, or_left, or_right, or_from, eq-eqb, eqb-true, ne_eqb}
use mathlib.Core.Path.{fun_ext}
use Rattle.permutations.specs.Permutation.{Permutes, iterate, same_orbit}
use Rattle.permutations.specs.Exchange.{exchange, restricted}
use Rattle.permutations.proofs.Permutations.{permutes-inverse, permutes-one-to-one, exchange-left, exchange-right, exchange-other}
use Rattle.permutations.proofs.Orbits.{orbit-kept, orbit-inverse}
use Rattle.permutations.proofs.Iterates.{iterate-orbit, iterate-ext}
use Rattle.permutations.proofs.Restriction.{GoesOn, goes-restricted, restricted-alone, restricted-permutes, restricted-goes, restricted-next, restricted-twice, restricted-orbit}

-- the test, and one number more
abbrev pub and_one : (ℕ → Bool) → ℕ → ℕ → Bool
and_one keep d x = keep x || (x == d)

-- the last number of the test before d, by the inverse permutation; d itself where its orbit has none
abbrev pub corner_of : ℕ → (ℕ → Bool) → (ℕ → ℕ) → ℕ → ℕ
corner_of n keep g d = restricted n (and_one keep d) g d

-- exchanging a number with itself changes nothing
pub exchange-self : (p : ℕ) (f : ℕ → ℕ) → exchange p p f ≡ f
exchange-self p f = fun_ext (λ x. elim (cases_eq x p) [
  | inl e ↦ ap (exchange p p f) e ∙ exchange-left p p f ∙ ap f (sym e)
  | inr a ↦ exchange-other p p f x a a
])

-- a number that stays is alone in its orbit
pub still-alone : (n : ℕ) (f g : ℕ → ℕ) → Permutes n f g → (x y : ℕ) → x < n → f x ≡ x → same_orbit n f x y ≡ true → y ≡ x
still-alone n f g b x y l s t = eqb-true y x (sym (orbit-kept n f g b (λ z. z == x) kept x y t) ∙ eq-eqb x x refl)
  where
    kept : (z : ℕ) → z < n → (z == x) ≡ true → (f z == x) ≡ true
    kept z _ h = eq-eqb (f z) x (ap f (eqb-true z x h) ∙ s)

-- restrictions of permutations that agree below n agree there
pub restricted-agree : (n : ℕ) (keep : ℕ → Bool) (f g h k : ℕ → ℕ) → Permutes n f g → Permutes n h k → ((x : ℕ) → x < n → f x ≡ h x) → (x : ℕ) → x < n → restricted n keep f x ≡ restricted n keep h x
restricted-agree n keep f g h k b c same x l = elim (cases_Bool (keep x)) [
  | inr t ↦ restricted-alone n keep f x t ∙ sym (restricted-alone n keep h x t)
  | inl t ↦ let w = restricted-goes n keep h k c x l t in
      goes-restricted n keep f g b x l t (restricted n keep h x) (w.0, w.1 ∙ sym (steps (suc (w.0))), w.2, λ i m. ap keep (steps (suc i)) ∙ w.3 i m)
]
  where
    steps : (j : ℕ) → iterate f j x ≡ iterate h j x
    steps j = (iterate-ext n f h b.forth same j x l).0

-- a test that fails from n on, and a number below n that fails it
module _ (n : ℕ) (keep : ℕ → Bool) (f g : ℕ → ℕ) (b : Permutes n f g) (d : ℕ) (l : d < n) (off : keep d ≡ false) (out : (x : ℕ) → n ≤ x → keep x ≡ false) where
  more-keep : (x : ℕ) → keep x ≡ true → and_one keep d x ≡ true
  more-keep x h = or_left (keep x) (x == d) h

  more-here : and_one keep d d ≡ true
  more-here = or_right (keep d) (d == d) (eq-eqb d d refl)

  more-other : (x : ℕ) → and_one keep d x ≡ true → x ≢ d → keep x ≡ true
  more-other x h a = elim (or_cases (keep x) (x == d) h) [ inl k ↦ k | inr e ↦ absurd (a (eqb-true x d e)) ]

  more-neither : (x : ℕ) → keep x ≡ false → x ≢ d → and_one keep d x ≡ false
  more-neither x h a = or_from (keep x) (x == d) h (ne_eqb x d a)

  -- the restriction with d, its inverse, and the restriction without
  abbrev with_d : ℕ → ℕ
  with_d = restricted n (and_one keep d) f

  abbrev with_d_back : ℕ → ℕ
  with_d_back = restricted n (and_one keep d) g

  abbrev without_d : ℕ → ℕ
  without_d = restricted n keep f

  permutes : Permutes n (restricted n (and_one keep d) f) (restricted n (and_one keep d) g)
  permutes = restricted-permutes n (and_one keep d) f g b

  abbrev p : ℕ
  p = corner_of n keep g d

  -- it is below n
  pub corner-below : corner_of n keep g d < n
  corner-below = permutes.back d l

  -- d follows it
  to-d : with_d p ≡ d
  to-d = permutes.forth_back d l

  corner-more : and_one keep d p ≡ true
  corner-more = (restricted-goes n (and_one keep d) g f (permutes-inverse n f g b) d l more-here).2

  without-d : without_d d ≡ d
  without-d = restricted-alone n keep f d off

  -- it is followed by what followed its corner
  follows-d : with_d d ≡ without_d p
  follows-d = elim (cases_eq p d) [
    | inl e ↦ ap with_d (sym e) ∙ to-d ∙ sym (ap without_d e ∙ without-d)
    | inr a ↦ sym (goes-restricted n keep with_d with_d_back permutes p corner-below (more-other p corner-more a) (with_d d) (1, ap with_d (sym to-d), next-kept a, between))
        ∙ restricted-twice n (and_one keep d) keep f g b more-keep p corner-below
  ]
    where
      next-kept : p ≢ d → keep (with_d d) ≡ true
      next-kept a = more-other (with_d d) (restricted-goes n (and_one keep d) f g b d l more-here).2
          (λ e. a (permutes-one-to-one n with_d with_d_back permutes p d corner-below l (to-d ∙ sym e)))

      between : (i : ℕ) → i < 1 → keep (iterate with_d (suc i) p) ≡ false
      between i k = let e : 0 ≡ i = omega arith in subst (λ (z : ℕ). keep (iterate with_d (suc z) p) ≡ false) e (ap keep to-d ∙ off)

  elsewhere : (x : ℕ) → x ≢ p → x ≢ d → with_d x ≡ without_d x
  elsewhere x a c = elim (cases_lt x n) [
    | inr k ↦ restricted-alone n (and_one keep d) f x (more-neither x (out x k) c) ∙ sym (restricted-alone n keep f x (out x k))
    | inl k ↦ elim (cases_Bool (keep x)) [
      | inr h ↦ restricted-alone n (and_one keep d) f x (more-neither x h c) ∙ sym (restricted-alone n keep f x h)
      | inl h ↦ sym (restricted-next n keep with_d with_d_back permutes x k h (goes x k h a)) ∙ restricted-twice n (and_one keep d) keep f g b more-keep x k
    ]
  ]
    where
      goes : (x : ℕ) → x < n → keep x ≡ true → x ≢ p → keep (with_d x) ≡ true
      goes x k h a = more-other (with_d x) (restricted-goes n (and_one keep d) f g b x k (more-keep x h)).2
          (λ e. a (permutes-one-to-one n with_d with_d_back permutes x p k corner-below (e ∙ sym to-d)))

  -- one number more in a restriction is an exchange with its corner
  pub one-more : restricted n (and_one keep d) f ≡ exchange (corner_of n keep g d) d (restricted n keep f)
  one-more = fun_ext (λ x. elim (cases_eq x d) [
    | inl e ↦ ap with_d e ∙ follows-d ∙ sym (ap (exchange p d without_d) e ∙ exchange-right p d without_d)
    | inr c ↦ elim (cases_eq x p) [
      | inl e ↦ ap with_d e ∙ to-d ∙ sym (ap (exchange p d without_d) e ∙ exchange-left p d without_d ∙ without-d)
      | inr a ↦ elsewhere x a c ∙ sym (exchange-other p d without_d x a c)
    ]
  ])

  -- d is followed by what followed its corner
  pub after-corner : restricted n (and_one keep d) f d ≡ restricted n keep f (corner_of n keep g d)
  after-corner = follows-d

  -- its corner is in its orbit
  pub corner-orbit : same_orbit n f d (corner_of n keep g d) ≡ true
  corner-orbit =
      let w : GoesOn (and_one keep d) g d p = restricted-goes n (and_one keep d) g f (permutes-inverse n f g b) d l more-here in
      sym (orbit-inverse n f g b d p) ∙ ap (same_orbit n g d) w.1 ∙ iterate-orbit n g f (permutes-inverse n f g b) (suc (w.0)) d l

  -- where the orbit has a number that passes, the corner passes
  pub corner-kept : (u : ℕ) → keep u ≡ true → same_orbit n f d u ≡ true → keep (corner_of n keep g d) ≡ true
  corner-kept u k o = elim (cases_eq p d) [
    | inr a ↦ more-other p corner-more a
    | inl e ↦
        let same : u ≡ d = still-alone n with_d with_d_back permutes d u l (ap with_d (sym e) ∙ to-d) (restricted-orbit n (and_one keep d) f g b d u more-here (more-keep u k) ∙ o) in
        absurd (both_ways (keep d) off (subst (λ (z : ℕ). keep z ≡ true) same k))
  ]

  -- where just one number of the orbit passes, it is the corner
  pub corner-sole : (u : ℕ) → keep u ≡ true → same_orbit n f d u ≡ true → ((y : ℕ) → same_orbit n f d y ≡ true → keep y ≡ true → y ≡ u) → corner_of n keep g d ≡ u
  corner-sole u k o only = only p corner-orbit (corner-kept u k o)

  -- where none passes, d is its own corner
  pub corner-none : ((y : ℕ) → same_orbit n f d y ≡ true → keep y ≡ false) → corner_of n keep g d ≡ d
  corner-none none = elim (cases_eq p d) [
    | inl e ↦ e
    | inr a ↦ absurd (both_ways (keep p) (none p corner-orbit) (more-other p corner-more a))
  ]
