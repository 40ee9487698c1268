-- A map in many parts without connection is plane exactly where each part is.
use Rattle.std.proofs.Common.{◌≡◌, ℕ, zero, suc, ◌*◌, ◌<◌, Bool, not, cond, ◌==◌, ltb, inl, inr, refl, sym, ap, ◌∙◌, subst, arith, eq-eqb, lt-ltb, le-ltb}
use Rattle.std.proofs.lemmas.Bool.{cases_Bool, cases_eq, cases_lt, ne_eqb}
use Rattle.permutations.specs.Exchange.{restricted}
use Rattle.permutations.proofs.Restriction.{restricted-next, restricted-alone, restricted-permutes}
use Rattle.dart_maps.specs.Map.{twin, IsMap, IsPlane}
use Rattle.dart_maps.proofs.Euler.{plane-ext, still-plane}
use Rattle.dart_maps.proofs.Parts.{parts-plane, parts-plane-back}

-- a map restricted to a part that its steps keep
pub restricted-kept : (m : ℕ) (f g : ℕ → ℕ) → IsMap m f g → (t : ℕ → Bool) → ((x : ℕ) → x < 2 * m → t (f x) ≡ t x) → (x : ℕ) → x < 2 * m → restricted (2 * m) t f x ≡ cond (t x) (f x) x
restricted-kept m f g b t keep x l = elim (cases_Bool (t x)) [
  | inl h ↦ restricted-next (2 * m) t f g b x l h (keep x l ∙ h) ∙ sym (ap (λ (z : Bool). cond z (f x) x) h)
  | inr h ↦ restricted-alone (2 * m) t f x h ∙ sym (ap (λ (z : Bool). cond z (f x) x) h)
]

-- a map whose darts are in parts with numbers
module _ (m : ℕ) (f g : ℕ → ℕ) (b : IsMap m f g) (part : ℕ → ℕ) (keep : (x : ℕ) → x < 2 * m → part (f x) ≡ part x) (whole : (x : ℕ) → x < 2 * m → part (twin x) ≡ part x) where
  -- the parts below n
  abbrev below : ℕ → ℕ → Bool
  below n x = ltb (part x) n

  -- part n
  abbrev at : ℕ → ℕ → Bool
  at n x = part x == n

  -- what is left of the map in the parts that pass a test
  abbrev left : (ℕ → Bool) → ℕ → ℕ
  left t = restricted (2 * m) t f

  -- dart by dart
  left-is : (t : ℕ → Bool) (x : ℕ) → x < 2 * m → restricted (2 * m) (λ z. t (part z)) f x ≡ cond (t (part x)) (f x) x
  left-is t = restricted-kept m f g b (λ z. t (part z)) (λ x l. ap t (keep x l))

  -- it keeps the parts
  left-keeps : (t u : ℕ → Bool) (x : ℕ) → x < 2 * m → t (part (restricted (2 * m) (λ z. u (part z)) f x)) ≡ t (part x)
  left-keeps t u x l = ap (λ (z : ℕ). t (part z)) (left-is u x l) ∙ elim (cases_Bool (u (part x))) [
    | inl h ↦ ap (λ (z : Bool). t (part (cond z (f x) x))) h ∙ ap t (keep x l)
    | inr h ↦ ap (λ (z : Bool). t (part (cond z (f x) x))) h
  ]

  -- restricted twice
  left-twice : (t u : ℕ → Bool) (x : ℕ) → x < 2 * m → restricted (2 * m) (λ z. t (part z)) (restricted (2 * m) (λ z. u (part z)) f) x ≡ cond (t (part x)) (cond (u (part x)) (f x) x) x
  left-twice t u x l = restricted-kept m (left (λ z. u (part z))) (restricted (2 * m) (λ z. u (part z)) g) (restricted-permutes (2 * m) (λ z. u (part z)) f g b) (λ z. t (part z)) (λ z k. left-keeps t u z k) x l
      ∙ ap (λ (z : ℕ). cond (t (part x)) z x) (left-is u x l)

  -- the parts below n + 1 are those below n and part n
  fewer : (n x : ℕ) → x < 2 * m → restricted (2 * m) (below n) (left (below (suc n))) x ≡ left (below n) x
  fewer n x l = left-twice (λ z. ltb z n) (λ z. ltb z (suc n)) x l ∙ pick (part x) (f x) ∙ sym (left-is (λ z. ltb z n) x l)
    where
      pick : (p y : ℕ) → cond (ltb p n) (cond (ltb p (suc n)) y x) x ≡ cond (ltb p n) y x
      pick p y = elim (cases_lt p n) [
        | inl h ↦ rw (lt-ltb p n h, lt-ltb p (suc n) (omega arith)) refl
        | inr h ↦ rw (le-ltb p n h) refl
      ]

  -- part n
  last : (n x : ℕ) → x < 2 * m → restricted (2 * m) (λ z. not (below n z)) (left (below (suc n))) x ≡ left (at n) x
  last n x l = left-twice (λ z. not (ltb z n)) (λ z. ltb z (suc n)) x l ∙ pick (part x) (f x) ∙ sym (left-is (λ z. z == n) x l)
    where
      pick : (p y : ℕ) → cond (not (ltb p n)) (cond (ltb p (suc n)) y x) x ≡ cond (p == n) y x
      pick p y = elim (cases_lt p n) [
        | inl h ↦ rw (lt-ltb p n h, ne_eqb p n (λ e. omega arith)) refl
        | inr h ↦ elim (cases_eq p n) [
          | inl e ↦ rw (le-ltb p n h, lt-ltb p (suc n) (omega arith), eq-eqb p n e) refl
          | inr e ↦ rw (le-ltb p n h, le-ltb p (suc n) (omega arith), ne_eqb p n e) refl
        ]
      ]

  -- the map left in the parts below n + 1
  more-map : (n : ℕ) → IsMap m (restricted (2 * m) (λ x. ltb (part x) n) f) (restricted (2 * m) (λ x. ltb (part x) n) g)
  more-map n = restricted-permutes (2 * m) (below n) f g b

  -- the parts below n are plane together where each is
  below-plane : (n : ℕ) → ((k : ℕ) → k < n → IsPlane m (restricted (2 * m) (λ x. part x == k) f)) → IsPlane m (restricted (2 * m) (λ x. ltb (part x) n) f)
  below-plane zero h = still-plane m (left (below zero)) (λ d l. left-is (λ z. ltb z zero) d l ∙ ap (λ (z : Bool). cond z (f d) d) (le-ltb (part d) zero (omega arith)))
  below-plane (suc n) h = parts-plane m (left (below (suc n))) (restricted (2 * m) (below (suc n)) g) (more-map (suc n)) (below n) (λ d l. left-keeps (λ z. ltb z n) (λ z. ltb z (suc n)) d l) (λ d l. ap (λ z. ltb z n) (whole d l))
      (plane-ext m (left (below n)) (restricted (2 * m) (below n) (left (below (suc n)))) (λ d l. sym (fewer n d l)) (below-plane n (λ k l. h k (omega arith))))
      (plane-ext m (left (at n)) (restricted (2 * m) (λ z. not (below n z)) (left (below (suc n)))) (λ d l. sym (last n d l)) (h n (omega arith)))

  -- and each is where they are together
  below-plane-back : (n : ℕ) → IsPlane m (restricted (2 * m) (λ x. ltb (part x) n) f) → (k : ℕ) → k < n → IsPlane m (restricted (2 * m) (λ x. part x == k) f)
  below-plane-back zero p k l = absurd (omega arith)
  below-plane-back (suc n) p k l = let both = parts-plane-back m (left (below (suc n))) (restricted (2 * m) (below (suc n)) g) (more-map (suc n)) (below n) (λ d l. left-keeps (λ z. ltb z n) (λ z. ltb z (suc n)) d l) (λ d l. ap (λ z. ltb z n) (whole d l)) p in
      elim (cases_eq k n) [
        | inl e ↦ subst (λ (z : ℕ). IsPlane m (restricted (2 * m) (λ x. part x == z) f)) (sym e) (plane-ext m (restricted (2 * m) (λ z. not (below n z)) (left (below (suc n)))) (left (at n)) (λ d l. last n d l) both.1)
        | inr e ↦ below-plane-back n (plane-ext m (restricted (2 * m) (below n) (left (below (suc n)))) (left (below n)) (λ d l. fewer n d l) both.0) k (omega arith)
      ]

  -- where all darts are in parts below n, this is the map
  all-below : (n : ℕ) → ((x : ℕ) → x < 2 * m → part x < n) → (x : ℕ) → x < 2 * m → restricted (2 * m) (λ z. ltb (part z) n) f x ≡ f x
  all-below n a x l = left-is (λ z. ltb z n) x l ∙ ap (λ (z : Bool). cond z (f x) x) (lt-ltb (part x) n (a x l))

  -- the map is plane where each part is
  pub many-plane : (n : ℕ) → ((x : ℕ) → x < 2 * m → part x < n) → ((k : ℕ) → k < n → IsPlane m (restricted (2 * m) (λ x. part x == k) f)) → IsPlane m f
  many-plane n a h = plane-ext m (left (below n)) f (all-below n a) (below-plane n h)

  -- and each part where the map is
  pub many-plane-back : (n : ℕ) → ((x : ℕ) → x < 2 * m → part x < n) → IsPlane m f → (k : ℕ) → k < n → IsPlane m (restricted (2 * m) (λ x. part x == k) f)
  many-plane-back n a p = below-plane-back n (plane-ext m f (left (below n)) (λ d l. sym (all-below n a d l)) p)
