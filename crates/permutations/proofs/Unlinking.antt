-- Taking one number out of a permutation.
use Rattle.std.proofs.Common.{◌≡◌, ℕ, ◌<◌, ◌⊎◌, inl, inr, Bool, true, ◌==◌, refl, sym, ap, ◌∙◌, subst, eqb-true, eq-eqb}
use Rattle.std.proofs.lemmas.Bool.{cases_eq, ne_eqb}
use Rattle.permutations.specs.Relation.{join}
use Rattle.permutations.specs.Permutation.{Permutes, same_orbit}
use Rattle.permutations.specs.Exchange.{swapped, exchange, unlink}
use Rattle.permutations.proofs.Relation.{join-old, join-cases, join-ext, same-tests}
use Rattle.permutations.proofs.Permutations.{permutes-inverse, permutes-ext, permutes-one-to-one, permutes-back, exchange-permutes, exchange-left, exchange-right, exchange-other, swapped-left, swapped-right, swapped-other}
use Rattle.permutations.proofs.Orbits.{orbit-equivalence, orbit-step, orbit-test, orbit-ext}
use Rattle.permutations.proofs.Transpositions.{exchange-split}

-- the number taken out is alone
pub unlink-alone : (d : ℕ) (f : ℕ → ℕ) → unlink d f d ≡ d
unfolding unlink
unlink-alone d f = rw (eq-eqb d d refl) refl

-- what came to it goes on to what followed it
pub unlink-before : (d : ℕ) (f : ℕ → ℕ) (x : ℕ) → (x ≡ d → ⊥) → f x ≡ d → unlink d f x ≡ f d
unfolding unlink
unlink-before d f x a e = rw (ne_eqb x d a, eq-eqb (f x) d e) refl

-- all else stays
pub unlink-other : (d : ℕ) (f : ℕ → ℕ) (x : ℕ) → (x ≡ d → ⊥) → (f x ≡ d → ⊥) → unlink d f x ≡ f x
unfolding unlink
unlink-other d f x a c = rw (ne_eqb x d a, ne_eqb (f x) d c) refl

-- the three cases
pub unlink-cases : (d : ℕ) (f : ℕ → ℕ) (x : ℕ) → ((x ≡ d) × (unlink d f x ≡ d)) ⊎ (((x ≡ d → ⊥) × (f x ≡ d) × (unlink d f x ≡ f d)) ⊎ ((x ≡ d → ⊥) × (f x ≡ d → ⊥) × (unlink d f x ≡ f x)))
unlink-cases d f x = elim (cases_eq x d) [
  | inl e ↦ inl (e, ap (unlink d f) e ∙ unlink-alone d f)
  | inr a ↦ elim (cases_eq (f x) d) [
    | inl e ↦ inr (inl (a, e, unlink-before d f x a e))
    | inr c ↦ inr (inr (a, c, unlink-other d f x a c))
  ]
]

-- taking out a number that is alone changes nothing
pub unlink-still : (n d : ℕ) (f g : ℕ → ℕ) → Permutes n f g → d < n → f d ≡ d → (x : ℕ) → x < n → unlink d f x ≡ f x
unlink-still n d f g b l e x k = elim (unlink-cases d f x) [
  | inl h ↦ h.1 ∙ sym e ∙ ap f (sym (h.0))
  | inr r ↦ elim r [
    | inl h ↦ h.2 ∙ e ∙ sym (h.1)
    | inr h ↦ h.2
  ]
]

-- taking d out is the exchange at d and the number before it
pub unlink-exchange : (n d : ℕ) (f g : ℕ → ℕ) → Permutes n f g → d < n → (x : ℕ) → x < n → unlink d f x ≡ exchange (g d) d f x
unlink-exchange n d f g b l x k = elim (unlink-cases d f x) [
  | inl h ↦ h.1 ∙ sym (ap (exchange (g d) d f) (h.0) ∙ exchange-right (g d) d f ∙ b.forth_back d l)
  | inr r ↦ elim r [
    | inl h ↦ let e : x ≡ g d = sym (permutes-back n f g b x d k (h.1)) in h.2 ∙ sym (ap (exchange (g d) d f) e ∙ exchange-left (g d) d f)
    | inr h ↦ h.2 ∙ sym (exchange-other (g d) d f x (λ e. h.1 (ap f e ∙ b.forth_back d l)) (h.0))
  ]
]

-- and its inverse is the inverse with d taken out
pub unlink-back : (n d : ℕ) (f g : ℕ → ℕ) → Permutes n f g → d < n → (x : ℕ) → x < n → unlink d g x ≡ swapped (g d) d (g x)
unlink-back n d f g b l x k = elim (unlink-cases d g x) [
  | inl h ↦ h.1 ∙ sym (ap (λ (z : ℕ). swapped (g d) d (g z)) (h.0) ∙ swapped-left (g d) d)
  | inr r ↦ elim r [
    | inl h ↦ h.2 ∙ sym (ap (swapped (g d) d) (h.1) ∙ swapped-right (g d) d)
    | inr h ↦ h.2 ∙ sym (swapped-other (g d) d (g x) (λ e. h.0 (permutes-one-to-one n g f (permutes-inverse n f g b) x d k l e)) (h.1))
  ]
]

-- with a number taken out it is a permutation
pub unlink-permutes : (n d : ℕ) (f g : ℕ → ℕ) → Permutes n f g → d < n → Permutes n (unlink d f) (unlink d g)
unlink-permutes n d f g b l = permutes-ext n (exchange (g d) d f) (λ x. swapped (g d) d (g x)) (unlink d f) (unlink d g) (exchange-permutes n (g d) d f g (b.back d l) l b) (unlink-exchange n d f g b l) (unlink-back n d f g b l)

-- the number before d and d are in one orbit
pub before-orbit : (n d : ℕ) (f g : ℕ → ℕ) → Permutes n f g → d < n → same_orbit n f (g d) d ≡ true
before-orbit n d f g b l = subst (λ (z : ℕ). same_orbit n f (g d) z ≡ true) (b.forth_back d l) (orbit-step n f (g d) (b.back d l))

-- a number that is alone is related to itself only
pub alone-orbit : (n d : ℕ) (f g : ℕ → ℕ) → Permutes n f g → d < n → f d ≡ d → (y : ℕ) → same_orbit n f d y ≡ true → d ≡ y
alone-orbit n d f g b l e y t = eqb-true d y (sym (orbit-test n f (λ z. d == z) (λ z k. same-tests (d == f z) (d == z)
    (λ h. eq-eqb d z (permutes-one-to-one n f g b d z l k (e ∙ eqb-true d (f z) h)))
    (λ h. eq-eqb d (f z) (sym e ∙ ap f (eqb-true d z h)))) d y t) ∙ eq-eqb d d refl)

-- the orbits with d taken out are the old ones without d
pub unlink-orbit : (n d : ℕ) (f g : ℕ → ℕ) → Permutes n f g → d < n → (x y : ℕ) → (x ≡ d → ⊥) → (y ≡ d → ⊥) → same_orbit n (unlink d f) x y ≡ same_orbit n f x y
unlink-orbit n d f g b l x y a c = elim (cases_eq (f d) d) [
  | inl e ↦ orbit-ext n (unlink d f) f (unlink-still n d f g b l e) x y
  | inr e ↦ same-tests (same_orbit n (unlink d f) x y) (same_orbit n f x y)
      (λ t. s e x y ∙ join-old u (g d) d x y t)
      (λ t. elim (join-cases u (g d) d x y (sym (s e x y) ∙ t)) [
        | inl h ↦ h
        | inr r ↦ elim r [
          | inl h ↦ absurd (c (sym (alone y (h.1))))
          | inr h ↦ absurd (a (sym (alone x ((orbit-equivalence n (unlink d f)).symmetric x d (h.0)))))
        ]
      ])
]
  where
    u : ℕ → ℕ → Bool
    u = same_orbit n (unlink d f)

    alone : (z : ℕ) → same_orbit n (unlink d f) d z ≡ true → d ≡ z
    alone z = alone-orbit n d (unlink d f) (unlink d g) (unlink-permutes n d f g b l) l (unlink-alone d f) z

    same : (v w : ℕ) → same_orbit n (unlink d f) v w ≡ same_orbit n (exchange (g d) d f) v w
    same v w = orbit-ext n (unlink d f) (exchange (g d) d f) (unlink-exchange n d f g b l) v w

    s : (f d ≡ d → ⊥) → (v w : ℕ) → same_orbit n f v w ≡ join u (g d) d v w
    s e v w = exchange-split n f g b (g d) d (b.back d l) l (λ i. e (ap f (sym i) ∙ b.forth_back d l)) (before-orbit n d f g b l) v w ∙ sym (join-ext u (same_orbit n (exchange (g d) d f)) (g d) d same v w)
