-- A permutation is told by its restriction, if of the numbers left out no two follow each other and of each it is known what
-- it follows or what follows it.
use Rattle.std.proofs.Common.{◌≡◌, ℕ, zero, suc, ◌*◌, ◌<◌, ◌⊎◌, inl, inr, Bool, true, false, refl, sym, ap, ◌∙◌, subst, arith}
use Rattle.std.proofs.lemmas.Bool.{cases_Bool, cases_eq, both_ways}
use Rattle.permutations.specs.Permutation.{Permutes, iterate}
use Rattle.permutations.specs.Exchange.{restricted}
use Rattle.permutations.proofs.Permutations.{permutes-one-to-one}
use Rattle.permutations.proofs.Restriction.{goes-restricted, restricted-next, restricted-permutes}
use Rattle.dart_maps.specs.Map.{twin, IsMap}
use Rattle.dart_maps.specs.Changes.{contracted, follows}
use Rattle.dart_maps.proofs.Darts.{twin-below}
use Rattle.dart_maps.proofs.Contract.{contracted-before, contracted-before-twin, contracted-other, follows-own}

-- a number left out is passed over
pub restricted-over : (n : ℕ) (keep : ℕ → Bool) (f g : ℕ → ℕ) → Permutes n f g → (x : ℕ) → x < n → keep x ≡ true → keep (f x) ≡ false → keep (f (f x)) ≡ true → restricted n keep f x ≡ f (f x)
restricted-over n keep f g p x l h out in_ = goes-restricted n keep f g p x l h (f (f x)) (1, refl, in_, between)
  where
    between : (i : ℕ) → i < 1 → keep (iterate f (suc i) x) ≡ false
    between zero k = out
    between (suc i) k = absurd (omega arith)

-- none of the numbers left out is followed by another one
abbrev pub AreSingle : ℕ → (ℕ → Bool) → (ℕ → ℕ) → Type 0
AreSingle n keep f = (z : ℕ) → z < n → keep z ≡ false → keep (f z) ≡ true

-- so none follows one
pub single-back : (n : ℕ) (keep : ℕ → Bool) (f g : ℕ → ℕ) → Permutes n f g → AreSingle n keep f → (z : ℕ) → z < n → keep z ≡ false → keep (g z) ≡ true
single-back n keep f g p alone z l h = elim (cases_Bool (keep (g z))) [
  | inl t ↦ t
  | inr t ↦ absurd (both_ways (keep z) h (subst (λ w. keep w ≡ true) (p.forth_back z l) (alone (g z) (p.back z l) t)))
]

-- what follows such a number follows, in the restriction, what it follows
pub restricted-before : (n : ℕ) (keep : ℕ → Bool) (f g : ℕ → ℕ) → Permutes n f g → AreSingle n keep f → (z : ℕ) → z < n → keep z ≡ false → restricted n keep f (g z) ≡ f z
restricted-before n keep f g p alone z l h =
    let back : f (g z) ≡ z = p.forth_back z l in
    restricted-over n keep f g p (g z) (p.back z l) (single-back n keep f g p alone z l h) (ap keep back ∙ h) (ap keep (ap f back) ∙ alone z l h) ∙ ap f back

-- two permutations with one restriction
module _ (n : ℕ) (keep : ℕ → Bool) (f g h k : ℕ → ℕ) (p : Permutes n f g) (q : Permutes n h k) (single : AreSingle n keep f) (single_too : AreSingle n keep h)
    (same : (d : ℕ) → d < n → restricted n keep f d ≡ restricted n keep h d) (near : (z : ℕ) → z < n → keep z ≡ false → (f z ≡ h z) ⊎ (g z ≡ k z)) where
  -- what is left out follows the same here and there
  left-before : (z : ℕ) → z < n → keep z ≡ false → g z ≡ k z
  left-before z l out = elim (near z l out) [
    | inr e ↦ e
    | inl e ↦ permutes-one-to-one n (restricted n keep f) (restricted n keep g) (restricted-permutes n keep f g p) (g z) (k z) (p.back z l) (q.back z l)
        (restricted-before n keep f g p single z l out ∙ e ∙ sym (same (k z) (q.back z l) ∙ restricted-before n keep h k q single_too z l out))
  ]

  -- and is followed by the same
  left-after : (z : ℕ) → z < n → keep z ≡ false → f z ≡ h z
  left-after z l out = sym (restricted-before n keep f g p single z l out) ∙ same (g z) (p.back z l) ∙ ap (restricted n keep h) (left-before z l out) ∙ restricted-before n keep h k q single_too z l out

  -- so the permutations are the same
  pub restriction-tells : (d : ℕ) → d < n → f d ≡ h d
  restriction-tells d l = elim (cases_Bool (keep d)) [
    | inr out ↦ left-after d l out
    | inl stay ↦ elim (cases_Bool (keep (f d))) [
      | inr out ↦ sym (q.forth_back (f d) (p.forth d l)) ∙ ap h (sym (left-before (f d) (p.forth d l) out) ∙ p.back_forth d l)
      | inl t ↦ elim (cases_Bool (keep (h d))) [
        | inl u ↦ sym (restricted-next n keep f g p d l stay t) ∙ same d l ∙ restricted-next n keep h k q d l stay u
        | inr out ↦ sym (sym (p.forth_back (h d) (q.forth d l)) ∙ ap f (left-before (h d) (q.forth d l) out ∙ q.back_forth d l))
      ]
    ]
  ]

-- contracting an edge looks at a dart and at the edge's own
pub contracted-ext : (c : ℕ) (f h : ℕ → ℕ) (x : ℕ) → f x ≡ h x → f c ≡ h c → f (twin c) ≡ h (twin c) → contracted c f x ≡ contracted c h x
unfolding contracted
contracted-ext c f h x p q r = rw (p, q, r) refl

-- two maps, the vertices of which a function keeps apart, and an edge between two vertices of more than one dart each; with
-- the edge contracted they are the same
module _ (m : ℕ) (f g h k : ℕ → ℕ) (p : IsMap m f g) (q : IsMap m h k) (at : ℕ → ℕ) (keeps : (d : ℕ) → d < 2 * m → at (f d) ≡ at d) (keeps_too : (d : ℕ) → d < 2 * m → at (h d) ≡ at d)
    (c : ℕ) (l : c < 2 * m) (apart : at c ≡ at (twin c) → ⊥)
    (moves : f c ≡ c → ⊥) (moves_twin : f (twin c) ≡ twin c → ⊥) (moves_too : h c ≡ c → ⊥) (moves_too_twin : h (twin c) ≡ twin c → ⊥)
    (same : (d : ℕ) → d < 2 * m → contracted c f d ≡ contracted c h d) where
  lt : twin c < 2 * m
  lt = twin-below m c l

  -- a dart that goes on to one end of the edge in the one map does so in the other
  goes-same : (s t : ℕ → ℕ) → ((d : ℕ) → d < 2 * m → at (s d) ≡ at d) → ((d : ℕ) → d < 2 * m → at (t d) ≡ at d) → (s c ≡ c → ⊥) → (s (twin c) ≡ twin c → ⊥) → ((d : ℕ) → d < 2 * m → contracted c s d ≡ contracted c t d)
      → (d : ℕ) → d < 2 * m → s d ≡ c → t d ≡ c
  goes-same s t ks kt ms mt eq d ld e = elim (cases_eq (t d) c) [
    | inl i ↦ i
    | inr n ↦ absurd (apart (sym (sym (
        sym (kt d ld) ∙ ap at (sym (contracted-other c t d dc dt n (λ i. apart (sym here ∙ sym (kt d ld) ∙ ap at i))))
        ∙ ap at (sym (eq d ld) ∙ contracted-before c s d dc dt e ∙ follows-own (twin c) c s mt) ∙ ks (twin c) lt) ∙ here)))
  ]
    where
      here : at d ≡ at c
      here = sym (ks d ld) ∙ ap at e

      dc : d ≡ c → ⊥
      dc i = ms (ap s (sym i) ∙ e)

      dt : d ≡ twin c → ⊥
      dt i = apart (sym here ∙ ap at i)

  goes-same_twin : (s t : ℕ → ℕ) → ((d : ℕ) → d < 2 * m → at (s d) ≡ at d) → ((d : ℕ) → d < 2 * m → at (t d) ≡ at d) → (s c ≡ c → ⊥) → (s (twin c) ≡ twin c → ⊥) → ((d : ℕ) → d < 2 * m → contracted c s d ≡ contracted c t d)
      → (d : ℕ) → d < 2 * m → s d ≡ twin c → t d ≡ twin c
  goes-same_twin s t ks kt ms mt eq d ld e = elim (cases_eq (t d) (twin c)) [
    | inl i ↦ i
    | inr n ↦ absurd (apart (sym (ks c l) ∙ ap at (sym (contracted-before-twin c s d dc dt e ∙ follows-own c (twin c) s ms) ∙ eq d ld ∙ contracted-other c t d dc dt (λ i. apart (sym (sym here ∙ sym (kt d ld) ∙ ap at i))) n) ∙ kt d ld ∙ here))
  ]
    where
      here : at d ≡ at (twin c)
      here = sym (ks d ld) ∙ ap at e

      dc : d ≡ c → ⊥
      dc i = apart (sym (ap at i) ∙ here)

      dt : d ≡ twin c → ⊥
      dt i = mt (ap s (sym i) ∙ e)

  -- so the maps are the same
  pub contraction-tells : (d : ℕ) → d < 2 * m → f d ≡ h d
  contraction-tells d ld = elim (cases_eq d c) [
    | inl i ↦ ap f i ∙ sym (follows-own c (twin c) f moves) ∙ sym (before-twin f g p keeps moves moves_twin (g (twin c)) (p.back (twin c) lt) (p.forth_back (twin c) lt)) ∙ same (g (twin c)) (p.back (twin c) lt)
        ∙ before-twin h k q keeps_too moves_too moves_too_twin (g (twin c)) (p.back (twin c) lt) (goes-same_twin f h keeps keeps_too moves moves_twin same (g (twin c)) (p.back (twin c) lt) (p.forth_back (twin c) lt)) ∙ follows-own c (twin c) h moves_too ∙ ap h (sym i)
    | inr dc ↦ elim (cases_eq d (twin c)) [
      | inl i ↦ ap f i ∙ sym (follows-own (twin c) c f moves_twin) ∙ sym (before f g p keeps moves moves_twin (g c) (p.back c l) (p.forth_back c l)) ∙ same (g c) (p.back c l)
          ∙ before h k q keeps_too moves_too moves_too_twin (g c) (p.back c l) (goes-same f h keeps keeps_too moves moves_twin same (g c) (p.back c l) (p.forth_back c l)) ∙ follows-own (twin c) c h moves_too_twin ∙ ap h (sym i)
      | inr dt ↦ elim (cases_eq (f d) c) [
        | inl e ↦ e ∙ sym (goes-same f h keeps keeps_too moves moves_twin same d ld e)
        | inr n ↦ elim (cases_eq (f d) (twin c)) [
          | inl e ↦ e ∙ sym (goes-same_twin f h keeps keeps_too moves moves_twin same d ld e)
          | inr o ↦ sym (contracted-other c f d dc dt n o) ∙ same d ld ∙ contracted-other c h d dc dt
              (λ e. n (goes-same h f keeps_too keeps moves_too moves_too_twin (λ z j. sym (same z j)) d ld e))
              (λ e. o (goes-same_twin h f keeps_too keeps moves_too moves_too_twin (λ z j. sym (same z j)) d ld e))
        ]
      ]
    ]
  ]
    where
      before : (s r : ℕ → ℕ) → IsMap m s r → ((z : ℕ) → z < 2 * m → at (s z) ≡ at z) → (s c ≡ c → ⊥) → (s (twin c) ≡ twin c → ⊥) → (z : ℕ) → z < 2 * m → s z ≡ c → contracted c s z ≡ follows (twin c) c s
      before s r w ks ms mt z lz e = contracted-before c s z (λ i. ms (ap s (sym i) ∙ e)) (λ i. apart (sym (sym (ks z lz) ∙ ap at e) ∙ ap at i)) e

      before-twin : (s r : ℕ → ℕ) → IsMap m s r → ((z : ℕ) → z < 2 * m → at (s z) ≡ at z) → (s c ≡ c → ⊥) → (s (twin c) ≡ twin c → ⊥) → (z : ℕ) → z < 2 * m → s z ≡ twin c → contracted c s z ≡ follows c (twin c) s
      before-twin s r w ks ms mt z lz e = contracted-before-twin c s z (λ i. apart (sym (ap at i) ∙ sym (ks z lz) ∙ ap at e)) (λ i. mt (ap s (sym i) ∙ e)) e
