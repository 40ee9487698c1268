-- What the first member of an increasing list, the next and the last one are, without places.
use Rattle.std.proofs.Common.{◌≡◌, ℕ, ◌+◌, ◌<◌, ◌⊎◌, inl, inr, Bool, true, false, List, length, slice_index_or, Contains, sym, ap, ◌∙◌, subst, arith}
use Rattle.std.proofs.lemmas.Bool.{cases_order, cases_eq, both_ways}
use Rattle.std.proofs.lemmas.List.{get_or_default}
use Rattle.choice_lists.specs.Order.{IsRising, IsAt}
use Rattle.choice_lists.specs.Products.{IsFirst, IsLast}
use Rattle.choice_lists.proofs.Places.{at-is}
use Rattle.choice_lists.proofs.Products.{first-at, last-at}

module _ {X : Type 0} (before : X → X → Bool) (apart : (x y : X) → before x y ≡ true → before y x ≡ false) (l : List X) (rise : IsRising before l) where
  -- of two places the lower is that of the member that comes before
  lower-first : (i j : ℕ) (x y : X) → IsAt l i x → IsAt l j y → i < j → before x y ≡ true
  lower-first i j x y a b k =
      subst (λ (z : X). before z y ≡ true) a.1 (subst (λ (z : X). before (slice_index_or l i x) z ≡ true) (get_or_default l j x y b.0 ∙ b.1) (rise i j x k b.0))

  one-place : (i j : ℕ) (x y : X) → IsAt l i x → IsAt l j y → i ≡ j → x ≡ y
  one-place i j x y a b e = sym a.1 ∙ (get_or_default l i x y a.0 ∙ (ap (λ z. slice_index_or l z y) e ∙ b.1))

  first-lower : (i j : ℕ) (x y : X) → IsAt l i x → IsAt l j y → before x y ≡ true → i < j
  first-lower i j x y a b h = elim (cases_order i j) [
    | inl e ↦ let t : x ≡ y = one-place i j x y a b e in absurd (both_ways (before y y) (apart y y (subst (λ (z : X). before z y ≡ true) t h)) (subst (λ (z : X). before z y ≡ true) t h))
    | inr (inl k) ↦ k
    | inr (inr k) ↦ absurd (both_ways (before y x) (apart x y h) (lower-first j i y x b a k))
  ]

  at-from : (z : X) → Contains l z → (j : ℕ) × IsAt l j z
  at-from z c = (c.0, (c.1, c.2))

  -- the next member: no other is between
  pub next-between : (i : ℕ) (x y : X) → IsAt l i x → IsAt l (i + 1) y → (before x y ≡ true) × ((z : X) → Contains l z → before x z ≡ true → (y ≡ z) ⊎ (before y z ≡ true))
  next-between i x y a b = (lower-first i (i + 1) x y a b (omega arith), between)
    where
      between : (z : X) → Contains l z → before x z ≡ true → (y ≡ z) ⊎ (before y z ≡ true)
      between z c h =
          let w = at-from z c in
          let k : i < w.0 = first-lower i w.0 x z a w.1 h in
          elim (cases_eq w.0 (i + 1)) [
            | inl e ↦ inl (one-place (i + 1) w.0 y z b w.1 (sym e))
            | inr n ↦ inr (lower-first (i + 1) w.0 y z b w.1 (omega (arith, k, n)))
          ]

  -- the first: before all others
  pub first-before : (x : X) → IsFirst l x → (z : X) → Contains l z → (x ≡ z) ⊎ (before x z ≡ true)
  first-before x f z c =
      let a = at-is l 0 x (first-at l x f) in
      let w = at-from z c in
      elim (cases_eq w.0 0) [
        | inl e ↦ inl (one-place 0 w.0 x z a w.1 (sym e))
        | inr n ↦ inr (lower-first 0 w.0 x z a w.1 (omega (arith, n)))
      ]

  -- the last: none comes after
  pub last-after : (x : X) → IsLast l x → (z : X) → Contains l z → before x z ≡ true → ⊥
  last-after x f z c h =
      let p = last-at l x f in
      let a = at-is l p.0 x p.1 in
      let w = at-from z c in
      let k : p.0 < w.0 = first-lower p.0 w.0 x z a w.1 h in
      let b : w.0 < length l = w.1.0 in
      omega (arith, k, b, p.2)
