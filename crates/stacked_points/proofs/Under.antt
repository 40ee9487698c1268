-- What is under the new contour.
use Rattle.std.proofs.Common.{◌≡◌, ℕ, ◌⊎◌, inl, inr, ◌<◌, ◌≤◌, ◌+◌, ◌*◌, false, List, [], ◌∷◌, ◌++◌, arith, refl}
use Rattle.plane_points.specs.Segments.{weighted}
use Rattle.plane_points.proofs.Rising.{Each, Rises, each-map, rises-pairs, each-append, rises-append, rises-first, rises-across}
use Rattle.stacked_points.specs.Contours.{Successive, IsContour, IsBetween, is_over, IsUnder, IsSegmentUnder, stretch, contour_of, Overlooks}
use Rattle.stacked_points.specs.Laws.{StaysContour, OldStaysUnder, NewIsUnder}
use Rattle.stacked_points.proofs.Chains.{chain-map, chain-each, rises-chain, chain-first, chain-second, chain-join, each-all, Found, any-found, found-any, each-cut, rises-short, found-each, found-parts, found-first, found-second}
use Rattle.stacked_points.proofs.Overs.{mul-both, After, Before, not-over-first, not-over-second, not-over-left, not-over-right}
use Rattle.stacked_points.proofs.Stacking.{Across, after-first, before-last, pick, from-first, from-last, low-end, high-end, under-first, under-second, whole, second, part, last, chain-part}

-- a is to the left of all that b is to the left of, where it is not to the right of b
farther : (a b : ℕ × ℕ) (l : List (ℕ × ℕ)) → a.0 ≤ b.0 → Each (Across b) l → Each (Across a) l
farther a b l h e = each-map (Across b) (Across a) (λ c y. omega (arith, h, y)) l e

module _ (v a b : ℕ × ℕ) (before inner after : List (ℕ × ℕ)) (contour : IsContour (contour_of before a inner b after)) (o : Overlooks v a inner b) where
  abbrev OldContour : List (ℕ × ℕ)
  OldContour = contour_of before a inner b after

  -- the points before a are to its left
  before-a : Each (λ x. x.0 < a.0) before
  before-a = each-map (λ x. Each (Across x) (a ∷ (inner ++ b ∷ after))) (λ x. x.0 < a.0) (λ x y. y.0) before (rises-across Across before (a ∷ (inner ++ b ∷ after)) (whole v a b before inner after contour o))

  -- those after b to its right
  after-b : Each (Across b) after
  after-b = (last v a b before inner after contour o).0

  -- and all but the last ones to the left of b
  before-b : Each (λ x. x.0 < b.0) (a ∷ inner)
  before-b = each-map (λ x. Each (Across x) (b ∷ after)) (λ x. x.0 < b.0) (λ x y. y.0) (a ∷ inner) (rises-across Across (a ∷ inner) (b ∷ after) (second v a b before inner after contour o))

  end : Rises Across (v ∷ b ∷ after)
  end = ((o.between.1, farther v b after (omega (arith, o.between.1)) after-b), last v a b before inner after contour o)

  stays : Rises Across (contour_of before a (v ∷ []) b after)
  stays = rises-append Across before (a ∷ v ∷ b ∷ after) (rises-first Across before (a ∷ (inner ++ b ∷ after)) (whole v a b before inner after contour o))
      ((o.between.0, farther a v (b ∷ after) (omega (arith, o.between.0)) end.0), end)
      (each-map (λ x. x.0 < a.0) (λ x. Each (Across x) (a ∷ v ∷ b ∷ after)) (λ x y. (y, farther x a (v ∷ b ∷ after) (omega (arith, y)) (o.between.0, farther a v (b ∷ after) (omega (arith, o.between.0)) end.0))) before before-a)

  abbrev NewContour : List (ℕ × ℕ)
  NewContour = contour_of before a (v ∷ []) b after

  found-a : (P : ℕ × ℕ → Type 0) → P a → Found P NewContour
  found-a P p = found-second P before (a ∷ v ∷ b ∷ after) (inl p)

  found-b : (P : ℕ × ℕ → Type 0) → P b → Found P NewContour
  found-b P p = found-second P before (a ∷ v ∷ b ∷ after) (inr (inr (inl p)))

  right-of : (k : ℕ) (q : ℕ × ℕ) → Found (λ c. k * c.0 ≤ q.0) OldContour → Found (λ c. k * c.0 ≤ q.0) NewContour
  right-of k q s = go (found-parts P before (a ∷ (inner ++ b ∷ after)) s)
    where
      P : ℕ × ℕ → Type 0
      P c = k * c.0 ≤ q.0

      go : Found P before ⊎ Found P (a ∷ (inner ++ b ∷ after)) → Found P NewContour
      go (inl t) = found-first P before (a ∷ v ∷ b ∷ after) t
      go (inr (inl t)) = found-a P t
      go (inr (inr t)) = found-a P (found-each (Across a) P (P a) (λ x y z. omega (arith, z, mul-both k a.0 x.0 (omega (arith, y)))) (inner ++ b ∷ after) (second v a b before inner after contour o).0 t)

  left-of : (k : ℕ) (q : ℕ × ℕ) → Found (λ c. q.0 ≤ k * c.0) OldContour → Found (λ c. q.0 ≤ k * c.0) NewContour
  left-of k q s = go (found-parts P before (a ∷ (inner ++ b ∷ after)) s)
    where
      P : ℕ × ℕ → Type 0
      P c = q.0 ≤ k * c.0

      next : Found P (a ∷ inner) ⊎ Found P (b ∷ after) → Found P NewContour
      next (inl t) = found-b P (found-each (λ x. x.0 < b.0) P (P b) (λ x y z. omega (arith, z, mul-both k x.0 b.0 (omega (arith, y)))) (a ∷ inner) before-b t)
      next (inr t) = found-second P before (a ∷ v ∷ b ∷ after) (inr (inr t))

      go : Found P before ⊎ Found P (a ∷ (inner ++ b ∷ after)) → Found P NewContour
      go (inl t) = found-first P before (a ∷ v ∷ b ∷ after) t
      go (inr t) = next (found-parts P (a ∷ inner) (b ∷ after) t)

  old : (k : ℕ) (q : ℕ × ℕ) → 0 < k → IsUnder OldContour k q → IsUnder NewContour k q
  old k q p u = record {
    right = found-any (λ c. k * c.0 ≤ q.0) NewContour (right-of k q (any-found (λ c. k * c.0 ≤ q.0) OldContour u.right));
    left = found-any (λ c. q.0 ≤ k * c.0) NewContour (left-of k q (any-found (λ c. q.0 ≤ k * c.0) OldContour u.left));
    under = chain-join R before a (v ∷ b ∷ after) (chain-first R before a (inner ++ b ∷ after) u.under)
        (under-first v a b inner (part v a b before inner after contour o) o k q p inside, (under-second v a b inner (part v a b before inner after contour o) o k q p inside, chain-second R (a ∷ inner) b after (chain-second R before a (inner ++ b ∷ after) u.under)));
  }
    where
      R : ℕ × ℕ → ℕ × ℕ → Type 0
      R c d = IsBetween k c d q → is_over k c d q ≡ false

      inside : Successive R (stretch a inner b)
      inside = chain-part v a b before inner after contour o R u.under

  new : (f : List (ℕ × ℕ)) (w : ℕ × ℕ) (g : List (ℕ × ℕ)) → f ++ w ∷ g ≡ stretch a inner b → IsSegmentUnder NewContour v w
  new f w g e s t n = record {
    right = found-any (λ c. (s + t) * c.0 ≤ s * v.0 + t * w.0) NewContour (found-a (λ c. (s + t) * c.0 ≤ s * v.0 + t * w.0) (low-end v a b inner increasing o w s t (from-first v a b inner increasing o w first)));
    left = found-any (λ c. s * v.0 + t * w.0 ≤ (s + t) * c.0) NewContour (found-b (λ c. s * v.0 + t * w.0 ≤ (s + t) * c.0) (high-end v a b inner increasing o w s t (from-last v a b inner increasing o w final)));
    under = chain-join R before a (v ∷ b ∷ after) lefts ((λ m. not-over-first v w a s t first), ((λ m. not-over-second v w b s t final), rights));
  }
    where
      R : ℕ × ℕ → ℕ × ℕ → Type 0
      R c d = IsBetween (s + t) c d (weighted s v t w) → is_over (s + t) c d (weighted s v t w) ≡ false

      increasing : Rises Across (stretch a inner b)
      increasing = part v a b before inner after contour o

      first : After v a w
      first = pick v a b inner increasing o (After v a) f w g e (after-first v a b inner increasing o)

      final : Before v b w
      final = pick v a b inner increasing o (Before v b) f w g e (before-last v a b inner increasing o)

      lefts : Successive R (before ++ a ∷ [])
      lefts = chain-map (λ c d. (((c ≡ a) ⊎ (c.0 < a.0)) × ((d ≡ a) ⊎ (d.0 < a.0))) × Across c d) R (λ c d y m. not-over-left v w a c d s t n o.between.0 (from-first v a b inner increasing o w first) y.0.1 m) (before ++ a ∷ [])
          (chain-each (λ c. (c ≡ a) ⊎ (c.0 < a.0)) Across (before ++ a ∷ []) (each-append (λ c. (c ≡ a) ⊎ (c.0 < a.0)) before (a ∷ []) (each-map (λ c. c.0 < a.0) (λ c. (c ≡ a) ⊎ (c.0 < a.0)) (λ c y. inr y) before before-a) (inl refl, tt))
          (rises-chain Across (before ++ a ∷ []) (rises-short Across before a (inner ++ b ∷ after) (whole v a b before inner after contour o))))

      rights : Successive R (b ∷ after)
      rights = chain-map (λ c d. (((c ≡ b) ⊎ (b.0 < c.0)) × ((d ≡ b) ⊎ (b.0 < d.0))) × Across c d) R (λ c d y m. not-over-right v w b c d s t n o.between.1 (from-last v a b inner increasing o w final) y.0.0 m) (b ∷ after)
          (chain-each (λ c. (c ≡ b) ⊎ (b.0 < c.0)) Across (b ∷ after) (inl refl, each-map (Across b) (λ c. (c ≡ b) ⊎ (b.0 < c.0)) (λ c y. inr y) after after-b) (rises-chain Across (b ∷ after) (last v a b before inner after contour o)))

pub stays_contour : StaysContour
stays_contour v a b before inner after contour o = rises-pairs Across (contour_of before a (v ∷ []) b after) (stays v a b before inner after contour o)

pub old_stays_under : OldStaysUnder
old_stays_under v a b before inner after contour o k q p u = old v a b before inner after contour o k q p u

pub new_is_under : NewIsUnder
new_is_under v a b before inner after contour o = each-all (λ w. IsSegmentUnder (contour_of before a (v ∷ []) b after) v w) (stretch a inner b)
    (each-cut (λ w. IsSegmentUnder (contour_of before a (v ∷ []) b after) v w) (stretch a inner b) (new v a b before inner after contour o))
