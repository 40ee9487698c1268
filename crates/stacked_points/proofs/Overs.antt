-- Points over edges, k-fold: of a segment from v, and over a way to v.
use Rattle.std.proofs.Common.{◌≡◌, ℕ, ◌⊎◌, inl, inr, ◌<◌, ◌≤◌, ◌+◌, ◌*◌, false, arith, ap, sym, subst, ◌∙◌}
use Rattle.std.proofs.lemmas.Bool.{cases_lt}
use Rattle.std.proofs.lemmas.Nat.{mul-le}
use Rattle.std.proofs.Math.Nat.{mul-lt-mul_of_pos_left}
use Rattle.plane_points.specs.Segments.{weighted, times}
use Rattle.plane_points.proofs.Turns.{Left, left-false}
use Rattle.plane_points.proofs.Segments.{low, high}
use Rattle.stacked_points.specs.Contours.{IsBetween, is_over}
use Rattle.stacked_points.proofs.Thirds.{near-right, near-left, far-right, far-left}

-- c is w, or to the right of w and a turn to the left from it around v
abbrev pub After : ℕ × ℕ → ℕ × ℕ → ℕ × ℕ → Type 0
After v w c = (w ≡ c) ⊎ ((w.0 < c.0) × Left v w c)

-- c is w, or to the left of w and w a turn to the left from it
abbrev pub Before : ℕ × ℕ → ℕ × ℕ → ℕ × ℕ → Type 0
Before v w c = (w ≡ c) ⊎ ((c.0 < w.0) × Left v c w)

mul-lt : (k m n : ℕ) → 0 < k → m < n → k * m < k * n
mul-lt k m n p l = mul-lt-mul_of_pos_left {m = m} {n = n} {k = k} l p

pub mul-both : (k m n : ℕ) → m ≤ n → k * m ≤ k * n
mul-both k m n h = mul-le k m k n (omega arith) h

-- all k times
pub fold : (k : ℕ) (a b c : ℕ × ℕ) → 0 < k → Left a b c → Left (times k a) (times k b) (times k c)
fold k a b c p l = omega (arith, mul-lt k (k * low a b c) (k * high a b c) p (mul-lt k (low a b c) (high a b c) p l))

-- points of a segment from v to an end of an edge that v is over
at-left : (v a b : ℕ × ℕ) (s t : ℕ) → 0 < s → Left a b v → Left (times (s + t) a) (times (s + t) b) (weighted s v t a)
at-left v a b s t p l = omega (arith, mul-lt (s + t) (s * low a b v) (s * high a b v) (omega (arith, p)) (mul-lt s (low a b v) (high a b v) p l))

at-right : (v a b : ℕ × ℕ) (s t : ℕ) → 0 < s → Left a b v → Left (times (s + t) a) (times (s + t) b) (weighted s v t b)
at-right v a b s t p l = omega (arith, mul-lt (s + t) (s * low a b v) (s * high a b v) (omega (arith, p)) (mul-lt s (low a b v) (high a b v) p l))

-- a point of the segment from v to w makes no turn with them
on-line : (v w : ℕ × ℕ) (s t : ℕ) → low (times (s + t) w) (times (s + t) v) (weighted s v t w) ≡ high (times (s + t) w) (times (s + t) v) (weighted s v t w)
on-line v w s t = omega arith

-- a point of the segment from v to w, over an edge to the right of w
pub new-right : (v w a b : ℕ × ℕ) (s t : ℕ) → 0 < s → After v w a → a.0 < b.0 → Left a b v → IsBetween (s + t) a b (weighted s v t w) → Left (times (s + t) a) (times (s + t) b) (weighted s v t w)
new-right v w a b s t p (inl e) h l m = subst (λ (c : ℕ × ℕ). Left (times (s + t) a) (times (s + t) b) (weighted s v t c)) (sym e) (at-left v a b s t p l)
new-right v w a b s t p (inr y) h l m = far-right (times (s + t) w) (times (s + t) v) (times (s + t) a) (times (s + t) b) (weighted s v t w)
    wide (mul-lt (s + t) a.0 b.0 k h) (fold (s + t) v w a k y.1) (fold (s + t) a b v k l) (omega (arith, on-line v w s t)) m.0 (elim (cases_lt v.0 w.0) [
      | inl x ↦ absurd (omega (arith, wide, m.0, mul-both s v.0 w.0 (omega (arith, x))))
      | inr x ↦ omega (arith, mul-both t w.0 v.0 x)
    ])
  where
    k : 0 < s + t
    k = omega (arith, p)

    wide : (s + t) * w.0 < (s + t) * a.0
    wide = mul-lt (s + t) w.0 a.0 k y.0

-- over one to the left of w
pub new-left : (v w a b : ℕ × ℕ) (s t : ℕ) → 0 < s → Before v w b → a.0 < b.0 → Left a b v → IsBetween (s + t) a b (weighted s v t w) → Left (times (s + t) a) (times (s + t) b) (weighted s v t w)
new-left v w a b s t p (inl e) h l m = subst (λ (c : ℕ × ℕ). Left (times (s + t) a) (times (s + t) b) (weighted s v t c)) (sym e) (at-right v a b s t p l)
new-left v w a b s t p (inr y) h l m = far-left (times (s + t) w) (times (s + t) v) (times (s + t) a) (times (s + t) b) (weighted s v t w)
    wide (mul-lt (s + t) a.0 b.0 k h) (fold (s + t) v b w k y.1) (fold (s + t) a b v k l) (omega (arith, on-line v w s t)) (elim (cases_lt w.0 v.0) [
      | inl x ↦ absurd (omega (arith, wide, m.1, mul-both s w.0 v.0 (omega (arith, x))))
      | inr x ↦ omega (arith, mul-both t v.0 w.0 x)
    ]) m.1
  where
    k : 0 < s + t
    k = omega (arith, p)

    wide : (s + t) * b.0 < (s + t) * w.0
    wide = mul-lt (s + t) b.0 w.0 k y.0

-- what is over the way from the left end to v is over the edges to its right
pub old-right : (v w a b : ℕ × ℕ) (k : ℕ) (q : ℕ × ℕ) → 0 < k → w.0 < v.0 → q.0 ≤ k * v.0 → Left (times k w) (times k v) q → After v w a → a.0 < b.0 → Left a b v → IsBetween k a b q → Left (times k a) (times k b) q
old-right v w a b k q p i j o (inl e) h l m = near-right (times k v) (times k a) (times k b) q (mul-lt k a.0 b.0 p h) (mul-lt k a.0 v.0 p (subst (λ (c : ℕ × ℕ). c.0 < v.0) e i)) m.0 (fold k a b v p l) (subst (λ (c : ℕ × ℕ). Left (times k c) (times k v) q) e o)
old-right v w a b k q p i j o (inr y) h l m = far-right (times k w) (times k v) (times k a) (times k b) q (mul-lt k w.0 a.0 p y.0) (mul-lt k a.0 b.0 p h) (fold k v w a p y.1) (fold k a b v p l) (omega (arith, o)) m.0 j

-- over the way from v to the right end
pub old-left : (v w a b : ℕ × ℕ) (k : ℕ) (q : ℕ × ℕ) → 0 < k → v.0 < w.0 → k * v.0 ≤ q.0 → Left (times k v) (times k w) q → Before v w b → a.0 < b.0 → Left a b v → IsBetween k a b q → Left (times k a) (times k b) q
old-left v w a b k q p i j o (inl e) h l m = near-left (times k v) (times k a) (times k b) q (mul-lt k a.0 b.0 p h) (mul-lt k v.0 b.0 p (subst (λ (c : ℕ × ℕ). v.0 < c.0) e i)) m.1 (fold k a b v p l) (subst (λ (c : ℕ × ℕ). Left (times k v) (times k c) q) e o)
old-left v w a b k q p i j o (inr y) h l m = far-left (times k w) (times k v) (times k a) (times k b) q (mul-lt k b.0 w.0 p y.0) (mul-lt k a.0 b.0 p h) (fold k v b w p y.1) (fold k a b v p l) (omega (arith, o)) j m.1

-- a point of the segment from v to w is not over the new edges to the ends of the stretch
pub not-over-first : (v w l : ℕ × ℕ) (s t : ℕ) → After v l w → is_over (s + t) l v (weighted s v t w) ≡ false
not-over-first v w l s t (inl e) = left-false (times (s + t) l) (times (s + t) v) (weighted s v t w) (λ o. omega (arith, on-line v l s t, subst (λ (c : ℕ × ℕ). Left (times (s + t) l) (times (s + t) v) (weighted s v t c)) (sym e) o))
not-over-first v w l s t (inr y) = left-false (times (s + t) l) (times (s + t) v) (weighted s v t w) (λ o. omega (arith, o, mul-both ((s + t) * t) (low v l w) (high v l w) (omega (arith, y.1))))

pub not-over-second : (v w r : ℕ × ℕ) (s t : ℕ) → Before v r w → is_over (s + t) v r (weighted s v t w) ≡ false
not-over-second v w r s t (inl e) = left-false (times (s + t) v) (times (s + t) r) (weighted s v t w) (λ o. omega (arith, on-line v r s t, subst (λ (c : ℕ × ℕ). Left (times (s + t) v) (times (s + t) r) (weighted s v t c)) (sym e) o))
not-over-second v w r s t (inr y) = left-false (times (s + t) v) (times (s + t) r) (weighted s v t w) (λ o. omega (arith, o, mul-both ((s + t) * t) (low v w r) (high v w r) (omega (arith, y.1))))

-- nor, at an end of an edge, over it
at-second : (v a b : ℕ × ℕ) (s t : ℕ) → s ≡ 0 → Left (times (s + t) a) (times (s + t) b) (weighted s v t b) → ⊥
at-second v a b s t e o = flat (subst (λ (n : ℕ). Left (times (n + t) a) (times (n + t) b) (weighted n v t b)) e o)
  where
    flat : Left (times (0 + t) a) (times (0 + t) b) (weighted 0 v t b) → ⊥
    flat o = omega (arith, o)

at-first : (v a b : ℕ × ℕ) (s t : ℕ) → s ≡ 0 → Left (times (s + t) a) (times (s + t) b) (weighted s v t a) → ⊥
at-first v a b s t e o = flat (subst (λ (n : ℕ). Left (times (n + t) a) (times (n + t) b) (weighted n v t a)) e o)
  where
    flat : Left (times (0 + t) a) (times (0 + t) b) (weighted 0 v t a) → ⊥
    flat o = omega (arith, o)

-- nor over the edges to the left and to the right of the stretch
pub not-over-left : (v w l a b : ℕ × ℕ) (s t : ℕ) → 0 < s + t → l.0 < v.0 → (l ≡ w) ⊎ (l.0 < w.0) → (b ≡ l) ⊎ (b.0 < l.0) → IsBetween (s + t) a b (weighted s v t w) → is_over (s + t) a b (weighted s v t w) ≡ false
not-over-left v w l a b s t n i j h m = left-false (times (s + t) a) (times (s + t) b) (weighted s v t w) (go j h)
  where
    first : s * l.0 + s ≤ s * v.0
    first = omega (arith, mul-both s (l.0 + 1) v.0 (omega (arith, i)))

    go : (l ≡ w) ⊎ (l.0 < w.0) → (b ≡ l) ⊎ (b.0 < l.0) → Left (times (s + t) a) (times (s + t) b) (weighted s v t w) → ⊥
    go (inl e) (inr y) o = omega (arith, first, m.1, n, mul-both (s + t) (b.0 + 1) l.0 (omega (arith, y)), ap (λ (c : ℕ × ℕ). t * c.0) e)
    go (inr x) (inr y) o = omega (arith, first, m.1, n, mul-both (s + t) (b.0 + 1) l.0 (omega (arith, y)), mul-both t l.0 w.0 (omega (arith, x)))
    go (inr x) (inl f) o = omega (arith, first, m.1, n, ap (λ (c : ℕ × ℕ). (s + t) * c.0) f, mul-both t (l.0 + 1) w.0 (omega (arith, x)))
    go (inl e) (inl f) o = at-second v a b s t (omega (arith, first, m.1, n, ap (λ (c : ℕ × ℕ). (s + t) * c.0) f, ap (λ (c : ℕ × ℕ). t * c.0) e)) (subst (λ (c : ℕ × ℕ). Left (times (s + t) a) (times (s + t) b) (weighted s v t c)) (sym e ∙ sym f) o)

pub not-over-right : (v w r a b : ℕ × ℕ) (s t : ℕ) → 0 < s + t → v.0 < r.0 → (r ≡ w) ⊎ (w.0 < r.0) → (a ≡ r) ⊎ (r.0 < a.0) → IsBetween (s + t) a b (weighted s v t w) → is_over (s + t) a b (weighted s v t w) ≡ false
not-over-right v w r a b s t n i j h m = left-false (times (s + t) a) (times (s + t) b) (weighted s v t w) (go j h)
  where
    first : s * v.0 + s ≤ s * r.0
    first = omega (arith, mul-both s (v.0 + 1) r.0 (omega (arith, i)))

    go : (r ≡ w) ⊎ (w.0 < r.0) → (a ≡ r) ⊎ (r.0 < a.0) → Left (times (s + t) a) (times (s + t) b) (weighted s v t w) → ⊥
    go (inl e) (inr y) o = omega (arith, first, m.0, n, mul-both (s + t) (r.0 + 1) a.0 (omega (arith, y)), ap (λ (c : ℕ × ℕ). t * c.0) e)
    go (inr x) (inr y) o = omega (arith, first, m.0, n, mul-both (s + t) (r.0 + 1) a.0 (omega (arith, y)), mul-both t w.0 r.0 (omega (arith, x)))
    go (inr x) (inl f) o = omega (arith, first, m.0, n, ap (λ (c : ℕ × ℕ). (s + t) * c.0) f, mul-both t (w.0 + 1) r.0 (omega (arith, x)))
    go (inl e) (inl f) o = at-first v a b s t (omega (arith, first, m.0, n, ap (λ (c : ℕ × ℕ). (s + t) * c.0) f, ap (λ (c : ℕ × ℕ). t * c.0) e)) (subst (λ (c : ℕ × ℕ). Left (times (s + t) a) (times (s + t) b) (weighted s v t c)) (sym e ∙ sym f) o)
