-- Two segments meet at most in common ends exactly where the test of their ends says so.
use Rattle.std.proofs.Common.{◌≡◌, ℕ, ◌⊎◌, inl, inr, ◌<◌, ◌+◌, ◌↔◌, true, false, not, arith, ap, ap₂, refl, sym, ◌∙◌, subst}
use Rattle.std.proofs.lemmas.Bool.{cases_eq, eq-eqb, ne_eqb, not-true, not_from_false, false≢true, true_from_ne_false, false_from_ne_true}
use Rattle.plane_points.specs.Segments.{weighted, times, DoMeet, are_apart, same_way}
use Rattle.plane_points.proofs.Segments.{meet-apart, near-meet}
use Rattle.plane_points.proofs.Rays.{rays-apart, rays-meet}
use Rattle.grid_drawing.specs.Tests.{is_clear}

-- a point of a segment from its other end on
pub other-way : (s t : ℕ) (p q : ℕ × ℕ) → weighted s p t q ≡ weighted t q s p
other-way s t p q = ap₂ (λ (x y : ℕ). (x, y)) (omega arith) (omega arith)

-- segments from z to p and from z to q with no other point in common
abbrev pub Fork : (z p q : ℕ × ℕ) → Type 0
Fork z p q = (s t u w : ℕ) → 0 < s + t → s + t ≡ u + w → weighted s z t p ≡ weighted u z w q → weighted s z t p ≡ times (s + t) z

pub fork-from : (z p q : ℕ × ℕ) → same_way z p q ≡ false → Fork z p q
fork-from z p q h = λ s t u w n e m. rays-apart z p q s t u w e m h

pub fork-to : (z p q : ℕ × ℕ) → (z ≡ p → ⊥) → (z ≡ q → ⊥) → Fork z p q → same_way z p q ≡ false
fork-to z p q n k f = false_from_ne_true (same_way z p q) (λ h. let m = rays-meet z p q n k h in m.7 (f m.0 m.1 m.2 m.3 m.4 m.5 m.6))

-- v is one of the ends
abbrev pub Ends : ℕ × ℕ → ℕ → Type 0
Ends e v = (e.0 ≡ v) ⊎ (e.1 ≡ v)

-- what is common to two segments is the point of a common end
abbrev pub Clear : (ℕ → ℕ × ℕ) → ℕ × ℕ → ℕ × ℕ → Type 0
Clear at e f = (s t u w : ℕ) → 0 < s + t → s + t ≡ u + w → weighted s (at e.0) t (at e.1) ≡ weighted u (at f.0) w (at f.1)
    → (v : ℕ) × Ends e v × Ends f v × (weighted s (at e.0) t (at e.1) ≡ times (s + t) (at v))

-- vertices of edges with different points
pub record AreSeparate (at : ℕ → ℕ × ℕ) (e f : ℕ × ℕ) : Type 0 where
  pub first : e.0 ≡ e.1 → ⊥
  pub second : f.0 ≡ f.1 → ⊥
  pub apart : (u v : ℕ) → Ends e u ⊎ Ends f u → Ends e v ⊎ Ends f v → at u ≡ at v → u ≡ v

-- parallel edges have all their points in common
never-parallel : (p q : ℕ × ℕ) → (p ≡ q → ⊥) → (weighted 1 p 1 q ≡ times 2 p) ⊎ (weighted 1 p 1 q ≡ times 2 q) → ⊥
never-parallel p q n (inl h) = n (ap₂ (λ (x y : ℕ). (x, y)) (omega (arith, ap (λ (v : ℕ × ℕ). v.0) h)) (omega (arith, ap (λ (v : ℕ × ℕ). v.1) h)))
never-parallel p q n (inr h) = n (ap₂ (λ (x y : ℕ). (x, y)) (omega (arith, ap (λ (v : ℕ × ℕ). v.0) h)) (omega (arith, ap (λ (v : ℕ × ℕ). v.1) h)))

-- edges from z to p and from z to q, p and q different
fork-clear : (at : ℕ → ℕ × ℕ) (z p q : ℕ) → Fork (at z) (at p) (at q) → Clear at (z, p) (z, q)
fork-clear at z p q f s t u w n e m = (z, inl refl, inl refl, f s t u w n e m)

clear-fork : (at : ℕ → ℕ × ℕ) (z p q : ℕ) → AreSeparate at (z, p) (z, q) → (p ≡ q → ⊥) → Clear at (z, p) (z, q) → Fork (at z) (at p) (at q)
clear-fork at z p q a n c s t u w k e m = go (c s t u w k e m)
  where
    go : (v : ℕ) × Ends (z, p) v × Ends (z, q) v × (weighted s (at z) t (at p) ≡ times (s + t) (at v)) → weighted s (at z) t (at p) ≡ times (s + t) (at z)
    go (v, inl x, y, h) = subst (λ (i : ℕ). weighted s (at z) t (at p) ≡ times (s + t) (at i)) (sym x) h
    go (v, inr x, inl y, h) = subst (λ (i : ℕ). weighted s (at z) t (at p) ≡ times (s + t) (at i)) (sym y) h
    go (v, inr x, inr y, h) = absurd (n (x ∙ sym y))

turn-first : (at : ℕ → ℕ × ℕ) (a b : ℕ) (f : ℕ × ℕ) → Clear at (b, a) f → Clear at (a, b) f
turn-first at a b f c s t u w n e m = let r = c t s u w (omega (arith, n)) (omega (arith, e)) (other-way t s (at b) (at a) ∙ m) in
    (r.0, swap r.1, r.2, other-way s t (at a) (at b) ∙ (r.3 ∙ ap (λ (k : ℕ). times k (at r.0)) (omega arith)))
  where
    swap : {v : ℕ} → Ends (b, a) v → Ends (a, b) v
    swap (inl x) = inr x
    swap (inr x) = inl x

turn-second : (at : ℕ → ℕ × ℕ) (e : ℕ × ℕ) (c d : ℕ) → Clear at e (d, c) → Clear at e (c, d)
turn-second at e c d k s t u w n i m = let r = k s t w u n (omega (arith, i)) (m ∙ other-way u w (at c) (at d)) in (r.0, r.1, swap r.2, r.3)
  where
    swap : {v : ℕ} → Ends (d, c) v → Ends (c, d) v
    swap (inl x) = inr x
    swap (inr x) = inl x

separate-first : (at : ℕ → ℕ × ℕ) (a b : ℕ) (f : ℕ × ℕ) → AreSeparate at (a, b) f → AreSeparate at (b, a) f
separate-first at a b f s = record { first = λ h. s.first (sym h); second = s.second; apart = λ u v x y. s.apart u v (swap x) (swap y) }
  where
    swap : {v : ℕ} → Ends (b, a) v ⊎ Ends f v → Ends (a, b) v ⊎ Ends f v
    swap (inl (inl x)) = inl (inr x)
    swap (inl (inr x)) = inl (inl x)
    swap (inr x) = inr x

separate-second : (at : ℕ → ℕ × ℕ) (e : ℕ × ℕ) (c d : ℕ) → AreSeparate at e (c, d) → AreSeparate at e (d, c)
separate-second at e c d s = record { first = s.first; second = λ h. s.second (sym h); apart = λ u v x y. s.apart u v (swap x) (swap y) }
  where
    swap : {v : ℕ} → Ends e v ⊎ Ends (d, c) v → Ends e v ⊎ Ends (c, d) v
    swap (inl x) = inl x
    swap (inr (inl x)) = inr (inr x)
    swap (inr (inr x)) = inr (inl x)

-- one common end
one-end : (at : ℕ → ℕ × ℕ) (z p q : ℕ) → AreSeparate at (z, p) (z, q) → (p ≡ q → ⊥) → (not (same_way (at z) (at p) (at q)) ≡ true) ↔ Clear at (z, p) (z, q)
one-end at z p q s n = (
  (λ h. fork-clear at z p q (fork-from (at z) (at p) (at q) (not-true (same_way (at z) (at p) (at q)) h))),
  (λ c. not_from_false (same_way (at z) (at p) (at q)) (fork-to (at z) (at p) (at q)
      (λ h. s.first (s.apart z p (inl (inl refl)) (inl (inr refl)) h)) (λ h. s.second (s.apart z q (inr (inl refl)) (inr (inr refl)) h)) (clear-fork at z p q s n c))),
)

-- two common ends
two-ends : (at : ℕ → ℕ × ℕ) (a b : ℕ) → AreSeparate at (a, b) (a, b) → Clear at (a, b) (a, b) → ⊥
two-ends at a b s c = go (c 1 1 1 1 (omega arith) refl refl)
  where
    differ : at a ≡ at b → ⊥
    differ h = s.first (s.apart a b (inl (inl refl)) (inl (inr refl)) h)

    go : (v : ℕ) × Ends (a, b) v × Ends (a, b) v × (weighted 1 (at a) 1 (at b) ≡ times 2 (at v)) → ⊥
    go (v, inl x, y, h) = never-parallel (at a) (at b) differ (inl (subst (λ (i : ℕ). weighted 1 (at a) 1 (at b) ≡ times 2 (at i)) (sym x) h))
    go (v, inr x, y, h) = never-parallel (at a) (at b) differ (inr (subst (λ (i : ℕ). weighted 1 (at a) 1 (at b) ≡ times 2 (at i)) (sym x) h))

-- no common end
no-end : (at : ℕ → ℕ × ℕ) (a b c d : ℕ) → (a ≡ c → ⊥) → (a ≡ d → ⊥) → (b ≡ c → ⊥) → (b ≡ d → ⊥) → (are_apart (at a) (at b) (at c) (at d) ≡ true) ↔ Clear at (a, b) (c, d)
no-end at a b c d n k i j = (
  (λ h s t u w p e m. absurd (meet-apart (at a) (at b) (at c) (at d) (record { s = s; t = t; u = u; w = w; some = p; same = e; there = m }) h)),
  (λ f. true_from_ne_false (are_apart (at a) (at b) (at c) (at d)) (λ h. none (near-meet (at a) (at b) (at c) (at d) h) f)),
)
  where
    none : DoMeet (at a) (at b) (at c) (at d) → Clear at (a, b) (c, d) → ⊥
    none m f = go (f m.s m.t m.u m.w m.some m.same m.there)
      where
        go : (v : ℕ) × Ends (a, b) v × Ends (c, d) v × (weighted m.s (at a) m.t (at b) ≡ times (m.s + m.t) (at v)) → ⊥
        go (v, inl x, inl y, h) = n (x ∙ sym y)
        go (v, inl x, inr y, h) = k (x ∙ sym y)
        go (v, inr x, inl y, h) = i (x ∙ sym y)
        go (v, inr x, inr y, h) = j (x ∙ sym y)

iff-trans : (P Q R : Type 0) → (P ↔ Q) → (Q ↔ R) → P ↔ R
iff-trans P Q R f g = ((λ p. g.0 (f.0 p)), (λ r. f.1 (g.1 r)))

pub clear-told : (at : ℕ → ℕ × ℕ) (a b c d : ℕ) → AreSeparate at (a, b) (c, d) → (is_clear at (a, b) (c, d) ≡ true) ↔ Clear at (a, b) (c, d)
clear-told at a b c d s = go (cases_eq a c) (cases_eq a d) (cases_eq b c) (cases_eq b d)
  where
    ac : a ≡ c → (b ≡ d) ⊎ (b ≡ d → ⊥) → (is_clear at (a, b) (c, d) ≡ true) ↔ Clear at (a, b) (c, d)
    ac h (inl k) = rw (eq-eqb a c h, eq-eqb b d k) ((λ x. absurd (false≢true x)), (λ f. absurd (two-ends at a b (subst (λ (i : ℕ). AreSeparate at (a, b) (i, b)) (sym h) (subst (λ (i : ℕ). AreSeparate at (a, b) (c, i)) (sym k) s)) (subst (λ (i : ℕ). Clear at (a, b) (i, b)) (sym h) (subst (λ (i : ℕ). Clear at (a, b) (c, i)) (sym k) f)))))
    ac h (inr k) = rw (eq-eqb a c h, ne_eqb b d k) (subst (λ (i : ℕ). (not (same_way (at a) (at b) (at d)) ≡ true) ↔ Clear at (a, b) (i, d)) h (one-end at a b d (subst (λ (i : ℕ). AreSeparate at (a, b) (i, d)) (sym h) s) k))

    ad : (a ≡ c → ⊥) → a ≡ d → (b ≡ c) ⊎ (b ≡ c → ⊥) → (is_clear at (a, b) (c, d) ≡ true) ↔ Clear at (a, b) (c, d)
    ad n h (inl k) = rw (ne_eqb a c n, eq-eqb a d h, eq-eqb b c k) (
      (λ x. absurd (false≢true x)),
      (λ f. absurd (two-ends at a b
          (subst (λ (i : ℕ). AreSeparate at (a, b) (i, b)) (sym h) (subst (λ (i : ℕ). AreSeparate at (a, b) (d, i)) (sym k) (separate-second at (a, b) c d s)))
          (subst (λ (i : ℕ). Clear at (a, b) (i, b)) (sym h) (subst (λ (i : ℕ). Clear at (a, b) (d, i)) (sym k) (turn-second at (a, b) d c f))))),
    )
    ad n h (inr k) = rw (ne_eqb a c n, eq-eqb a d h, ne_eqb b c k) (subst (λ (i : ℕ). (not (same_way (at a) (at b) (at c)) ≡ true) ↔ Clear at (a, b) (c, i)) h
        (iff-trans (not (same_way (at a) (at b) (at c)) ≡ true) (Clear at (a, b) (a, c)) (Clear at (a, b) (c, a)) (one-end at a b c (subst (λ (i : ℕ). AreSeparate at (a, b) (i, c)) (sym h) (separate-second at (a, b) c d s)) k) (turn-second at (a, b) c a, turn-second at (a, b) a c)))

    bc : (a ≡ c → ⊥) → (a ≡ d → ⊥) → b ≡ c → (is_clear at (a, b) (c, d) ≡ true) ↔ Clear at (a, b) (c, d)
    bc n k h = rw (ne_eqb a c n, ne_eqb a d k, eq-eqb b c h) (subst (λ (i : ℕ). (not (same_way (at b) (at a) (at d)) ≡ true) ↔ Clear at (a, b) (i, d)) h
        (iff-trans (not (same_way (at b) (at a) (at d)) ≡ true) (Clear at (b, a) (b, d)) (Clear at (a, b) (b, d)) (one-end at b a d (subst (λ (i : ℕ). AreSeparate at (b, a) (i, d)) (sym h) (separate-first at a b (c, d) s)) k) (turn-first at a b (b, d), turn-first at b a (b, d))))

    bd : (a ≡ c → ⊥) → (a ≡ d → ⊥) → (b ≡ c → ⊥) → b ≡ d → (is_clear at (a, b) (c, d) ≡ true) ↔ Clear at (a, b) (c, d)
    bd n k i h = rw (ne_eqb a c n, ne_eqb a d k, ne_eqb b c i, eq-eqb b d h) (subst (λ (j : ℕ). (not (same_way (at b) (at a) (at c)) ≡ true) ↔ Clear at (a, b) (c, j)) h
        (iff-trans (not (same_way (at b) (at a) (at c)) ≡ true) (Clear at (b, a) (b, c)) (Clear at (a, b) (c, b)) (one-end at b a c (subst (λ (j : ℕ). AreSeparate at (b, a) (j, c)) (sym h) (separate-second at (b, a) c d (separate-first at a b (c, d) s))) n)
        ((λ f. turn-second at (a, b) c b (turn-first at a b (b, c) f)), (λ f. turn-first at b a (b, c) (turn-second at (a, b) b c f)))))

    go : (a ≡ c) ⊎ (a ≡ c → ⊥) → (a ≡ d) ⊎ (a ≡ d → ⊥) → (b ≡ c) ⊎ (b ≡ c → ⊥) → (b ≡ d) ⊎ (b ≡ d → ⊥) → (is_clear at (a, b) (c, d) ≡ true) ↔ Clear at (a, b) (c, d)
    go (inl h) x y z = ac h z
    go (inr n) (inl h) y z = ad n h y
    go (inr n) (inr k) (inl h) z = bc n k h
    go (inr n) (inr k) (inr i) (inl h) = bd n k i h
    go (inr n) (inr k) (inr i) (inr j) = rw (ne_eqb a c n, ne_eqb a d k, ne_eqb b c i, ne_eqb b d j) (no-end at a b c d n k i j)
