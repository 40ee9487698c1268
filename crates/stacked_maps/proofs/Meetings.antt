-- Where segments meet: symmetries, and no dart goes through the point of a third vertex.
use Rattle.std.proofs.Common.{◌≡◌, ℕ, ◌+◌, ◌*◌, ◌<◌, inl, inr, Bool, true, List, arith, sym, ap, ap₂, ◌∙◌, subst}
use Rattle.std.proofs.lemmas.Bool.{cases_eq}
use Rattle.std.proofs.Math.Nat.{eq_of_mul-eq-mul_left}
use Rattle.dart_maps.specs.Map.{twin}
use Rattle.dart_maps.proofs.Darts.{twin-twin}
use Rattle.multigraph.specs.Graph.{Multigraph}
use Rattle.faces.specs.Euler.{tail}
use Rattle.plane_points.specs.Segments.{weighted, times}
use Rattle.stacked_points.specs.Contours.{IsUnder, IsSegmentUnder}
use Rattle.canonical_orders.specs.Contours.{stays_dart}
use Rattle.stacked_maps.specs.Drawn.{start_of, end_of, IsEndOf, MeetAtEnds, IsDrawnUnder}
use Rattle.stacked_maps.proofs.Darts.{stays-parts}

-- a segment from its other end
pub swap : (s : ℕ) (p : ℕ × ℕ) (t : ℕ) (q : ℕ × ℕ) → weighted s p t q ≡ weighted t q s p
swap s p t q = ap₂ (λ (x y : ℕ). (x, y)) (omega arith) (omega arith)

pub segment-swap : (l : List (ℕ × ℕ)) (a b : ℕ × ℕ) → IsSegmentUnder l a b → IsSegmentUnder l b a
segment-swap l a b u s t n = subst (λ (k : ℕ). IsUnder l k (weighted s b t a)) same (subst (IsUnder l (t + s)) (swap t a s b) (u t s (omega (arith, n))))
  where
    same : t + s ≡ s + t
    same = omega arith

-- its ends
pub all-first : (k : ℕ) (p q : ℕ × ℕ) → weighted k p 0 q ≡ times k p
all-first k p q = ap₂ (λ (x y : ℕ). (x, y)) (omega arith) (omega arith)

pub once : (p : ℕ × ℕ) → times 1 p ≡ p
once p = ap₂ (λ (x y : ℕ). (x, y)) (omega arith) (omega arith)

pub times-same : (k : ℕ) (p q : ℕ × ℕ) → 0 < k → times k p ≡ times k q → p ≡ q
times-same k p q l e = ap₂ (λ (x y : ℕ). (x, y)) (eq_of_mul-eq-mul_left k l p.0 q.0 (ap (λ (z : ℕ × ℕ). z.0) e)) (eq_of_mul-eq-mul_left k l p.1 q.1 (ap (λ (z : ℕ × ℕ). z.1) e))

-- darts and their twins have the same ends
pub end-twin : (h : Multigraph) (d v : ℕ) → IsEndOf h (twin d) v → IsEndOf h d v
end-twin h d v (inl e) = inr e
end-twin h d v (inr e) = inl (e ∙ ap (tail h) (twin-twin d))

pub meet-sym : (h : Multigraph) (at : ℕ → ℕ × ℕ) (c d : ℕ) → MeetAtEnds h at c d → MeetAtEnds h at d c
meet-sym h at c d f s t u w n e same =
    let r : (v : ℕ) × IsEndOf h c v × IsEndOf h d v × (weighted u (start_of h at c) w (end_of h at c) ≡ times (u + w) (at v)) = f u w s t (omega (arith, n, e)) (sym e) (sym same) in
    (r.0, r.2, r.1, same ∙ r.3 ∙ ap (λ (k : ℕ). times k (at r.0)) (sym e))

pub meet-twin : (h : Multigraph) (at : ℕ → ℕ × ℕ) (c d : ℕ) → MeetAtEnds h at (twin c) d → MeetAtEnds h at c d
meet-twin h at c d f s t u w n e same =
    let r : (v : ℕ) × IsEndOf h (twin c) v × IsEndOf h d v × (weighted t (start_of h at (twin c)) s (end_of h at (twin c)) ≡ times (t + s) (at v)) = f t s u w (omega (arith, n)) (omega (arith, e)) (turned ∙ same) in
    (r.0, end-twin h c r.0 r.1, r.2, sym turned ∙ r.3 ∙ ap (λ (k : ℕ). times k (at r.0)) sums)
  where
    turned : weighted t (start_of h at (twin c)) s (end_of h at (twin c)) ≡ weighted s (start_of h at c) t (end_of h at c)
    turned = ap (λ (z : ℕ). weighted t (end_of h at c) s (start_of h at z)) (twin-twin c) ∙ swap t (end_of h at c) s (start_of h at c)

    sums : t + s ≡ s + t
    sums = omega arith

pub meet-twin_second : (h : Multigraph) (at : ℕ → ℕ × ℕ) (c d : ℕ) → MeetAtEnds h at c (twin d) → MeetAtEnds h at c d
meet-twin_second h at c d f = meet-sym h at d c (meet-twin h at d c (meet-sym h at c (twin d) f))

-- a dart that goes through the point of a vertex with a dart has an end there
pub passes : (m : ℕ) (h : Multigraph) (next : ℕ → ℕ) (base : ℕ) (stays : ℕ → Bool) (contour : List ℕ) (at : ℕ → ℕ × ℕ) → IsDrawnUnder m h next base stays contour at
    → (c d : ℕ) → c < 2 * m → d < 2 * m → stays_dart h stays c ≡ true → stays_dart h stays d ≡ true
    → (k u w : ℕ) → 0 < k → k ≡ u + w → times k (start_of h at c) ≡ weighted u (start_of h at d) w (end_of h at d) → IsEndOf h d (tail h c)
passes m h next base stays contour at o c d l n i j k u w pos e same = elim (cases_eq c d) [
  | inl q ↦ inl (ap (tail h) q)
  | inr a ↦ elim (cases_eq c (twin d)) [
    | inl q ↦ inr (ap (tail h) q)
    | inr b ↦ other (o.meet c d l n i j a b k 0 u w (omega (arith, pos)) (omega (arith, e)) (all-first k (start_of h at c) (end_of h at c) ∙ same))
  ]
]
  where
    other : (v : ℕ) × IsEndOf h c v × IsEndOf h d v × (weighted k (start_of h at c) 0 (end_of h at c) ≡ times (k + 0) (at v)) → IsEndOf h d (tail h c)
    other (v, p, q, f) = subst (IsEndOf h d) (sym (o.apart (tail h c) v (stays-parts h stays c i).0 (there q)
        (times-same k (start_of h at c) (at v) pos (sym (all-first k (start_of h at c) (end_of h at c)) ∙ f ∙ ap (λ (z : ℕ). times z (at v)) none)))) q
      where
        none : k + 0 ≡ k
        none = omega arith

        there : IsEndOf h d v → stays v ≡ true
        there (inl e) = ap stays e ∙ (stays-parts h stays d j).0
        there (inr e) = ap stays e ∙ (stays-parts h stays d j).1
