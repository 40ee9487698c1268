-- The base alone is drawn under its contour.
use Rattle.std.proofs.Common.{◌≡◌, ◌≢◌, ℕ, ◌+◌, ◌*◌, ◌<◌, ◌≤◌, ◌⊎◌, inl, inr, Bool, true, ◌||◌, ◌==◌, List, [], ◌∷◌, map, arith, sym, ap, ◌∙◌, subst}
use Rattle.std.proofs.lemmas.Bool.{true≢false, both_ways, or_cases, eqb-true}
use Rattle.permutations.specs.Members.{is_member, is_distinct}
use Rattle.permutations.proofs.Members.{member-head, member-tail, member-cases, distinct-head}
use Rattle.dart_maps.specs.Map.{twin}
use Rattle.dart_maps.proofs.Darts.{twin-twin, twin-below}
use Rattle.multigraph.specs.Graph.{Multigraph}
use Rattle.faces.specs.Euler.{tail}
use Rattle.plane_points.specs.Turning.{IsCounterclockwise}
use Rattle.plane_points.specs.Segments.{weighted, times}
use Rattle.plane_points.proofs.Turns.{left-false}
use Rattle.plane_points.proofs.Rising.{rises-pairs}
use Rattle.stacked_points.specs.Contours as points
use Rattle.stacked_points.proofs.Chains.{found-any}
use Rattle.stacked_points.proofs.Overs.{mul-both}
use Rattle.stacked_points.proofs.Stacking.{Across}
use Rattle.triangulations.specs.Triangulation.{IsTriangulated}
use Rattle.canonical_orders.specs.Contours.{stays_dart, darts_around}
use Rattle.stacked_maps.specs.Drawn.{start_of, end_of, IsDrawnUnder}
use Rattle.stacked_maps.specs.Laws.{BaseIsDrawn}
use Rattle.stacked_maps.proofs.Lists.{counter-one}
use Rattle.stacked_maps.proofs.Darts.{stays-parts, no-loop, same-dart, around-first, around-member, around-distinct}
use Rattle.stacked_maps.proofs.Meetings.{all-first, once, segment-swap}

-- a segment to the right is under the contour that it is
segment-itself : (p q : ℕ × ℕ) → p.0 < q.0 → points.IsSegmentUnder (p ∷ q ∷ []) p q
segment-itself p q l s t n = record {
  right = found-any (λ a. (s + t) * a.0 ≤ s * p.0 + t * q.0) (p ∷ q ∷ []) (inl (omega (arith, mul-both t p.0 q.0 (omega (arith, l)))));
  left = found-any (λ a. s * p.0 + t * q.0 ≤ (s + t) * a.0) (p ∷ q ∷ []) (inr (inl (omega (arith, mul-both s p.0 q.0 (omega (arith, l))))));
  under = ((λ _. left-false (times (s + t) p) (times (s + t) q) (weighted s p t q) (λ k. omega (arith, k))), tt);
}

module _ (m : ℕ) (h : Multigraph) (next previous : ℕ → ℕ) (base : ℕ) (stays : ℕ → Bool) (at : ℕ → ℕ × ℕ) (t : IsTriangulated m h next previous) (l : base < 2 * m)
    (s : (v : ℕ) → stays v ≡ ((v == tail h base) || (v == tail h (twin base)))) (right : (start_of h at base).0 < (end_of h at base).0) (level : (start_of h at base).1 ≡ (end_of h at base).1) where
  abbrev P : ℕ → ℕ × ℕ
  P = start_of h at

  abbrev E : ℕ → ℕ × ℕ
  E = end_of h at

  abbrev contour : List ℕ
  contour = base ∷ twin base ∷ []

  of-two : (v : ℕ) → stays v ≡ true → (v ≡ tail h base) ⊎ (v ≡ tail h (twin base))
  of-two v k = elim (or_cases (v == tail h base) (v == tail h (twin base)) (sym (s v) ∙ k)) [
    | inl e ↦ inl (eqb-true v (tail h base) e)
    | inr e ↦ inr (eqb-true v (tail h (twin base)) e)
  ]

  -- only the darts of the base stay
  of-base : (d : ℕ) → d < 2 * m → stays_dart h stays d ≡ true → (d ≡ base) ⊎ (d ≡ twin base)
  of-base d k j = go (of-two (tail h d) (stays-parts h stays d j).0) (of-two (tail h (twin d)) (stays-parts h stays d j).1)
    where
      go : (tail h d ≡ tail h base) ⊎ (tail h d ≡ tail h (twin base)) → (tail h (twin d) ≡ tail h base) ⊎ (tail h (twin d) ≡ tail h (twin base)) → (d ≡ base) ⊎ (d ≡ twin base)
      go (inl e) (inr f) = inl (same-dart m h next previous t d base k l e f)
      go (inr e) (inl f) = inr (same-dart m h next previous t d (twin base) k (twin-below m base l) e (f ∙ ap (tail h) (sym (twin-twin base))))
      go (inl e) (inl f) = absurd (no-loop m h next previous t d k (e ∙ sym f))
      go (inr e) (inr f) = absurd (no-loop m h next previous t d k (e ∙ sym f))

  itself : points.IsSegmentUnder (P base ∷ P (twin base) ∷ []) (P base) (P (twin base))
  itself = segment-itself (P base) (P (twin base)) right

  first-under : points.IsUnder (P base ∷ P (twin base) ∷ []) 1 (P base)
  first-under = subst (points.IsUnder (P base ∷ P (twin base) ∷ []) 1) (all-first 1 (P base) (P (twin base)) ∙ once (P base)) (itself 1 0 (omega arith))

  second-under : points.IsUnder (P base ∷ P (twin base) ∷ []) 1 (P (twin base))
  second-under = subst (points.IsUnder (P base ∷ P (twin base) ∷ []) 1) (all-first 1 (P (twin base)) (P base) ∙ once (P (twin base))) (segment-swap (P base ∷ P (twin base) ∷ []) (P base) (P (twin base)) itself 1 0 (omega arith))

  -- around an end there is the dart of the base
  lone : (d : ℕ) → d < 2 * m → stays_dart h stays d ≡ true → IsCounterclockwise (P d) (map E (darts_around m h next stays d))
  lone d k j = go (around-first m h next previous t stays d k j)
    where
      only : (x : ℕ) → is_member x (darts_around m h next stays d) ≡ true → x ≡ d
      only x n = same (of-base x p.0 p.2) (of-base d k j)
        where
          p : (x < 2 * m) × (tail h d ≡ tail h x) × (stays_dart h stays x ≡ true)
          p = around-member m h next previous t stays d x k n

          same : (x ≡ base) ⊎ (x ≡ twin base) → (d ≡ base) ⊎ (d ≡ twin base) → x ≡ d
          same (inl e) (inl f) = e ∙ sym f
          same (inr e) (inr f) = e ∙ sym f
          same (inl e) (inr f) = absurd (no-loop m h next previous t base l (ap (tail h) (sym e) ∙ sym p.1 ∙ ap (tail h) f))
          same (inr e) (inl f) = absurd (no-loop m h next previous t base l (ap (tail h) (sym f) ∙ p.1 ∙ ap (tail h) e))

      go : (r : List ℕ) × (darts_around m h next stays d ≡ d ∷ r) → IsCounterclockwise (P d) (map E (darts_around m h next stays d))
      go ([], e) = subst (λ (z : List ℕ). IsCounterclockwise (P d) (map E z)) (sym e) (counter-one (P d) (E d))
      go (x ∷ r, e) = absurd (both_ways (is_member d (x ∷ r)) (distinct-head d (x ∷ r) (subst (λ (z : List ℕ). is_distinct z ≡ true) e (around-distinct m h next previous t stays d k)))
          (subst (λ (z : ℕ). is_member z (x ∷ r) ≡ true) (only x (ap (is_member x) e ∙ member-tail x d (x ∷ r) (member-head x r))) (member-head x r)))

  base-alone : IsDrawnUnder m h next base stays contour at
  base-alone = record {
    goes_right = rises-pairs Across (P base ∷ P (twin base) ∷ []) ((right, tt), (tt, tt));
    level = level;
    higher = λ d n a b. absurd (elim (member-cases d base (twin base ∷ []) n) [
      | inl e ↦ a (ap (tail h) (sym e))
      | inr k ↦ elim (member-cases d (twin base) [] k) [ inl e ↦ b (ap (tail h) (sym e)) | inr q ↦ true≢false (sym q) ]
    ]);
    inside = λ v k. elim (of-two v k) [
      | inl e ↦ subst (λ (u : ℕ). points.IsUnder (P base ∷ P (twin base) ∷ []) 1 (at u)) (sym e) first-under
      | inr e ↦ subst (λ (u : ℕ). points.IsUnder (P base ∷ P (twin base) ∷ []) 1 (at u)) (sym e) second-under
    ];
    under = λ d k j. elim (of-base d k j) [
      | inl e ↦ subst (λ (z : ℕ). points.IsSegmentUnder (P base ∷ P (twin base) ∷ []) (P z) (E z)) (sym e) itself
      | inr e ↦ subst (λ (z : ℕ). points.IsSegmentUnder (P base ∷ P (twin base) ∷ []) (P z) (E z)) (sym e)
          (subst (λ (z : ℕ). points.IsSegmentUnder (P base ∷ P (twin base) ∷ []) (E base) (P z)) (sym (twin-twin base)) (segment-swap (P base ∷ P (twin base) ∷ []) (P base) (P (twin base)) itself))
    ];
    apart = λ u v j k e. apart u v e (of-two u j) (of-two v k);
    meet = λ c d i j k n a b. absurd (none c d a b (of-base c i k) (of-base d j n));
    around = lone;
  }
    where
      apart : (u v : ℕ) → at u ≡ at v → (u ≡ tail h base) ⊎ (u ≡ tail h (twin base)) → (v ≡ tail h base) ⊎ (v ≡ tail h (twin base)) → u ≡ v
      apart u v e (inl f) (inl g) = f ∙ sym g
      apart u v e (inr f) (inr g) = f ∙ sym g
      apart u v e (inl f) (inr g) = absurd (omega (arith, right, ap (λ (z : ℕ × ℕ). z.0) (ap at (sym f) ∙ e ∙ ap at g)))
      apart u v e (inr f) (inl g) = absurd (omega (arith, right, ap (λ (z : ℕ × ℕ). z.0) (ap at (sym g) ∙ sym e ∙ ap at f)))

      none : (c d : ℕ) → c ≢ d → c ≢ twin d → (c ≡ base) ⊎ (c ≡ twin base) → (d ≡ base) ⊎ (d ≡ twin base) → ⊥
      none c d a b (inl e) (inl f) = a (e ∙ sym f)
      none c d a b (inr e) (inr f) = a (e ∙ sym f)
      none c d a b (inl e) (inr f) = b (e ∙ sym (twin-twin base) ∙ ap twin (sym f))
      none c d a b (inr e) (inl f) = b (e ∙ ap twin (sym f))

pub base_is_drawn : BaseIsDrawn
base_is_drawn m h next previous base stays at t l s right level = base-alone m h next previous base stays at t l s right level
