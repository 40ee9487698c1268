-- The first contour, a triangle, and the last one, the two darts of the base.
use Rattle.std.proofs.Common.{◌≡◌, ◌≢◌, ◌⊎◌, ℕ, ◌*◌, ◌<◌, inl, inr, true, List, [], ◌∷◌, refl, sym, ap, ◌∙◌, subst}
use Rattle.std.proofs.lemmas.Bool.{both_ways, true≢false}
use Rattle.permutations.specs.Members.{is_member, is_distinct}
use Rattle.permutations.specs.Cyclic.{last_or}
use Rattle.permutations.specs.Exchange.{restricted}
use Rattle.permutations.proofs.Members.{member-head, member-tail, member-cases, distinct-head, distinct-tail, distinct-three}
use Rattle.dart_maps.specs.Map.{twin, face}
use Rattle.dart_maps.proofs.Darts.{twin-twin, twin-below}
use Rattle.faces.specs.Euler.{tail}
use Rattle.canonical_orders.specs.Contours.{stays_dart}
use Rattle.canonical_orders.specs.Laws.{TriangleIsContour, LastContourIsBase}
use Rattle.canonical_orders.proofs.Lists.{member-all}
use Rattle.canonical_orders.proofs.Walks.{restricted-step}
use Rattle.triangulations.proofs.SimpleMaps.{face-in, tail-face, no-loop}
use Rattle.canonical_orders.proofs.Triangles.{stays-both, stays-tail}
use Rattle.canonical_orders.proofs.ContourParts.{contour-dart, base-on, same-dart, contour-distinct, leads-to}

-- where all vertices stay, the contour is the triangle of the base
pub triangle-contour : TriangleIsContour
triangle-contour m h next previous base stays t l all = record {
  rest = c ∷ b ∷ [];
  begins = refl;
  closes = tail-face m h next previous t.map base l;
  darts = member-all (λ d. (d < 2 * m) × (stays_dart h stays d ≡ true)) (base ∷ c ∷ b ∷ []) inside;
  once = distinct-three (tail h base) (tail h c) (tail h b) first-third first-second third-second;
  along = (goes c base lc l (t.triangles base l), (goes b c lb lc refl, tt));
  around = restricted-step (2 * m) (stays_dart h stays) next previous t.map.drawn.map (twin base) b (twin-below m base l) (stay (twin base) (twin-below m base l)) (stay b lb) refl;
  faces = λ d k s n. stay (face next d) (face-in m h next previous t.map d k);
  inner = λ d k s n. stay d k;
}
  where
    b : ℕ
    b = face next base

    c : ℕ
    c = face next (face next base)

    lb : face next base < 2 * m
    lb = face-in m h next previous t.map base l

    lc : face next (face next base) < 2 * m
    lc = face-in m h next previous t.map b lb

    stay : (d : ℕ) → d < 2 * m → stays_dart h stays d ≡ true
    stay d k = stays-both h stays d (all d k) (all (twin d) (twin-below m d k))

    goes : (x y : ℕ) → x < 2 * m → y < 2 * m → face next x ≡ y → restricted (2 * m) (stays_dart h stays) next (twin x) ≡ y
    goes x y k j e = restricted-step (2 * m) (stays_dart h stays) next previous t.map.drawn.map (twin x) y (twin-below m x k) (stay (twin x) (twin-below m x k)) (stay y j) e

    third : tail h (twin c) ≡ tail h base
    third = sym (tail-face m h next previous t.map c lc) ∙ ap (tail h) (t.triangles base l)

    first-third : tail h base ≢ tail h c
    first-third e = no-loop m h next previous t.map c lc (sym e ∙ sym third)

    first-second : tail h base ≢ tail h b
    first-second e = no-loop m h next previous t.map base l (e ∙ tail-face m h next previous t.map base l)

    third-second : tail h c ≢ tail h b
    third-second e = no-loop m h next previous t.map b lb (sym e ∙ tail-face m h next previous t.map b lb)

    inside : (d : ℕ) → is_member d (base ∷ c ∷ b ∷ []) ≡ true → (d < 2 * m) × (stays_dart h stays d ≡ true)
    inside d i = elim (member-cases d base (c ∷ b ∷ []) i) [
      | inl e ↦ subst (λ (z : ℕ). (z < 2 * m) × (stays_dart h stays z ≡ true)) e (l, stay base l)
      | inr j ↦ elim (member-cases d c (b ∷ []) j) [
        | inl e ↦ subst (λ (z : ℕ). (z < 2 * m) × (stays_dart h stays z ≡ true)) e (lc, stay c lc)
        | inr k ↦ elim (member-cases d b [] k) [
          | inl e ↦ subst (λ (z : ℕ). (z < 2 * m) × (stays_dart h stays z ≡ true)) e (lb, stay b lb)
          | inr n ↦ absurd (true≢false (sym n))
        ]
      ]
    ]

-- where only the ends of the base stay, the contour is the base and its twin
pub last-contour : LastContourIsBase
last-contour m h next previous base stays contour t l c ends = at c.rest c.begins
  where
    ends-of : (d : ℕ) → is_member d contour ≡ true → (d ≡ base) ⊎ (tail h d ≡ tail h (twin base))
    ends-of d i = elim (ends (tail h d) (stays-tail h stays d (contour-dart m h next previous t base l stays contour c d i).1)) [
      | inl e ↦ inl (same-dart m h next previous t base l stays contour c d base i (base-on m h next previous t base l stays contour c) e)
      | inr e ↦ inr e
    ]

    apart : (s : List ℕ) → contour ≡ s → is_distinct s ≡ true
    apart s e = subst (λ (r : List ℕ). is_distinct r ≡ true) e (contour-distinct m h next previous t base l stays contour c)

    at : (s : List ℕ) → contour ≡ base ∷ s → contour ≡ base ∷ twin base ∷ []
    at [] e = absurd (no-loop m h next previous t.map base l (ap (λ (r : List ℕ). tail h (last_or base r)) (sym e) ∙ c.closes))
    at (z ∷ []) e = e ∙ ap (λ (u : ℕ). base ∷ u ∷ []) (t.map.simple z (twin base) (contour-dart m h next previous t base l stays contour c z on).0 (twin-below m base l)
        (ap (λ (r : List ℕ). tail h (last_or base r)) (sym e) ∙ c.closes) (leads-to m h next previous t base l stays contour c [] base (z ∷ []) e ∙ ap (tail h) (sym (twin-twin base))))
      where
        on : is_member z contour ≡ true
        on = ap (is_member z) e ∙ member-tail z base (z ∷ []) (member-head z [])
    at (z ∷ u ∷ s) e = absurd (elim (ends-of z on) [
      | inl q ↦ both_ways (is_member base (z ∷ u ∷ s)) (distinct-head base (z ∷ u ∷ s) (apart (base ∷ z ∷ u ∷ s) e)) (subst (λ (v : ℕ). is_member v (z ∷ u ∷ s) ≡ true) q (member-head z (u ∷ s)))
      | inr q ↦ elim (ends-of u next-on) [
        | inl p ↦ both_ways (is_member base (z ∷ u ∷ s)) (distinct-head base (z ∷ u ∷ s) (apart (base ∷ z ∷ u ∷ s) e)) (subst (λ (v : ℕ). is_member v (z ∷ u ∷ s) ≡ true) p (member-tail u z (u ∷ s) (member-head u s)))
        | inr p ↦ both_ways (is_member z (u ∷ s)) (distinct-head z (u ∷ s) (distinct-tail base (z ∷ u ∷ s) (apart (base ∷ z ∷ u ∷ s) e)))
            (subst (λ (v : ℕ). is_member v (u ∷ s) ≡ true) (same-dart m h next previous t base l stays contour c u z next-on on (p ∙ sym q)) (member-head u s))
      ]
    ])
      where
        on : is_member z contour ≡ true
        on = ap (is_member z) e ∙ member-tail z base (z ∷ u ∷ s) (member-head z (u ∷ s))

        next-on : is_member u contour ≡ true
        next-on = ap (is_member u) e ∙ member-tail u base (z ∷ u ∷ s) (member-tail u z (u ∷ s) (member-head u s))
