-- What stacking a removed vertex back on the contour does to the darts that stay.
use Rattle.std.proofs.Common.{◌≡◌, ℕ, ◌*◌, ◌<◌, inl, inr, Bool, true, false, ◌&&◌, ◌||◌, ◌==◌, List, [], ◌∷◌, ◌++◌, map, filter, refl, sym, ap, ◌∙◌, subst, arith, append-nil}
use Rattle.std.proofs.lemmas.Bool.{both_ways, cases_Bool, false_from_ne_true}
use Rattle.std.proofs.lemmas.List.Elements.{filter-append}
use Rattle.permutations.specs.Members.{is_member, is_distinct}
use Rattle.permutations.specs.Exchange.{restricted}
use Rattle.permutations.specs.Ring.{ring}
use Rattle.permutations.proofs.Members.{member-head, member-cases, member-append_left, member-append_right, distinct-append_apart}
use Rattle.permutations.proofs.Mapped.{member-map}
use Rattle.permutations.proofs.Filter.{filter-no, filter-all, filter-ext, filter-filter, distinct-filter, member-filter_parts}
use Rattle.permutations.proofs.Rings.{ring-member, ring-below, ring-distinct}
use Rattle.dart_maps.specs.Map.{twin, face}
use Rattle.dart_maps.proofs.Darts.{twin-twin, twin-below}
use Rattle.multigraph.specs.Graph.{Multigraph}
use Rattle.faces.specs.Euler.{tail}
use Rattle.triangulations.specs.Triangulation.{IsTriangulated}
use Rattle.canonical_orders.specs.Contours.{stays_dart, darts_around, IsContour, IsRemoval}
use Rattle.canonical_orders.specs.Laws.{RemovalIsStacked}
use Rattle.canonical_orders.proofs.Lists.{member-all}
use Rattle.canonical_orders.proofs.Walks.{restricted-step, passing-last}
use Rattle.triangulations.proofs.SimpleMaps.{one-tail}
use Rattle.canonical_orders.proofs.Triangles.{stays-tail, stays-twin}
use Rattle.canonical_orders.proofs.ContourParts.{contour-dart, same-dart}
use Rattle.canonical_orders.proofs.Arms.{not-removed, darts-before, darts-after, gone-to, dart-left, lefts, x-leads, left-follows, arm-leaves, new-leaves, heads-distinct, arm-stays, own-arms, is-head}

module _ (m : ℕ) (h : Multigraph) (next previous : ℕ → ℕ) (base : ℕ) (before after : ℕ → Bool) (contour later : List ℕ) (w : ℕ) (heads : List ℕ) (t : IsTriangulated m h next previous) (l : base < 2 * m)
    (c : IsContour m h next base before contour) (a : IsContour m h next base after later) (r : IsRemoval h next contour later w heads)
    (others : (v : ℕ) → before v ≡ (after v || (v == w))) (absent : after w ≡ false) (present : before w ≡ true) where
  -- the heads differ
  differ : is_distinct heads ≡ true
  differ = heads-distinct m h next previous t base l before contour c later w heads r a.once

  -- a dart around the vertex of y leaves this vertex
  same-vertex : (y z : ℕ) → y < 2 * m → is_member z (ring (2 * m) next y) ≡ true → (z < 2 * m) × (tail h z ≡ tail h y)
  same-vertex y z k i = let b = ring-below (2 * m) next previous t.map.drawn.map y k z i in
      (b, sym (one-tail m h next previous t.map y z k b (sym (ring-member (2 * m) next previous t.map.drawn.map y k z) ∙ i)))

  -- the left dart is on the contour after the removal
  left-later : is_member (dart-left m h next previous t base l before contour c later w heads r) later ≡ true
  left-later = let k = lefts m h next previous t base l before contour c later w heads r in
      ap (is_member (dart-left m h next previous t base l before contour c later w heads r)) r.makes
      ∙ member-append_left (dart-left m h next previous t base l before contour c later w heads r) ((r.first ∷ r.front) ++ map (face next) r.arms) r.back
      (member-append_left (dart-left m h next previous t base l before contour c later w heads r) (r.first ∷ r.front) (map (face next) r.arms)
      (ap (is_member (dart-left m h next previous t base l before contour c later w heads r)) k.1
      ∙ member-append_right (dart-left m h next previous t base l before contour c later w heads r) k.0 (dart-left m h next previous t base l before contour c later w heads r ∷ []) (member-head (dart-left m h next previous t base l before contour c later w heads r) [])))

  -- the new dart of an arm is on it
  new-later : (e : ℕ) → is_member e r.arms ≡ true → is_member (face next e) later ≡ true
  new-later e i = ap (is_member (face next e)) r.makes ∙ member-append_left (face next e) ((r.first ∷ r.front) ++ map (face next) r.arms) r.back
      (member-append_right (face next e) (r.first ∷ r.front) (map (face next) r.arms) (member-map (face next) r.arms e i))

  -- the twin of an arm goes on to the contour's dart at the head
  arm-follows : (e : ℕ) → is_member e (r.x ∷ r.arms) ≡ true → (y : ℕ) → is_member y later ≡ true → tail h y ≡ tail h (twin e) → restricted (2 * m) (stays_dart h before) next (twin e) ≡ y
  arm-follows e i y j q = elim (member-cases e r.x r.arms i) [
    | inl s ↦ ap (λ (u : ℕ). restricted (2 * m) (stays_dart h before) next (twin u)) (sym s) ∙ left-follows m h next previous t base l before contour c later w heads r
        ∙ sym (same-dart m h next previous t base l after later a y (dart-left m h next previous t base l before contour c later w heads r) j left-later (q ∙ ap (λ (u : ℕ). tail h (twin u)) (sym s) ∙ x-leads m h next previous t base l before contour c later w heads r))
    | inr k ↦ restricted-step (2 * m) (stays_dart h before) next previous t.map.drawn.map (twin e) y (twin-below m e (arm-leaves m h next previous t base l before contour c later w heads r e i).0)
        (stays-twin h before e (arm-stays m h next previous t base l before contour c later w heads r differ e i))
        (darts-before h before after w others absent y (contour-dart m h next previous t base l after later a y j).1)
        (same-dart m h next previous t base l after later a (face next e) y (new-later e k) j (new-leaves m h next previous t base l before contour c later w heads r e i ∙ sym q))
  ]

  -- of two tests for darts that stay the second is the stricter
  both-tests : (d : ℕ) → (stays_dart h before d && stays_dart h after d) ≡ stays_dart h after d
  both-tests d = elim (cases_Bool (stays_dart h after d)) [
    | inl s ↦ rw (darts-before h before after w others absent d s, s) refl
    | inr s ↦ rw s (none (stays_dart h before d))
  ]
    where
      none : (b : Bool) → (b && false) ≡ false
      none b = grind (arith, cases_Bool b)

  -- around the head of an arm, its twin comes last, and is all that is added
  arm-last : (e : ℕ) → is_member e (r.x ∷ r.arms) ≡ true → (y : ℕ) → is_member y later ≡ true → tail h y ≡ tail h (twin e) → darts_around m h next before y ≡ darts_around m h next after y ++ twin e ∷ []
  arm-last e i y j q = k.1 ∙ ap (λ (s : List ℕ). s ++ twin e ∷ []) (sym rest)
    where
      at : (y < 2 * m) × (stays_dart h after y ≡ true)
      at = contour-dart m h next previous t base l after later a y j

      arm : (e < 2 * m) × (tail h e ≡ w)
      arm = arm-leaves m h next previous t base l before contour c later w heads r e i

      k : (s : List ℕ) × (filter (stays_dart h before) (ring (2 * m) next y) ≡ s ++ twin e ∷ [])
      k = passing-last (2 * m) (stays_dart h before) next previous t.map.drawn.map y at.0 (darts-before h before after w others absent y at.1) (twin e) (twin-below m e arm.0) (arm-follows e i y j q)

      apart : is_distinct (k.0 ++ twin e ∷ []) ≡ true
      apart = subst (λ (s : List ℕ). is_distinct s ≡ true) k.1 (distinct-filter (stays_dart h before) (ring (2 * m) next y) (ring-distinct (2 * m) next previous t.map.drawn.map y at.0))

      stay : (z : ℕ) → is_member z k.0 ≡ true → stays_dart h after z ≡ true
      stay z n = darts-after h before after w others absent z inside.1 (λ s. not-removed h before after w others absent (tail h y) (stays-tail h after y at.1) (sym vertex.1 ∙ s))
          (λ s. both_ways (is_member z (twin e ∷ [])) (distinct-append_apart k.0 (twin e ∷ []) apart z n) (only s))
        where
          inside : (is_member z (ring (2 * m) next y) ≡ true) × (stays_dart h before z ≡ true)
          inside = member-filter_parts (stays_dart h before) (ring (2 * m) next y) z (ap (is_member z) k.1 ∙ member-append_left z k.0 (twin e ∷ []) n)

          vertex : (z < 2 * m) × (tail h z ≡ tail h y)
          vertex = same-vertex y z at.0 inside.0

          only : tail h (twin z) ≡ w → is_member z (twin e ∷ []) ≡ true
          only s = subst (λ (u : ℕ). is_member u (twin e ∷ []) ≡ true) (ap twin (sym same) ∙ twin-twin z) (member-head (twin e) [])
            where
              same : twin z ≡ e
              same = t.map.simple (twin z) e (twin-below m z vertex.0) arm.0 (s ∙ sym arm.1) (ap (tail h) (twin-twin z) ∙ vertex.1 ∙ q)

      rest : filter (stays_dart h after) (ring (2 * m) next y) ≡ k.0
      rest = filter-ext (stays_dart h after) (λ d. stays_dart h before d && stays_dart h after d) (ring (2 * m) next y) (λ d n. sym (both-tests d))
          ∙ sym (filter-filter (stays_dart h after) (stays_dart h before) (ring (2 * m) next y))
          ∙ ap (filter (stays_dart h after)) k.1
          ∙ filter-append (stays_dart h after) k.0 (twin e ∷ [])
          ∙ ap (λ (s : List ℕ). filter (stays_dart h after) k.0 ++ s) (filter-no (stays_dart h after) (twin e) [] (gone-to h before after w others absent (twin e) (ap (tail h) (twin-twin e) ∙ arm.1)))
          ∙ append-nil (filter (stays_dart h after) k.0)
          ∙ filter-all (stays_dart h after) k.0 stay

  -- around all other vertices, nothing changes
  elsewhere : (d : ℕ) → d < 2 * m → stays_dart h after d ≡ true → is_member (tail h d) heads ≡ false → darts_around m h next before d ≡ darts_around m h next after d
  elsewhere d k s n = filter-ext (stays_dart h before) (stays_dart h after) (ring (2 * m) next d) same
    where
      same : (z : ℕ) → is_member z (ring (2 * m) next d) ≡ true → stays_dart h before z ≡ stays_dart h after z
      same z i = elim (cases_Bool (stays_dart h before z)) [
        | inr f ↦ f ∙ sym (false_from_ne_true (stays_dart h after z) (λ u. both_ways (stays_dart h before z) f (darts-before h before after w others absent z u)))
        | inl b ↦ b ∙ sym (darts-after h before after w others absent z b (λ e. not-removed h before after w others absent (tail h d) (stays-tail h after d s) (sym v.1 ∙ e))
            (λ e. both_ways (is_member (tail h d) heads) n (subst (λ (u : ℕ). is_member u heads ≡ true) v.1 (is-head m h next previous t base l before contour c later w heads r differ z v.0 e b))))
      ]
        where
          v : (z < 2 * m) × (tail h z ≡ tail h d)
          v = same-vertex d z k i

-- where both before and after a removal there is a contour, the removed vertex is stacked on the contour after it
pub removal-stacked : RemovalIsStacked
removal-stacked m h next previous base before after contour later w heads t l c a r others absent present = record {
  arm = r.x;
  arms = r.arms;
  absent = absent;
  others = others;
  within = member-all (λ e. (e < 2 * m) × (tail h e ≡ w)) (r.x ∷ r.arms) (arm-leaves m h next previous t base l before contour c later w heads r);
  lead = r.lead;
  own = own-arms m h next previous t base l before contour c later w heads r (differ m h next previous base before after contour later w heads t l c a r others absent present);
  put = member-all (λ e. (y : ℕ) → is_member y later ≡ true → tail h y ≡ tail h (twin e) → darts_around m h next before y ≡ darts_around m h next after y ++ twin e ∷ []) (r.x ∷ r.arms)
      (arm-last m h next previous base before after contour later w heads t l c a r others absent present);
  else_same = elsewhere m h next previous base before after contour later w heads t l c a r others absent present;
}
