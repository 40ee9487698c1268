-- Contours: their darts, neighbours on them, and what goes on to each dart.
use Rattle.std.proofs.Common.{◌≡◌, ℕ, ◌*◌, ◌<◌, Bool, true, false, List, [], ◌∷◌, ◌++◌, map, refl, sym, ap, ◌∙◌, subst}
use Rattle.std.proofs.lemmas.Bool.{both_ways}
use Rattle.permutations.specs.Members.{is_member, is_distinct}
use Rattle.permutations.specs.Cyclic.{first_or, last_or}
use Rattle.permutations.specs.Exchange.{restricted}
use Rattle.permutations.proofs.Arrangements.{all-member}
use Rattle.permutations.proofs.Members.{member-head, member-append_right, distinct-head, distinct-append_right, CutAt, cut_at}
use Rattle.permutations.proofs.Mapped.{map-member}
use Rattle.permutations.proofs.Chains.{apart-front}
use Rattle.dart_maps.specs.Map.{twin}
use Rattle.dart_maps.proofs.Darts.{twin-below}
use Rattle.multigraph.specs.Graph.{Multigraph}
use Rattle.faces.specs.Euler.{tail}
use Rattle.triangulations.specs.Triangulation.{IsTriangulated}
use Rattle.canonical_orders.specs.Contours.{stays_dart, darts_around, Successive, IsContour}
use Rattle.canonical_orders.specs.Laws.{GoesFromTo}
use Rattle.canonical_orders.proofs.ChordLists.{successive-at}
use Rattle.canonical_orders.proofs.Lists.{last-cons, last-cut, last-member, ends-with, image-once, image-distinct, cut-between, cut-rest}
use Rattle.canonical_orders.proofs.Walks.{passing-goes}
use Rattle.canonical_orders.proofs.Triangles.{stays-twin, restricted-tail}

module _ (m : ℕ) (h : Multigraph) (next previous : ℕ → ℕ) (t : IsTriangulated m h next previous) (base : ℕ) (l : base < 2 * m) (stays : ℕ → Bool) (contour : List ℕ) (c : IsContour m h next base stays contour) where
  -- the darts of a contour are darts that stay
  pub contour-dart : (d : ℕ) → is_member d contour ≡ true → (d < 2 * m) × (stays_dart h stays d ≡ true)
  contour-dart d i = all-member (λ e. (e < 2 * m) × (stays_dart h stays e ≡ true)) contour d c.darts i

  -- the base is on its contour
  pub base-on : is_member base contour ≡ true
  base-on = ap (is_member base) c.begins ∙ member-head base c.rest

  -- darts of the contour that leave the same vertex are equal
  pub same-dart : (d e : ℕ) → is_member d contour ≡ true → is_member e contour ≡ true → tail h d ≡ tail h e → d ≡ e
  same-dart d e i j q = image-once (tail h) contour c.once d e i j q

  -- no dart is on the contour twice
  pub contour-distinct : is_distinct contour ≡ true
  contour-distinct = image-distinct (tail h) contour c.once

  -- each vertex on the contour has its dart
  pub vertex-dart : (v : ℕ) → is_member v (map (tail h) contour) ≡ true → (d : ℕ) × (is_member d contour ≡ true) × (tail h d ≡ v)
  vertex-dart v i = map-member (tail h) contour v i

  -- the twin of the next dart, at the last vertex of the base, goes on to the dart
  pub goes-to : (front : List ℕ) (x : ℕ) (back : List ℕ) → contour ≡ front ++ x ∷ back → restricted (2 * m) (stays_dart h stays) next (twin (first_or base back)) ≡ x
  goes-to front x [] e = c.around ∙ ap (last_or base) e ∙ last-cut base front x []
  goes-to front x (y ∷ back) e = successive-at (λ u v. restricted (2 * m) (stays_dart h stays) next (twin v) ≡ u) front x y back (subst (Successive (λ u v. restricted (2 * m) (stays_dart h stays) next (twin v) ≡ u)) e c.along)

  -- the next dart is on the contour
  next-on : (front : List ℕ) (x : ℕ) (back : List ℕ) → contour ≡ front ++ x ∷ back → is_member (first_or base back) contour ≡ true
  next-on front x [] e = base-on
  next-on front x (y ∷ back) e = ap (is_member y) (e ∙ sym (cut-between front x (y ∷ back))) ∙ member-append_right y (front ++ x ∷ []) (y ∷ back) (member-head y back)

  -- the next dart leads to the vertex of the dart
  pub leads-to : (front : List ℕ) (x : ℕ) (back : List ℕ) → contour ≡ front ++ x ∷ back → tail h (twin (first_or base back)) ≡ tail h x
  leads-to front x back e = let w = contour-dart (first_or base back) (next-on front x back e) in
      sym (restricted-tail m h next previous t (stays_dart h stays) (twin (first_or base back)) (twin-below m (first_or base back) w.0) (stays-twin h stays (first_or base back) w.1)) ∙ ap (tail h) (goes-to front x back e)

  -- a dart of the contour that leads to the vertex of x is the next one after x
  pub leads-once : (front : List ℕ) (x : ℕ) (back : List ℕ) → contour ≡ front ++ x ∷ back → (d : ℕ) → is_member d contour ≡ true → tail h (twin d) ≡ tail h x → d ≡ first_or base back
  leads-once front x back e d i q = at k.front k.is k.first
    where
      k : CutAt d contour
      k = cut_at d contour i

      apart : is_distinct (front ++ x ∷ back) ≡ true
      apart = subst (λ (r : List ℕ). is_distinct r ≡ true) e contour-distinct

      on : is_member x contour ≡ true
      on = ap (is_member x) e ∙ member-append_right x front (x ∷ back) (member-head x back)

      last-on : is_member (last_or base contour) contour ≡ true
      last-on = subst (λ (z : ℕ). is_member z contour ≡ true) (sym (ap (last_or base) e ∙ last-cut base front x back)) (ap (is_member (last_or x back)) e ∙ member-append_right (last_or x back) front (x ∷ back) (last-member x back))

      first : d ≡ base → d ≡ first_or base back
      first b = none back refl
        where
          final : x ≡ last_or base contour
          final = same-dart x (last_or base contour) on last-on (sym q ∙ ap (λ (z : ℕ). tail h (twin z)) b ∙ sym c.closes)

          none : (s : List ℕ) → s ≡ back → d ≡ first_or base s
          none [] f = b
          none (y ∷ s) f = absurd (both_ways (is_member x (y ∷ s)) (distinct-head x (y ∷ s) (distinct-append_right front (x ∷ y ∷ s) (subst (λ (r : List ℕ). is_distinct (front ++ x ∷ r) ≡ true) (sym f) apart)))
              (subst (λ (z : ℕ). is_member z (y ∷ s) ≡ true) (sym (final ∙ ap (last_or base) e ∙ last-cut base front x back ∙ ap (last_or x) (sym f) ∙ last-cons x y s)) (last-member y s)))

      at : (a : List ℕ) → contour ≡ a ++ d ∷ k.back → is_member d a ≡ false → d ≡ first_or base back
      at [] f n = first (ap (first_or 0) (sym f ∙ c.begins))
      at (z ∷ a) f n = sym (ap (first_or base) (cut-rest x front back w.0 (d ∷ k.back) (apart-front front x back apart) (apart-front w.0 x (d ∷ k.back) (subst (λ (r : List ℕ). is_distinct r ≡ true) whole contour-distinct)) (sym e ∙ whole)))
        where
          w : (r : List ℕ) × (z ∷ a ≡ r ++ last_or z a ∷ [])
          w = ends-with z a

          cut : contour ≡ w.0 ++ last_or z a ∷ d ∷ k.back
          cut = f ∙ ap (λ (r : List ℕ). r ++ d ∷ k.back) w.1 ∙ cut-between w.0 (last_or z a) (d ∷ k.back)

          same : last_or z a ≡ x
          same = same-dart (last_or z a) x (ap (is_member (last_or z a)) cut ∙ member-append_right (last_or z a) w.0 (last_or z a ∷ d ∷ k.back) (member-head (last_or z a) (d ∷ k.back))) on
              (sym (leads-to w.0 (last_or z a) (d ∷ k.back) cut) ∙ q)

          whole : contour ≡ w.0 ++ x ∷ d ∷ k.back
          whole = cut ∙ ap (λ (u : ℕ). w.0 ++ u ∷ d ∷ k.back) same

  -- around the vertex of a dart of the contour: from this dart to the twin of the next
  pub around : (front back : List ℕ) (x : ℕ) → contour ≡ front ++ x ∷ back → GoesFromTo x (twin (first_or base back)) (darts_around m h next stays x)
  around front back x e = let w = contour-dart x (ap (is_member x) e ∙ member-append_right x front (x ∷ back) (member-head x back)) in
      passing-goes (2 * m) (stays_dart h stays) next previous t.map.drawn.map x w.0 w.1 (twin (first_or base back)) (twin-below m (first_or base back) (contour-dart (first_or base back) (next-on front x back e)).0) (goes-to front x back e)
