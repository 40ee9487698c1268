-- Around a vertex of a contour, with one more edge to a point that is stacked there.
use Rattle.std.proofs.Common.{◌≡◌, ℕ, ◌⊎◌, inl, inr, ◌*◌, ◌<◌, ◌≤◌, Bool, true, List, [], ◌∷◌, ◌++◌, map, arith, sym, ap, ◌∙◌, subst, subst₂, append_assoc}
use Rattle.std.proofs.lemmas.List.{map-append}
use Rattle.permutations.specs.Members.{is_member, is_distinct}
use Rattle.permutations.specs.Cyclic.{last_or}
use Rattle.permutations.specs.Exchange.{restricted}
use Rattle.permutations.proofs.Members.{member-head, member-tail, member-append_right, CutAt, cut_at}
use Rattle.permutations.proofs.Turned.{IsTurn-swap}
use Rattle.permutations.proofs.Arrangements.{all-member}
use Rattle.dart_maps.specs.Map.{twin}
use Rattle.dart_maps.proofs.Darts.{twin-twin, twin-below}
use Rattle.multigraph.specs.Graph.{Multigraph}
use Rattle.faces.specs.Euler.{tail}
use Rattle.plane_points.specs.Turning.{comes_before, IsCounterclockwise}
use Rattle.plane_points.proofs.Rising.{Rises, pairs-rises, rises-second}
use Rattle.plane_points.proofs.Laws.{one_more_goes_around}
use Rattle.triangulations.specs.Triangulation.{IsTriangulated}
use Rattle.canonical_orders.specs.Contours.{stays_dart, Successive, IsContour, darts_around}
use Rattle.stacked_points.specs.Contours.{contour_of, Overlooks}
use Rattle.stacked_points.specs.Contours as points
use Rattle.stacked_points.proofs.Stacking.{Across}
use Rattle.stacked_points.proofs.Corners.{first_differ, last_differ}
use Rattle.stacked_maps.specs.Drawn.{contour_points, start_of, end_of, IsDrawnUnder}
use Rattle.stacked_maps.proofs.Lists.{last-cut, last_or-end, last_or-cons, last_or-member, cons-first, chain-from, each-image, alone, counter-turn, counter-two}
use Rattle.stacked_maps.proofs.Darts.{stays-twin, no-loop, same-dart, on-tail, around-last, around-distinct}
use Rattle.stacked_maps.proofs.Corners.{IsCorner, corner-both, corner-first, corner-last}

module _ (m : ℕ) (h : Multigraph) (next previous : ℕ → ℕ) (t : IsTriangulated m h next previous) (base : ℕ) (stays : ℕ → Bool) (contour : List ℕ) (at : ℕ → ℕ × ℕ)
    (c : IsContour m h next base stays contour) (w : IsDrawnUnder m h next base stays contour at) where
  abbrev P : ℕ → ℕ × ℕ
  P = start_of h at

  abbrev E : ℕ → ℕ × ℕ
  E = end_of h at

  abbrev on : ℕ → ℕ
  on = restricted (2 * m) (stays_dart h stays) next

  abbrev Goes : ℕ × ℕ → ℕ → Type 0
  Goes v y = IsCounterclockwise (P y) (map E (darts_around m h next stays y) ++ v ∷ [])

  pub on-contour : (d : ℕ) → is_member d contour ≡ true → (d < 2 * m) × (stays_dart h stays d ≡ true)
  on-contour = λ x. all-member (λ d. (d < 2 * m) × (stays_dart h stays d ≡ true)) contour x c.darts

  pub base-on : is_member base contour ≡ true
  base-on = ap (is_member base) c.begins ∙ member-head base c.rest

  -- the last dart leads to y, a point that is seen between the first end and the last one comes at the end
  one-more : (v : ℕ × ℕ) (y z : ℕ) → y < 2 * m → stays_dart h stays y ≡ true → z < 2 * m → stays_dart h stays z ≡ true → on z ≡ y → IsCorner (P y) (E z) v (E y) → Goes v y
  one-more v y z l k j i e corner = subst (λ (s : List (ℕ × ℕ)). IsCounterclockwise (P y) (s ++ v ∷ [])) (sym (ap (map E) a.2))
      (one_more_goes_around (P y) v (E z) (E y) (map E a.1) (map E a.0) (sym (map-append E a.1 (z ∷ [])) ∙ ap (map E) (sym a.3 ∙ a.2)) (subst (IsCounterclockwise (P y)) (ap (map E) a.2) (w.around y l k)) corner.1 corner.0)
    where
      a : (r : List ℕ) × (q : List ℕ) × (darts_around m h next stays y ≡ y ∷ r) × (darts_around m h next stays y ≡ q ++ z ∷ [])
      a = around-last m h next previous t stays y z l k j i e

  -- where y is the only dart, two points in different directions are enough
  one-alone : (v : ℕ × ℕ) (y : ℕ) → y < 2 * m → stays_dart h stays y ≡ true → on y ≡ y → (comes_before (P y) (E y) v ≡ true) ⊎ (comes_before (P y) v (E y) ≡ true) → Goes v y
  one-alone v y l k e d = subst (λ (s : List ℕ). IsCounterclockwise (P y) (map E s ++ v ∷ [])) (sym (a.2 ∙ ap (λ (s : List ℕ). y ∷ s) none)) (two d)
    where
      a : (r : List ℕ) × (q : List ℕ) × (darts_around m h next stays y ≡ y ∷ r) × (darts_around m h next stays y ≡ q ++ y ∷ [])
      a = around-last m h next previous t stays y y l k l k e

      none : a.0 ≡ []
      none = alone y a.0 a.1 (subst (λ (s : List ℕ). is_distinct s ≡ true) a.2 (around-distinct m h next previous t stays y l)) (sym a.2 ∙ a.3)

      two : (comes_before (P y) (E y) v ≡ true) ⊎ (comes_before (P y) v (E y) ≡ true) → IsCounterclockwise (P y) (E y ∷ v ∷ [])
      two (inl f) = counter-two (P y) (E y) v f
      two (inr f) = counter-turn (P y) (v ∷ E y ∷ []) (E y ∷ v ∷ []) (IsTurn-swap (v ∷ []) (E y ∷ [])) (counter-two (P y) v (E y) f)

  rises : Rises Across (map P contour)
  rises = pairs-rises Across (map P contour) w.goes_right

  -- points of different heights or places are those of different vertices
  less-apart : (d e : ℕ) → (P d).0 < (P e).0 → tail h d ≡ tail h e → ⊥
  less-apart d e l q = omega (arith, l, ap (λ (u : ℕ). (at u).0) q)

  along : (k l : List ℕ) → contour ≡ k ++ l → Successive (λ x y. on (twin y) ≡ x) l
  along k l e = chain-from (λ x y. on (twin y) ≡ x) k l (subst (Successive (λ x y. on (twin y) ≡ x)) e c.along)

  -- the left neighbour is where the contour dart leads
  left-end : (k : List ℕ) (z y : ℕ) (l : List ℕ) → contour ≡ k ++ z ∷ y ∷ l → tail h z ≡ tail h (twin y)
  left-end k z y l e = let p : (y < 2 * m) × (stays_dart h stays y ≡ true) = on-contour y (ap (is_member y) e ∙ member-append_right y k (z ∷ y ∷ l) (member-tail y z (y ∷ l) (member-head y l))) in
      sym (ap (tail h) (along k (z ∷ y ∷ l) e).0) ∙ on-tail m h next previous t stays (twin y) (twin-below m y p.0) (stays-twin h stays y p.1)

  base-in : (base < 2 * m) × (stays_dart h stays base ≡ true)
  base-in = on-contour base base-on

  first-base : (y : ℕ) (l : List ℕ) → contour ≡ y ∷ l → y ≡ base
  first-base y l e = cons-first y base l c.rest (sym e ∙ c.begins)

  points-cut : (k l : List ℕ) → contour ≡ k ++ l → map P contour ≡ map P k ++ map P l
  points-cut k l e = ap (map P) e ∙ map-append P k l

  module _ (v a b : ℕ × ℕ) (left inner right : List (ℕ × ℕ)) (old : contour_points h at contour ≡ contour_of left a inner b right) (o : Overlooks v a inner b) (up : (P base).1 < v.1) where
    goes-right : points.IsContour (contour_of left a inner b right)
    goes-right = subst points.IsContour old w.goes_right

    both : (k : List ℕ) (z y x : ℕ) (l : List ℕ) → contour ≡ k ++ z ∷ y ∷ x ∷ l → a.0 ≤ (P y).0 → (P y).0 ≤ b.0 → Goes v y
    both k z y x l e i j = one-more v y (twin x) y-in.0 y-in.1 (twin-below m x x-in.0) (stays-twin h stays x x-in.1) (along k (z ∷ y ∷ x ∷ l) e).1.0
        (subst₂ (λ p q. IsCorner (P y) p v q) (sym (ap P (twin-twin x))) (ap at (left-end k z y (x ∷ l) e))
        (corner-both v a b left inner right goes-right o (map P k) (P z) (P y) (P x) (map P l) (sym old ∙ points-cut k (z ∷ y ∷ x ∷ l) e) i j))
      where
        y-in : (y < 2 * m) × (stays_dart h stays y ≡ true)
        y-in = on-contour y (ap (is_member y) e ∙ member-append_right y k (z ∷ y ∷ x ∷ l) (member-tail y z (y ∷ x ∷ l) (member-head y (x ∷ l))))

        x-in : (x < 2 * m) × (stays_dart h stays x ≡ true)
        x-in = on-contour x (ap (is_member x) e ∙ member-append_right x k (z ∷ y ∷ x ∷ l) (member-tail x z (y ∷ x ∷ l) (member-tail x y (x ∷ l) (member-head x l))))

    -- the first dart of the contour, where it has more than two
    first : (y x x2 : ℕ) (l : List ℕ) → contour ≡ y ∷ x ∷ x2 ∷ l → a.0 ≤ (P y).0 → Goes v y
    first y x x2 l e i = one-more v y (twin x) y-in.0 y-in.1 (twin-below m x x-in.0) (stays-twin h stays x x-in.1) (along [] (y ∷ x ∷ x2 ∷ l) e).0
        (subst (λ (p : ℕ × ℕ). IsCorner (P y) p v (E y)) (sym (ap P (twin-twin x)))
        (corner-first v a b left inner right goes-right o (P y) (P x) (E y) (map P (x2 ∷ l)) (sym old ∙ ap (map P) e) i
        (subst (λ (d : ℕ). (E d).1 ≡ (P d).1) (sym is-base) (sym w.level))
        (subst (λ (q : ℕ × ℕ). (P y).0 < q.0) (ap at end) (each-image (Across (P y)) P (x ∷ x2 ∷ l) points.0 z (member-tail z x (x2 ∷ l) z-in)))
        (subst (λ (d : ℕ). (P d).1 < (P x).1) (sym is-base) (w.higher x x-on
        (λ q. less-apart y x (each-image (Across (P y)) P (x ∷ x2 ∷ l) points.0 x (member-head x (x2 ∷ l))) (ap (tail h) is-base ∙ sym q))
        (λ q. less-apart x z (each-image (Across (P x)) P (x2 ∷ l) points.1.0 z z-in) (q ∙ sym (end ∙ ap (λ (d : ℕ). tail h (twin d)) is-base)))))))
      where
        y-in : (y < 2 * m) × (stays_dart h stays y ≡ true)
        y-in = on-contour y (ap (is_member y) e ∙ member-head y (x ∷ x2 ∷ l))

        x-on : is_member x contour ≡ true
        x-on = ap (is_member x) e ∙ member-tail x y (x ∷ x2 ∷ l) (member-head x (x2 ∷ l))

        x-in : (x < 2 * m) × (stays_dart h stays x ≡ true)
        x-in = on-contour x x-on

        is-base : y ≡ base
        is-base = first-base y (x ∷ x2 ∷ l) e

        points : Rises Across (P y ∷ P x ∷ P x2 ∷ map P l)
        points = subst (Rises Across) (ap (map P) e) rises

        z : ℕ
        z = last_or x2 l

        z-in : is_member z (x2 ∷ l) ≡ true
        z-in = last_or-member x2 l

        end : tail h z ≡ tail h (twin y)
        end = ap (tail h) (sym (ap (last_or base) e ∙ last_or-cons base y (x ∷ x2 ∷ l) ∙ last_or-cons y x (x2 ∷ l) ∙ last_or-cons x x2 l)) ∙ c.closes ∙ ap (λ (d : ℕ). tail h (twin d)) (sym is-base)

    -- where it has two
    first-of-two : (y x : ℕ) → contour ≡ y ∷ x ∷ [] → Goes v y
    first-of-two y x e = one-alone v y y-in.0 y-in.1 (sym (ap on same) ∙ (along [] (y ∷ x ∷ []) e).0)
        (inl (first_differ (P y) v (E y) (subst (λ (d : ℕ). (E d).1 ≡ (P d).1) (sym is-base) (sym w.level)) (subst (λ (q : ℕ × ℕ). (P y).0 < q.0) (ap at end) points.0.0) (subst (λ (d : ℕ). (P d).1 < v.1) (sym is-base) up)))
      where
        y-in : (y < 2 * m) × (stays_dart h stays y ≡ true)
        y-in = on-contour y (ap (is_member y) e ∙ member-head y (x ∷ []))

        x-in : (x < 2 * m) × (stays_dart h stays x ≡ true)
        x-in = on-contour x (ap (is_member x) e ∙ member-tail x y (x ∷ []) (member-head x []))

        is-base : y ≡ base
        is-base = first-base y (x ∷ []) e

        points : Rises Across (P y ∷ P x ∷ [])
        points = subst (Rises Across) (ap (map P) e) rises

        end : tail h x ≡ tail h (twin y)
        end = sym (ap (tail h) (ap (last_or base) e ∙ last_or-end base (y ∷ []) x)) ∙ c.closes ∙ ap (λ (d : ℕ). tail h (twin d)) (sym is-base)

        same : twin x ≡ y
        same = same-dart m h next previous t (twin x) y (twin-below m x x-in.0) y-in.0 (sym (left-end [] y x [] e)) (ap (tail h) (twin-twin x) ∙ end)

    -- the last dart of the contour, where it has more than two
    last : (z0 : ℕ) (k : List ℕ) (z y : ℕ) → contour ≡ (z0 ∷ k) ++ z ∷ y ∷ [] → (P y).0 ≤ b.0 → Goes v y
    last z0 k z y e j = one-more v y (twin base) y-in.0 y-in.1 (twin-below m base base-in.0) (stays-twin h stays base base-in.1) (c.around ∙ is-last)
        (subst₂ (λ p q. IsCorner (P y) p v q) (sym (ap P (twin-twin base))) (ap at (left-end (z0 ∷ k) z y [] e))
        (corner-last v a b left inner right goes-right o (map P (z0 ∷ k)) (P z) (P y) (P base) (sym old ∙ points-cut (z0 ∷ k) (z ∷ y ∷ []) e) j
        level
        (subst (λ (d : ℕ). (P d).0 < (P y).0) is-base (each-image (Across (P z0)) P (k ++ z ∷ y ∷ []) points.0 y (member-append_right y k (z ∷ y ∷ []) (member-tail y z (y ∷ []) (member-head y [])))))
        (subst (λ (n : ℕ). n < (P z).1) level (w.higher z z-on
        (λ q. less-apart z0 z (each-image (Across (P z0)) P (k ++ z ∷ y ∷ []) points.0 z (member-append_right z k (z ∷ y ∷ []) (member-head z (y ∷ [])))) (ap (tail h) is-base ∙ sym q))
        (λ q. less-apart z y ends.0.0 (q ∙ sym end))))))
      where
        z-on : is_member z contour ≡ true
        z-on = ap (is_member z) e ∙ member-append_right z (z0 ∷ k) (z ∷ y ∷ []) (member-head z (y ∷ []))

        y-in : (y < 2 * m) × (stays_dart h stays y ≡ true)
        y-in = on-contour y (ap (is_member y) e ∙ member-append_right y (z0 ∷ k) (z ∷ y ∷ []) (member-tail y z (y ∷ []) (member-head y [])))

        is-base : z0 ≡ base
        is-base = first-base z0 (k ++ z ∷ y ∷ []) e

        points : Rises Across (P z0 ∷ map P (k ++ z ∷ y ∷ []))
        points = subst (Rises Across) (ap (map P) e) rises

        ends : Rises Across (P z ∷ P y ∷ [])
        ends = rises-second Across (map P (z0 ∷ k)) (P z ∷ P y ∷ []) (subst (Rises Across) (points-cut (z0 ∷ k) (z ∷ y ∷ []) e) rises)

        is-last : last_or base contour ≡ y
        is-last = ap (last_or base) (e ∙ sym (append_assoc (z0 ∷ k) (z ∷ []) (y ∷ []))) ∙ last_or-end base ((z0 ∷ k) ++ z ∷ []) y

        end : tail h y ≡ tail h (twin base)
        end = sym (ap (tail h) is-last) ∙ c.closes

        level : (P base).1 ≡ (P y).1
        level = w.level ∙ ap (λ (u : ℕ). (at u).1) (sym end)

    -- where it has two
    last-of-two : (z y : ℕ) → contour ≡ z ∷ y ∷ [] → Goes v y
    last-of-two z y e = one-alone v y y-in.0 y-in.1 (sym (ap on (sym same)) ∙ c.around ∙ is-last)
        (inr (last_differ (P y) (E y) v
        (ap (λ (u : ℕ). (at u).1) (sym (left-end [] z y [] e)) ∙ ap (λ (d : ℕ). (P d).1) is-base ∙ level)
        (subst (λ (q : ℕ × ℕ). q.0 < (P y).0) (ap at (left-end [] z y [] e)) points.0.0)
        (subst (λ (n : ℕ). n < v.1) level up)))
      where
        y-in : (y < 2 * m) × (stays_dart h stays y ≡ true)
        y-in = on-contour y (ap (is_member y) e ∙ member-tail y z (y ∷ []) (member-head y []))

        is-base : z ≡ base
        is-base = first-base z (y ∷ []) e

        points : Rises Across (P z ∷ P y ∷ [])
        points = subst (Rises Across) (ap (map P) e) rises

        is-last : last_or base contour ≡ y
        is-last = ap (last_or base) e ∙ last_or-end base (z ∷ []) y

        end : tail h y ≡ tail h (twin base)
        end = sym (ap (tail h) is-last) ∙ c.closes

        level : (P base).1 ≡ (P y).1
        level = w.level ∙ ap (λ (u : ℕ). (at u).1) (sym end)

        same : y ≡ twin base
        same = same-dart m h next previous t y (twin base) y-in.0 (twin-below m base base-in.0) end (sym (left-end [] z y [] e) ∙ ap (tail h) (is-base ∙ sym (twin-twin base)))

    at-cut : (k : List ℕ) (y : ℕ) (l : List ℕ) → contour ≡ k ++ y ∷ l → a.0 ≤ (P y).0 → (P y).0 ≤ b.0 → Goes v y
    at-cut [] y [] e i j = absurd (no-loop m h next previous t base base-in.0 (ap (tail h) (sym (first-base y [] e)) ∙ sym (ap (tail h) (ap (last_or base) e ∙ last_or-end base [] y)) ∙ c.closes))
    at-cut [] y (x ∷ []) e i j = first-of-two y x e
    at-cut [] y (x ∷ x2 ∷ l) e i j = first y x x2 l e i
    at-cut (d ∷ k) y l e i j = go (last-cut d k) l e
      where
        go : (q : List ℕ) × (z : ℕ) × (d ∷ k ≡ q ++ z ∷ []) → (l : List ℕ) → contour ≡ (d ∷ k) ++ y ∷ l → Goes v y
        go (q, z, f) (x ∷ l) e = both q z y x l (e ∙ ap (λ (s : List ℕ). s ++ y ∷ x ∷ l) f ∙ append_assoc q (z ∷ []) (y ∷ x ∷ l)) i j
        go ([], z, f) [] e = last-of-two z y (e ∙ ap (λ (s : List ℕ). s ++ y ∷ []) f)
        go (z0 ∷ q, z, f) [] e = last z0 q z y (e ∙ ap (λ (s : List ℕ). s ++ y ∷ []) f ∙ append_assoc (z0 ∷ q) (z ∷ []) (y ∷ [])) j

    pub goes-around : (y : ℕ) → is_member y contour ≡ true → a.0 ≤ (P y).0 → (P y).0 ≤ b.0 → Goes v y
    goes-around y n i j = let q : CutAt y contour = cut_at y contour n in at-cut q.front y q.back q.is i j
