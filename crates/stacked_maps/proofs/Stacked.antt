-- A vertex that overlooks its neighbours is stacked on the drawing: each part of it is kept.
use Rattle.std.proofs.Common.{◌≡◌, ◌≢◌, ℕ, ◌+◌, ◌*◌, ◌<◌, ◌≤◌, ◌⊎◌, inl, inr, Bool, true, false, ◌==◌, List, [], ◌∷◌, ◌++◌, map, All, arith, refl, sym, ap, ◌∙◌, subst}
use Rattle.std.proofs.lemmas.Bool.{cases_Bool, both_ways, or_cases, eqb-true}
use Rattle.std.proofs.lemmas.List.{map-append}
use Rattle.std.proofs.lemmas.Simd.{map-map}
use Rattle.permutations.specs.Members.{is_member}
use Rattle.permutations.proofs.Members.{member-head}
use Rattle.permutations.proofs.Mapped.{member-map, map-member}
use Rattle.permutations.proofs.Turned.{IsTurn-map}
use Rattle.permutations.proofs.Arrangements.{all-member}
use Rattle.dart_maps.specs.Map.{twin}
use Rattle.dart_maps.proofs.Darts.{twin-twin, twin-below, twin-one, twin-back}
use Rattle.multigraph.specs.Graph.{Multigraph}
use Rattle.faces.specs.Euler.{tail}
use Rattle.plane_points.specs.Turning.{IsCounterclockwise}
use Rattle.plane_points.specs.Segments.{weighted, times, same_way}
use Rattle.plane_points.proofs.Rising.{Each, Rises, pairs-rises}
use Rattle.plane_points.proofs.Laws.{rays_are_apart}
use Rattle.stacked_points.specs.Contours.{IsUnder, IsSegmentUnder, stretch, contour_of}
use Rattle.stacked_points.specs.Contours as points
use Rattle.stacked_points.proofs.Chains.{all-each}
use Rattle.stacked_points.proofs.Stacking.{fan_is_apart, fan_goes_around, new_meets_segments, new_is_not_under}
use Rattle.stacked_points.proofs.Under.{stays_contour, old_stays_under, new_is_under}
use Rattle.triangulations.specs.Triangulation.{IsTriangulated}
use Rattle.canonical_orders.specs.Contours.{stays_dart, darts_around, IsContour, IsRemoval}
use Rattle.canonical_orders.specs.Order.{IsStacked}
use Rattle.stacked_maps.specs.Drawn.{contour_points, start_of, end_of, IsEndOf, MeetAtEnds, IsDrawnUnder, OverlooksAll}
use Rattle.stacked_maps.specs.Laws.{StackingKeepsDrawings}
use Rattle.stacked_maps.proofs.Lists.{each-image, rises-images, counter-turn}
use Rattle.stacked_maps.proofs.Darts.{stays-from, stays-parts, stays-twin, member-around, around-turn}
use Rattle.stacked_maps.proofs.Corners.{stretch-within}
use Rattle.stacked_maps.proofs.Cuts.{IsCut, removal-cuts, head-on, contour-tails}
use Rattle.stacked_maps.proofs.Heads.{on-contour, goes-around}
use Rattle.stacked_maps.proofs.Meetings.{segment-swap, all-first, once, meet-sym, meet-twin, meet-twin_second, passes}

module _ (m : ℕ) (h : Multigraph) (next previous : ℕ → ℕ) (base : ℕ) (before after : ℕ → Bool) (contour later : List ℕ) (w : ℕ) (heads : List ℕ) (at : ℕ → ℕ × ℕ)
    (t : IsTriangulated m h next previous) (c : IsContour m h next base before contour) (k : IsContour m h next base after later) (r : IsRemoval h next contour later w heads) (s : IsStacked m h next base before after later w heads)
    (d : IsDrawnUnder m h next base after later at) (o : OverlooksAll (at w) (map at heads)) (up : (start_of h at base).1 < (at w).1) where
  abbrev P : ℕ → ℕ × ℕ
  P = start_of h at

  abbrev E : ℕ → ℕ × ℕ
  E = end_of h at

  abbrev v : ℕ × ℕ
  v = at w

  abbrev arms : List ℕ
  arms = s.arm ∷ s.arms

  abbrev row : List (ℕ × ℕ)
  row = stretch o.first o.inner o.last

  abbrev under : List (ℕ × ℕ)
  under = contour_points h at contour

  -- vertices and darts that stay
  of-before : (u : ℕ) → before u ≡ true → (after u ≡ true) ⊎ (u ≡ w)
  of-before u i = elim (or_cases (after u) (u == w) (sym (s.others u) ∙ i)) [ inl a ↦ inl a | inr e ↦ inr (eqb-true u w e) ]

  arm-in : (e : ℕ) → is_member e arms ≡ true → (e < 2 * m) × (tail h e ≡ w)
  arm-in = λ x. all-member (λ e. (e < 2 * m) × (tail h e ≡ w)) arms x s.within

  arm-first : (s.arm < 2 * m) × (tail h s.arm ≡ w)
  arm-first = arm-in s.arm (member-head s.arm s.arms)

  dart-arm : (e : ℕ) → e < 2 * m → tail h e ≡ w → stays_dart h before e ≡ true → is_member e arms ≡ true
  dart-arm e l q i = sym (ap (is_member e) s.own) ∙ member-around m h next previous t before s.arm e arm-first.0 l (arm-first.1 ∙ sym q) i

  -- a dart that stays stayed before, or is an arm or the twin of one
  of-darts : (e : ℕ) → e < 2 * m → stays_dart h before e ≡ true → (stays_dart h after e ≡ true) ⊎ ((is_member e arms ≡ true) ⊎ (is_member (twin e) arms ≡ true))
  of-darts e l i = go (of-before (tail h e) (stays-parts h before e i).0) (of-before (tail h (twin e)) (stays-parts h before e i).1)
    where
      go : (after (tail h e) ≡ true) ⊎ (tail h e ≡ w) → (after (tail h (twin e)) ≡ true) ⊎ (tail h (twin e) ≡ w) → (stays_dart h after e ≡ true) ⊎ ((is_member e arms ≡ true) ⊎ (is_member (twin e) arms ≡ true))
      go (inr q) p = inr (inl (dart-arm e l q i))
      go (inl a) (inl b) = inl (stays-from h after e a b)
      go (inl a) (inr q) = inr (inr (dart-arm (twin e) (twin-below m e l) q (stays-twin h before e i)))

  -- the points
  cut : IsCut h at contour later w o.first o.inner o.last
  cut = removal-cuts m h next previous t base before contour later w heads c r at o

  old-contour : points.IsContour (contour_of cut.left o.first o.inner o.last cut.right)
  old-contour = subst points.IsContour cut.old d.goes_right

  ends-row : map E arms ≡ row
  ends-row = sym (map-map at (λ e. tail h (twin e)) arms) ∙ sym (ap (map at) s.lead) ∙ o.stretch

  -- what holds of the points of the stretch holds of the ends of arms
  arm-point : (Q : ℕ × ℕ → Type 0) → All Q row → (e : ℕ) → is_member e arms ≡ true → Q (E e)
  arm-point Q a e n = each-image Q E arms (subst (Each Q) (sym ends-row) (all-each Q row a)) e n

  keeps-under : (n : ℕ) (q : ℕ × ℕ) → 0 < n → IsUnder (contour_points h at later) n q → IsUnder under n q
  keeps-under n q p u = subst (λ (l : List (ℕ × ℕ)). IsUnder l n q) (sym cut.new)
      (old_stays_under v o.first o.last cut.left o.inner cut.right old-contour o.overlooks n q p (subst (λ (l : List (ℕ × ℕ)). IsUnder l n q) cut.old u))

  arm-under : (e : ℕ) → is_member e arms ≡ true → IsSegmentUnder under v (E e)
  arm-under = arm-point (IsSegmentUnder under v) (subst (λ (l : List (ℕ × ℕ)). All (IsSegmentUnder l v) row) (sym cut.new) (new_is_under v o.first o.last cut.left o.inner cut.right old-contour o.overlooks))

  new-under : IsUnder under 1 v
  new-under = subst (IsUnder under 1) (all-first 1 v (E s.arm) ∙ once v) (arm-under s.arm (member-head s.arm s.arms) 1 0 (omega arith))

  all-under : (e : ℕ) → e < 2 * m → stays_dart h before e ≡ true → IsSegmentUnder under (P e) (E e)
  all-under e l i = elim (of-darts e l i) [
    | inl a ↦ (λ p q n. keeps-under (p + q) (weighted p (P e) q (E e)) n (d.under e l a p q n))
    | inr (inl n) ↦ subst (λ (u : ℕ). IsSegmentUnder under (at u) (E e)) (sym (arm-in e n).1) (arm-under e n)
    | inr (inr n) ↦ segment-swap under (E e) (P e) (subst (λ (u : ℕ). IsSegmentUnder under (at u) (P e)) (sym (arm-in (twin e) n).1) (subst (λ (z : ℕ). IsSegmentUnder under v (P z)) (twin-twin e) (arm-under (twin e) n)))
  ]

  -- no point of a vertex that stays is that of w
  not-new : (u : ℕ) → after u ≡ true → at u ≡ v → ⊥
  not-new u i e = new_is_not_under v o.first o.last cut.left o.inner cut.right old-contour o.overlooks 1 (omega arith)
      (subst (λ (l : List (ℕ × ℕ)). IsUnder l 1 (times 1 v)) cut.old (subst (IsUnder (contour_points h at later) 1) (e ∙ sym (once v)) (d.inside u i)))

  all-apart : (u x : ℕ) → before u ≡ true → before x ≡ true → at u ≡ at x → u ≡ x
  all-apart u x i j e = go (of-before u i) (of-before x j)
    where
      go : (after u ≡ true) ⊎ (u ≡ w) → (after x ≡ true) ⊎ (x ≡ w) → u ≡ x
      go (inl a) (inl b) = d.apart u x a b e
      go (inr p) (inr q) = p ∙ sym q
      go (inl a) (inr q) = absurd (not-new u a (e ∙ ap at q))
      go (inr p) (inl b) = absurd (not-new x b (sym e ∙ ap at p))

  -- an arm and a dart that stayed
  meet-old : (e f : ℕ) → is_member e arms ≡ true → f < 2 * m → stays_dart h after f ≡ true → MeetAtEnds h at e f
  meet-old e f n l i p q x y pos sums same = (tail h (twin e), inr refl, ended, there)
    where
      met : weighted p v q (E e) ≡ times (p + q) (E e)
      met = arm-point
          (λ z. (a b : ℕ × ℕ) → IsSegmentUnder (contour_of cut.left o.first o.inner o.last cut.right) a b → (s t m n : ℕ) → 0 < s + t → s + t ≡ m + n → weighted s v t z ≡ weighted m a n b → weighted s v t z ≡ times (s + t) z)
          (new_meets_segments v o.first o.last cut.left o.inner cut.right old-contour o.overlooks) e n (P f) (E f)
          (subst (λ (l : List (ℕ × ℕ)). IsSegmentUnder l (P f) (E f)) cut.old (d.under f l i)) p q x y pos sums (ap (λ (u : ℕ). weighted p (at u) q (E e)) (sym (arm-in e n).1) ∙ same)

      there : weighted p (P e) q (E e) ≡ times (p + q) (E e)
      there = ap (λ (u : ℕ). weighted p (at u) q (E e)) (arm-in e n).1 ∙ met

      on : (z : ℕ) × (is_member z later ≡ true) × (tail h z ≡ tail h (twin e))
      on = head-on m h next previous t base before contour later w heads c r (tail h (twin e)) (ap (is_member (tail h (twin e))) s.lead ∙ member-map (λ z. tail h (twin z)) arms e n)

      ended : IsEndOf h f (tail h (twin e))
      ended = subst (IsEndOf h f) on.2 (passes m h next base after later at d on.0 f (on-contour m h next previous t base after later at k d on.0 on.1).0 l (on-contour m h next previous t base after later at k d on.0 on.1).1 i
          (p + q) x y pos sums (ap (λ (u : ℕ). times (p + q) (at u)) on.2 ∙ sym there ∙ same))

  -- two arms
  meet-ray : (e f : ℕ) → is_member e arms ≡ true → is_member f arms ≡ true → same_way v (E e) (E f) ≡ false → MeetAtEnds h at e f
  meet-ray e f n j g p q x y pos sums same = (
    w,
    inl (sym (arm-in e n).1),
    inl (sym (arm-in f j).1),
    ap (λ (u : ℕ). weighted p (at u) q (E e)) (arm-in e n).1
        ∙ rays_are_apart v (E e) (E f) g p q x y sums (ap (λ (u : ℕ). weighted p (at u) q (E e)) (sym (arm-in e n).1) ∙ same ∙ ap (λ (u : ℕ). weighted x (at u) y (E f)) (arm-in f j).1),
  )

  meet-new : (e f : ℕ) → is_member e arms ≡ true → is_member f arms ≡ true → e ≢ f → MeetAtEnds h at e f
  meet-new e f n j a = elim (rises-images (λ x y. same_way v x y ≡ false) E arms
      (subst (Rises (λ x y. same_way v x y ≡ false)) (sym ends-row) (pairs-rises (λ x y. same_way v x y ≡ false) row (fan_is_apart v row o.overlooks.above o.overlooks.over))) e f n j a) [
        | inl g ↦ meet-ray e f n j g
        | inr g ↦ meet-sym h at f e (meet-ray f e j n g)
      ]

  meet-arm : (e f : ℕ) → is_member e arms ≡ true → f < 2 * m → stays_dart h before f ≡ true → e ≢ f → e ≢ twin f → MeetAtEnds h at e f
  meet-arm e f n l i a b = elim (of-darts f l i) [
    | inl q ↦ meet-old e f n l q
    | inr (inl q) ↦ meet-new e f n q a
    | inr (inr q) ↦ meet-twin_second h at e f (meet-new e (twin f) n q b)
  ]

  abbrev Kind : ℕ → Type 0
  Kind x = (stays_dart h after x ≡ true) ⊎ ((is_member x arms ≡ true) ⊎ (is_member (twin x) arms ≡ true))

  all-meet : (e f : ℕ) → e < 2 * m → f < 2 * m → stays_dart h before e ≡ true → stays_dart h before f ≡ true → e ≢ f → e ≢ twin f → MeetAtEnds h at e f
  all-meet e f l n i j a b = go (of-darts e l i) (of-darts f n j)
    where
      go : Kind e → Kind f → MeetAtEnds h at e f
      go (inr (inl p)) q = meet-arm e f p n j a b
      go (inr (inr p)) q = meet-twin h at e f (meet-arm (twin e) f p n j (λ x. b (twin-back e f x)) (λ x. a (twin-one e f x)))
      go (inl p) (inl q) = d.meet e f l n p q a b
      go (inl p) (inr (inl q)) = meet-sym h at f e (meet-old f e q l p)
      go (inl p) (inr (inr q)) = meet-twin_second h at e f (meet-sym h at (twin f) e (meet-old (twin f) e q l p))

  -- around w, around its neighbours, and elsewhere
  around-new : (e : ℕ) → e < 2 * m → tail h e ≡ w → IsCounterclockwise (P e) (map E (darts_around m h next before e))
  around-new e l q = subst (λ (u : ℕ). IsCounterclockwise (at u) (map E (darts_around m h next before e))) (sym q)
      (counter-turn v (map E (darts_around m h next before s.arm)) (map E (darts_around m h next before e))
      (IsTurn-map E (darts_around m h next before s.arm) (darts_around m h next before e) (around-turn m h next previous t before s.arm e arm-first.0 l (arm-first.1 ∙ sym q)))
      (subst (λ (x : List ℕ). IsCounterclockwise v (map E x)) (sym s.own) (subst (IsCounterclockwise v) (sym ends-row) (fan_goes_around v row o.overlooks.above o.overlooks.over))))

  around-head : (e : ℕ) → e < 2 * m → is_member (tail h e) heads ≡ true → IsCounterclockwise (P e) (map E (darts_around m h next before e))
  around-head e l n = go (map-member (λ z. tail h (twin z)) arms (tail h e) (sym (ap (is_member (tail h e)) s.lead) ∙ n)) (head-on m h next previous t base before contour later w heads c r (tail h e) n)
    where
      go : (f : ℕ) × (is_member f arms ≡ true) × (tail h (twin f) ≡ tail h e) → (y : ℕ) × (is_member y later ≡ true) × (tail h y ≡ tail h e) → IsCounterclockwise (P e) (map E (darts_around m h next before e))
      go (f, i, p) (y, j, q) = subst (λ (u : ℕ). IsCounterclockwise (at u) (map E (darts_around m h next before e))) q
          (counter-turn (P y) (map E (darts_around m h next before y)) (map E (darts_around m h next before e))
          (IsTurn-map E (darts_around m h next before y) (darts_around m h next before e) (around-turn m h next previous t before y e y-in l q))
          (subst (IsCounterclockwise (P y)) (sym more) around-y))
        where
          y-in : y < 2 * m
          y-in = (on-contour m h next previous t base after later at k d y j).0

          within : (o.first.0 ≤ (P y).0) × ((P y).0 ≤ o.last.0)
          within = subst (λ (u : ℕ). (o.first.0 ≤ (at u).0) × ((at u).0 ≤ o.last.0)) (p ∙ sym q)
              (each-image (λ z. (o.first.0 ≤ z.0) × (z.0 ≤ o.last.0)) E arms (subst (Each (λ z. (o.first.0 ≤ z.0) × (z.0 ≤ o.last.0))) (sym ends-row) (stretch-within v o.first o.last cut.left o.inner cut.right old-contour o.overlooks)) f i)

          around-y : IsCounterclockwise (P y) (map E (darts_around m h next after y) ++ v ∷ [])
          around-y = goes-around m h next previous t base after later at k d v o.first o.last cut.left o.inner cut.right cut.old o.overlooks up y j within.0 within.1

          more : map E (darts_around m h next before y) ≡ map E (darts_around m h next after y) ++ v ∷ []
          more = ap (map E) (all-member (λ e. (y : ℕ) → is_member y later ≡ true → tail h y ≡ tail h (twin e) → darts_around m h next before y ≡ darts_around m h next after y ++ twin e ∷ []) arms f s.put i y j (q ∙ sym p))
              ∙ map-append E (darts_around m h next after y) (twin f ∷ [])
              ∙ ap (λ (u : ℕ). map E (darts_around m h next after y) ++ at u ∷ []) (ap (tail h) (twin-twin f) ∙ (arm-in f i).1)

  all-around : (e : ℕ) → e < 2 * m → stays_dart h before e ≡ true → IsCounterclockwise (P e) (map E (darts_around m h next before e))
  all-around e l i = go (of-darts e l i) (cases_Bool (is_member (tail h e) heads))
    where
      go : (stays_dart h after e ≡ true) ⊎ ((is_member e arms ≡ true) ⊎ (is_member (twin e) arms ≡ true)) → (is_member (tail h e) heads ≡ true) ⊎ (is_member (tail h e) heads ≡ false) → IsCounterclockwise (P e) (map E (darts_around m h next before e))
      go (inr (inl n)) q = around-new e l (arm-in e n).1
      go p (inl n) = around-head e l n
      go (inl a) (inr n) = subst (λ (x : List ℕ). IsCounterclockwise (P e) (map E x)) (sym (s.else_same e l a n)) (d.around e l a)
      go (inr (inr j)) (inr n) = absurd (both_ways (is_member (tail h e) heads) n (ap (is_member (tail h e)) s.lead ∙ subst (λ (z : ℕ). is_member (tail h z) (map (λ x. tail h (twin x)) arms) ≡ true) (twin-twin e) (member-map (λ x. tail h (twin x)) arms (twin e) j)))

  all-higher : (e : ℕ) → is_member e contour ≡ true → tail h e ≢ tail h base → tail h e ≢ tail h (twin base) → (P base).1 < (P e).1
  all-higher e n a b = elim (contour-tails m h next previous t base before contour later w heads c r e n) [
    | inl q ↦ subst (λ (u : ℕ). (P base).1 < (at u).1) (sym q) up
    | inr f ↦ subst (λ (u : ℕ). (P base).1 < (at u).1) f.2 (d.higher f.0 f.1 (λ q. a (sym f.2 ∙ q)) (λ q. b (sym f.2 ∙ q)))
  ]

  stacked : IsDrawnUnder m h next base before contour at
  stacked = record {
    goes_right = subst points.IsContour (sym cut.new) (stays_contour v o.first o.last cut.left o.inner cut.right old-contour o.overlooks);
    level = d.level;
    higher = all-higher;
    inside = λ u i. elim (of-before u i) [ inl a ↦ keeps-under 1 (at u) (omega arith) (d.inside u a) | inr e ↦ subst (λ (z : ℕ). IsUnder under 1 (at z)) (sym e) new-under ];
    under = all-under;
    apart = all-apart;
    meet = all-meet;
    around = all-around;
  }

pub stacking_keeps_drawings : StackingKeepsDrawings
stacking_keeps_drawings m h next previous base before after contour later w heads at t c k r s d o up = stacked m h next previous base before after contour later w heads at t c k r s d o up
