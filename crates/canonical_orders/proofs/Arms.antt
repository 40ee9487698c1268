-- A removal: its arms are the darts of the removed vertex that stay, and what stays without the vertex.
use Rattle.std.proofs.Common.{◌≡◌, ◌≢◌, ◌⊎◌, ℕ, ◌*◌, ◌<◌, inl, inr, Bool, true, false, ◌||◌, ◌==◌, List, [], ◌∷◌, ◌++◌, map, sym, ap, ◌∙◌, subst, arith}
use Rattle.std.proofs.lemmas.Bool.{both_ways, false_from_ne_true, or_cases, eqb-true}
use Rattle.std.proofs.lemmas.List.{map-append}
use Rattle.permutations.specs.Members.{is_member, is_distinct}
use Rattle.permutations.specs.Cyclic.{first_or, last_or}
use Rattle.permutations.specs.Exchange.{restricted}
use Rattle.permutations.specs.Ring.{ring}
use Rattle.permutations.proofs.Members.{member-head, member-tail, member-cases, member-append_left, member-append_right, member-append_cases, distinct-head, distinct-tail, distinct-append_left, distinct-append_right, distinct-append_apart}
use Rattle.permutations.proofs.Mapped.{member-map}
use Rattle.permutations.proofs.Filter.{filter-member}
use Rattle.permutations.proofs.Rings.{ring-member}
use Rattle.dart_maps.specs.Map.{twin, face}
use Rattle.dart_maps.proofs.Darts.{twin-twin, twin-below}
use Rattle.multigraph.specs.Graph.{Multigraph}
use Rattle.faces.specs.Euler.{tail}
use Rattle.triangulations.specs.Triangulation.{IsTriangulated}
use Rattle.canonical_orders.specs.Contours.{stays_dart, darts_around, IsContour, IsRemoval}
use Rattle.canonical_orders.proofs.Lists.{ends-with, image-distinct, map-through, turn-backward, turn-forward, cut-between}
use Rattle.canonical_orders.proofs.Walks.{passing-is}
use Rattle.triangulations.proofs.SimpleMaps.{next-in, tail-next, tail-face, one-vertex}
use Rattle.canonical_orders.proofs.Triangles.{stays-both, stays-tail, stays-head, stays-twin, third-vertex}
use Rattle.canonical_orders.proofs.ContourParts.{contour-dart, same-dart, contour-distinct, goes-to, leads-to, leads-once}

-- the vertices that stay before and after w is removed
module _ (h : Multigraph) (before after : ℕ → Bool) (w : ℕ) (others : (v : ℕ) → before v ≡ (after v || (v == w))) (absent : after w ≡ false) where
  -- a vertex that stays after stays before
  pub after-before : (v : ℕ) → after v ≡ true → before v ≡ true
  after-before v a = grind (arith, others v)

  -- a vertex that stays before and is not w stays after
  pub before-after : (v : ℕ) → before v ≡ true → v ≢ w → after v ≡ true
  before-after v b n = elim (or_cases (after v) (v == w) (sym (others v) ∙ b)) [ inl a ↦ a | inr e ↦ absurd (n (eqb-true v w e)) ]

  -- a vertex that stays after is not w
  pub not-removed : (v : ℕ) → after v ≡ true → v ≢ w
  not-removed v a e = both_ways (after v) (ap after e ∙ absent) a

  -- darts that stay after stay before
  pub darts-before : (d : ℕ) → stays_dart h after d ≡ true → stays_dart h before d ≡ true
  darts-before d s = stays-both h before d (after-before (tail h d) (stays-tail h after d s)) (after-before (tail h (twin d)) (stays-head h after d s))

  -- darts that stay before and have not w at an end stay after
  pub darts-after : (d : ℕ) → stays_dart h before d ≡ true → tail h d ≢ w → tail h (twin d) ≢ w → stays_dart h after d ≡ true
  darts-after d s n k = stays-both h after d (before-after (tail h d) (stays-tail h before d s) n) (before-after (tail h (twin d)) (stays-head h before d s) k)

  -- darts from w are gone
  pub gone-from : (d : ℕ) → tail h d ≡ w → stays_dart h after d ≡ false
  gone-from d e = false_from_ne_true (stays_dart h after d) (λ s. not-removed (tail h d) (stays-tail h after d s) e)

  -- and darts to w
  pub gone-to : (d : ℕ) → tail h (twin d) ≡ w → stays_dart h after d ≡ false
  gone-to d e = false_from_ne_true (stays_dart h after d) (λ s. not-removed (tail h (twin d)) (stays-head h after d s) e)

module _ (m : ℕ) (h : Multigraph) (next previous : ℕ → ℕ) (t : IsTriangulated m h next previous) (base : ℕ) (l : base < 2 * m) (before : ℕ → Bool) (contour : List ℕ) (c : IsContour m h next base before contour)
    (later : List ℕ) (w : ℕ) (heads : List ℕ) (r : IsRemoval h next contour later w heads) where
  -- the dart before x on the contour, and those before it
  abbrev pub dart-left : ℕ
  dart-left = last_or r.first r.front

  pub lefts : (k : List ℕ) × (r.first ∷ r.front ≡ k ++ dart-left ∷ [])
  lefts = ends-with r.first r.front

  -- the contour, cut before this dart
  pub cut-left : contour ≡ lefts.0 ++ dart-left ∷ r.x ∷ r.y ∷ r.back
  unfolding lefts
  cut-left = r.cut ∙ ap (λ (a : List ℕ). a ++ r.x ∷ r.y ∷ r.back) lefts.1 ∙ cut-between lefts.0 dart-left (r.x ∷ r.y ∷ r.back)

  -- and before y
  pub cut-right : contour ≡ ((r.first ∷ r.front) ++ r.x ∷ []) ++ r.y ∷ r.back
  cut-right = r.cut ∙ sym (cut-between (r.first ∷ r.front) r.x (r.y ∷ r.back))

  -- these are darts of the contour
  pub left-on : is_member dart-left contour ≡ true
  left-on = ap (is_member dart-left) cut-left ∙ member-append_right dart-left lefts.0 (dart-left ∷ r.x ∷ r.y ∷ r.back) (member-head dart-left (r.x ∷ r.y ∷ r.back))

  pub x-on : is_member r.x contour ≡ true
  x-on = ap (is_member r.x) r.cut ∙ member-append_right r.x (r.first ∷ r.front) (r.x ∷ r.y ∷ r.back) (member-head r.x (r.y ∷ r.back))

  pub y-on : is_member r.y contour ≡ true
  y-on = ap (is_member r.y) cut-right ∙ member-append_right r.y ((r.first ∷ r.front) ++ r.x ∷ []) (r.y ∷ r.back) (member-head r.y r.back)

  pub front-on : (d : ℕ) → is_member d (r.first ∷ r.front) ≡ true → is_member d contour ≡ true
  front-on d i = ap (is_member d) r.cut ∙ member-append_left d (r.first ∷ r.front) (r.x ∷ r.y ∷ r.back) i

  pub back-on : (d : ℕ) → is_member d r.back ≡ true → is_member d contour ≡ true
  back-on d i = ap (is_member d) cut-right ∙ member-append_right d ((r.first ∷ r.front) ++ r.x ∷ []) (r.y ∷ r.back) (member-tail d r.y r.back i)

  -- a dart of the contour is before x, is x, is y or is after y
  pub contour-cases : (d : ℕ) → is_member d contour ≡ true → (is_member d (r.first ∷ r.front) ≡ true) ⊎ ((d ≡ r.x) ⊎ ((d ≡ r.y) ⊎ (is_member d r.back ≡ true)))
  contour-cases d i = elim (member-append_cases d (r.first ∷ r.front) (r.x ∷ r.y ∷ r.back) (sym (ap (is_member d) r.cut) ∙ i)) [
    | inl a ↦ inl a
    | inr a ↦ elim (member-cases d r.x (r.y ∷ r.back) a) [
      | inl e ↦ inr (inl (sym e))
      | inr b ↦ elim (member-cases d r.y r.back b) [ inl e ↦ inr (inr (inl (sym e))) | inr k ↦ inr (inr (inr k)) ]
    ]
  ]

  -- x is none of the others, and nor is y
  pub front-differs : (d : ℕ) → is_member d (r.first ∷ r.front) ≡ true → (d ≢ r.x) × (d ≢ r.y)
  front-differs d i = (
    λ e. no (subst (λ (z : ℕ). is_member z (r.x ∷ r.y ∷ r.back) ≡ true) (sym e) (member-head r.x (r.y ∷ r.back))),
    λ e. no (subst (λ (z : ℕ). is_member z (r.x ∷ r.y ∷ r.back) ≡ true) (sym e) (member-tail r.y r.x (r.y ∷ r.back) (member-head r.y r.back))),
  )
    where
      no : is_member d (r.x ∷ r.y ∷ r.back) ≡ true → ⊥
      no k = both_ways (is_member d (r.x ∷ r.y ∷ r.back)) (distinct-append_apart (r.first ∷ r.front) (r.x ∷ r.y ∷ r.back)
          (subst (λ (s : List ℕ). is_distinct s ≡ true) r.cut (contour-distinct m h next previous t base l before contour c)) d i) k

  pub back-differs : (d : ℕ) → is_member d r.back ≡ true → (d ≢ r.x) × (d ≢ r.y)
  back-differs d i = (
    λ e. both_ways (is_member r.x (r.y ∷ r.back)) (distinct-head r.x (r.y ∷ r.back) apart) (subst (λ (z : ℕ). is_member z (r.y ∷ r.back) ≡ true) e (member-tail d r.y r.back i)),
    λ e. both_ways (is_member r.y r.back) (distinct-head r.y r.back (distinct-tail r.x (r.y ∷ r.back) apart)) (subst (λ (z : ℕ). is_member z r.back ≡ true) e i),
  )
    where
      apart : is_distinct (r.x ∷ r.y ∷ r.back) ≡ true
      apart = distinct-append_right (r.first ∷ r.front) (r.x ∷ r.y ∷ r.back) (subst (λ (s : List ℕ). is_distinct s ≡ true) r.cut (contour-distinct m h next previous t base l before contour c))

  -- x leads to the left neighbour, and y to the removed vertex
  pub x-leads : tail h (twin r.x) ≡ tail h dart-left
  unfolding lefts
  x-leads = leads-to m h next previous t base l before contour c lefts.0 dart-left (r.x ∷ r.y ∷ r.back) cut-left

  pub y-leads : tail h (twin r.y) ≡ w
  y-leads = leads-to m h next previous t base l before contour c (r.first ∷ r.front) r.x (r.y ∷ r.back) r.cut ∙ r.leaves

  -- the dart before x follows the twin of x, x follows the twin of y, and y the twin of the dart after y
  pub left-follows : restricted (2 * m) (stays_dart h before) next (twin r.x) ≡ dart-left
  unfolding lefts
  left-follows = goes-to m h next previous t base l before contour c lefts.0 dart-left (r.x ∷ r.y ∷ r.back) cut-left

  pub x-follows : restricted (2 * m) (stays_dart h before) next (twin r.y) ≡ r.x
  x-follows = goes-to m h next previous t base l before contour c (r.first ∷ r.front) r.x (r.y ∷ r.back) r.cut

  pub y-follows : restricted (2 * m) (stays_dart h before) next (twin (first_or base r.back)) ≡ r.y
  y-follows = goes-to m h next previous t base l before contour c ((r.first ∷ r.front) ++ r.x ∷ []) r.y r.back cut-right

  -- a dart of the contour that leaves w is x, and one that leads there is y
  pub x-only : (d : ℕ) → is_member d contour ≡ true → tail h d ≡ w → d ≡ r.x
  x-only d i e = same-dart m h next previous t base l before contour c d r.x i x-on (e ∙ sym r.leaves)

  pub y-only : (d : ℕ) → is_member d contour ≡ true → tail h (twin d) ≡ w → d ≡ r.y
  y-only d i e = leads-once m h next previous t base l before contour c (r.first ∷ r.front) r.x (r.y ∷ r.back) r.cut d i (e ∙ sym r.leaves)

  -- the arms leave w
  pub arm-leaves : (e : ℕ) → is_member e (r.x ∷ r.arms) ≡ true → (e < 2 * m) × (tail h e ≡ w)
  arm-leaves = turn-forward (λ u v. next u ≡ v) (λ e. (e < 2 * m) × (tail h e ≡ w)) r.x r.arms r.in_turn ((contour-dart m h next previous t base l before contour c r.x x-on).0, r.leaves)
      (λ u v q p. (subst (λ (z : ℕ). z < 2 * m) q (next-in m h next previous t.map u p.0), ap (tail h) (sym q) ∙ tail-next m h next previous t.map u p.0 ∙ p.1))

  -- the dart of the new contour for an arm leaves the vertex where the arm leads
  pub new-leaves : (e : ℕ) → is_member e (r.x ∷ r.arms) ≡ true → tail h (face next e) ≡ tail h (twin e)
  new-leaves e i = tail-face m h next previous t.map e (arm-leaves e i).0

  -- the vertices of the contour after the removal
  pub later-tails : map (tail h) later ≡ (map (tail h) (r.first ∷ r.front) ++ map (λ e. tail h (twin e)) r.arms) ++ map (tail h) r.back
  later-tails = ap (map (tail h)) r.makes ∙ map-append (tail h) ((r.first ∷ r.front) ++ map (face next) r.arms) r.back
      ∙ ap (λ (s : List ℕ). s ++ map (tail h) r.back) (map-append (tail h) (r.first ∷ r.front) (map (face next) r.arms)
      ∙ ap (λ (s : List ℕ). map (tail h) (r.first ∷ r.front) ++ s) (map-through (tail h) (face next) (λ e. tail h (twin e)) r.arms (λ e i. new-leaves e (member-tail e r.x r.arms i))))

  -- if this is a contour, the heads differ
  pub heads-distinct : is_distinct (map (tail h) later) ≡ true → is_distinct heads ≡ true
  unfolding lefts
  heads-distinct d = subst (λ (s : List ℕ). is_distinct s ≡ true) (ap (λ (z : ℕ). z ∷ H) (sym x-leads) ∙ sym r.lead)
      (distinct-append_right (map (tail h) lefts.0) (tail h dart-left ∷ H) (subst (λ (s : List ℕ). is_distinct s ≡ true) shape
      (distinct-append_left (map (tail h) (r.first ∷ r.front) ++ H) (map (tail h) r.back) (subst (λ (s : List ℕ). is_distinct s ≡ true) later-tails d))))
    where
      H : List ℕ
      H = map (λ e. tail h (twin e)) r.arms

      shape : map (tail h) (r.first ∷ r.front) ++ H ≡ map (tail h) lefts.0 ++ tail h dart-left ∷ H
      shape = ap (λ (s : List ℕ). s ++ H) (ap (map (tail h)) lefts.1 ∙ map-append (tail h) lefts.0 (dart-left ∷ [])) ∙ cut-between (map (tail h) lefts.0) (tail h dart-left) H

  module _ (d : is_distinct heads ≡ true) where
    -- no arm comes twice
    pub arms-distinct : is_distinct (r.x ∷ r.arms) ≡ true
    arms-distinct = image-distinct (λ e. tail h (twin e)) (r.x ∷ r.arms) (subst (λ (s : List ℕ). is_distinct s ≡ true) r.lead d)

    -- an arm other than x is not on the contour
    pub arm-off : (e : ℕ) → is_member e r.arms ≡ true → is_member e contour ≡ false
    arm-off e i = false_from_ne_true (is_member e contour) (λ k. both_ways (is_member r.x r.arms) (distinct-head r.x r.arms arms-distinct)
        (subst (λ (z : ℕ). is_member z r.arms ≡ true) (x-only e k (arm-leaves e (member-tail e r.x r.arms i)).1) i))

    -- the arms stay before the removal
    pub arm-stays : (e : ℕ) → is_member e (r.x ∷ r.arms) ≡ true → stays_dart h before e ≡ true
    arm-stays = turn-backward (λ u v. next u ≡ v) (λ e. stays_dart h before e ≡ true) r.x r.arms r.in_turn
        (subst (λ (z : ℕ). stays_dart h before z ≡ true) (sym r.ends) (stays-twin h before r.y (contour-dart m h next previous t base l before contour c r.y y-on).1)) step
      where
        kept : before w ≡ true
        kept = ap before (sym r.leaves) ∙ stays-tail h before r.x (contour-dart m h next previous t base l before contour c r.x x-on).1

        step : (u v : ℕ) → is_member u (r.x ∷ r.arms) ≡ true → is_member v r.arms ≡ true → next u ≡ v → stays_dart h before v ≡ true → stays_dart h before u ≡ true
        step u v i j q s = stays-both h before u (ap before (arm-leaves u i).1 ∙ kept)
            (subst (λ (z : ℕ). before z ≡ true) (third-vertex m h next previous t u (arm-leaves u i).0)
            (stays-head h before (face next (next u)) (subst (λ (z : ℕ). stays_dart h before (face next z) ≡ true) (sym q)
            (c.faces v (arm-leaves v (member-tail v r.x r.arms j)).0 s (arm-off v j)))))

    -- the arms are the darts around w that stay
    pub own-arms : darts_around m h next before r.x ≡ r.x ∷ r.arms
    own-arms = let w = contour-dart m h next previous t base l before contour c r.x x-on in
        passing-is (2 * m) (stays_dart h before) next previous t.map.drawn.map r.x w.0 w.1 r.arms arms-distinct r.in_turn (λ e i. ((arm-leaves e i).0, arm-stays e i))
        (ap (restricted (2 * m) (stays_dart h before) next) r.ends ∙ x-follows)

    -- a dart from w that stays is an arm
    pub is-arm : (e : ℕ) → e < 2 * m → tail h e ≡ w → stays_dart h before e ≡ true → is_member e (r.x ∷ r.arms) ≡ true
    is-arm e k q s = let w = contour-dart m h next previous t base l before contour c r.x x-on in
        subst (λ (v : List ℕ). is_member e v ≡ true) own-arms (filter-member (stays_dart h before) (ring (2 * m) next r.x) e
        (ring-member (2 * m) next previous t.map.drawn.map r.x w.0 e ∙ one-vertex m h next previous t.map r.x e w.0 k (r.leaves ∙ sym q)) s)

    -- a vertex with a dart to w that stays is one of the heads
    pub is-head : (e : ℕ) → e < 2 * m → tail h (twin e) ≡ w → stays_dart h before e ≡ true → is_member (tail h e) heads ≡ true
    is-head e k q s = subst (λ (v : List ℕ). is_member (tail h e) v ≡ true) (sym r.lead)
        (subst (λ (z : ℕ). is_member z (map (λ u. tail h (twin u)) (r.x ∷ r.arms)) ≡ true) (ap (tail h) (twin-twin e))
        (member-map (λ u. tail h (twin u)) (r.x ∷ r.arms) (twin e) (is-arm (twin e) (twin-below m e k) q (stays-twin h before e s))))
