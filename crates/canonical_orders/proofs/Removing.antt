-- Where a free vertex is removed from a contour, a contour is left.
use Rattle.std.proofs.Common.{◌≡◌, ◌≢◌, ◌⊎◌, ℕ, ◌*◌, ◌<◌, inl, inr, Bool, true, false, ◌||◌, ◌==◌, List, [], ◌∷◌, ◌++◌, map, refl, sym, ap, ◌∙◌, subst, append-nil, append_assoc}
use Rattle.std.proofs.lemmas.Bool.{both_ways, false_from_ne_true}
use Rattle.std.proofs.lemmas.List.{map-append}
use Rattle.permutations.specs.Members.{is_member, is_distinct}
use Rattle.permutations.specs.Cyclic.{first_or, last_or}
use Rattle.permutations.specs.Exchange.{restricted}
use Rattle.permutations.proofs.Members.{member-head, member-tail, member-cases, member-append_left, member-append_right, member-append_cases, distinct-head, distinct-tail, distinct-append, distinct-append_left, distinct-append_right, distinct-append_apart}
use Rattle.permutations.proofs.Mapped.{member-map, map-member}
use Rattle.dart_maps.specs.Map.{twin, face}
use Rattle.dart_maps.proofs.Darts.{twin-twin, twin-below, twin-one}
use Rattle.multigraph.specs.Graph.{Multigraph}
use Rattle.faces.specs.Euler.{tail}
use Rattle.triangulations.specs.Triangulation.{IsTriangulated}
use Rattle.canonical_orders.specs.Contours.{stays_dart, Successive, IsContour, IsRemoval}
use Rattle.canonical_orders.specs.Free.{on_contour, IsFreeAt}
use Rattle.canonical_orders.specs.Laws.{RemovalKeepsContours}
use Rattle.canonical_orders.proofs.ChordLists.{successive-tail, successive-left, successive-right, successive-join}
use Rattle.canonical_orders.proofs.Lists.{last-cons, last-cut, last-member, ends-with, turn-map, turn-image, turn-before, turn-after, cut-between, member-all}
use Rattle.canonical_orders.proofs.Walks.{restricted-step, restricted-fewer, restricted-over, restricted-after, restricted-two}
use Rattle.triangulations.proofs.SimpleMaps.{face-in, tail-face, no-loop}
use Rattle.canonical_orders.proofs.Triangles.{stays-both, stays-tail, stays-head, stays-twin, third, third-vertex}
use Rattle.canonical_orders.proofs.ContourParts.{contour-dart, same-dart, vertex-dart, leads-to}
use Rattle.canonical_orders.proofs.Arms.{after-before, before-after, not-removed, darts-before, darts-after, gone-from, gone-to, dart-left, lefts, x-on, y-on, front-on, back-on, contour-cases, front-differs, back-differs, x-leads, y-leads, left-follows, x-follows, y-follows, x-only, y-only, arm-leaves, new-leaves, later-tails, arms-distinct, arm-stays, is-arm, is-head}

module _ (m : ℕ) (h : Multigraph) (next previous : ℕ → ℕ) (base : ℕ) (before after : ℕ → Bool) (contour later : List ℕ) (w : ℕ) (heads : List ℕ) (t : IsTriangulated m h next previous) (l : base < 2 * m)
    (c : IsContour m h next base before contour) (free : IsFreeAt m h contour w) (r : IsRemoval h next contour later w heads) (differ : is_distinct heads ≡ true)
    (others : (v : ℕ) → before v ≡ (after v || (v == w))) (absent : after w ≡ false) where
  -- of the darts of w that stay, only x and the twin of y lead to the contour
  only : (d : ℕ) → d < 2 * m → tail h d ≡ w → on_contour h contour (tail h (twin d)) ≡ true → (d ≡ r.x) ⊎ (d ≡ twin r.y)
  only d k e o = elim (free.only d k e o) [
    | inl q ↦ inl (q ∙ x-only m h next previous t base l before contour c later w heads r free.x (ap (is_member free.x) free.cut ∙ member-append_right free.x (free.first ∷ free.front) (free.x ∷ free.y ∷ free.back) (member-head free.x (free.y ∷ free.back))) free.leaves)
    | inr q ↦ inr (q ∙ ap twin (y-only m h next previous t base l before contour c later w heads r free.y
        (ap (is_member free.y) free.cut ∙ member-append_right free.y (free.first ∷ free.front) (free.x ∷ free.y ∷ free.back) (member-tail free.y free.x (free.y ∷ free.back) (member-head free.y free.back)))
        (leads-to m h next previous t base l before contour c (free.first ∷ free.front) free.x (free.y ∷ free.back) free.cut ∙ free.leaves)))
  ]

  -- no dart leads from w to w
  w-loop : (e : ℕ) → is_member e (r.x ∷ r.arms) ≡ true → tail h (twin e) ≢ w
  w-loop e i q = no-loop m h next previous t.map e (arm-leaves m h next previous t base l before contour c later w heads r e i).0 ((arm-leaves m h next previous t base l before contour c later w heads r e i).1 ∙ sym q)

  -- an arm other than x leads to the contour only where it is the twin of y
  arm-on : (e : ℕ) → is_member e r.arms ≡ true → on_contour h contour (tail h (twin e)) ≡ true → e ≡ twin r.y
  arm-on e i o = elim (only e (arm-leaves m h next previous t base l before contour c later w heads r e (member-tail e r.x r.arms i)).0 (arm-leaves m h next previous t base l before contour c later w heads r e (member-tail e r.x r.arms i)).1 o) [
    | inl q ↦ absurd (both_ways (is_member r.x r.arms) (distinct-head r.x r.arms (arms-distinct m h next previous t base l before contour c later w heads r differ)) (subst (λ (z : ℕ). is_member z r.arms ≡ true) q i))
    | inr q ↦ q
  ]

  -- the contour begins with the base
  first-base : r.first ≡ base
  first-base = ap (first_or 0) (sym r.cut ∙ c.begins)

  -- the parts of the contour after the removal: F, then G, then what was after y
  abbrev F : List ℕ
  F = r.first ∷ r.front

  abbrev G : List ℕ
  G = map (face next) r.arms

  -- the left dart is the last of the first part
  left-in : is_member (dart-left m h next previous t base l before contour c later w heads r) F ≡ true
  left-in = last-member r.first r.front

  -- the part before x stays, and what is after y
  front-later : (d : ℕ) → is_member d F ≡ true → is_member d later ≡ true
  front-later d i = ap (is_member d) r.makes ∙ member-append_left d (F ++ G) r.back (member-append_left d F G i)

  back-later : (d : ℕ) → is_member d r.back ≡ true → is_member d later ≡ true
  back-later d i = ap (is_member d) r.makes ∙ member-append_right d (F ++ G) r.back i

  new-later : (e : ℕ) → is_member e r.arms ≡ true → is_member (face next e) later ≡ true
  new-later e i = ap (is_member (face next e)) r.makes ∙ member-append_left (face next e) (F ++ G) r.back (member-append_right (face next e) F G (member-map (face next) r.arms e i))

  -- there is an arm other than x
  some-arm : (e : ℕ) × (s : List ℕ) × (r.arms ≡ e ∷ s)
  some-arm = at r.arms refl
    where
      at : (s : List ℕ) → r.arms ≡ s → (e : ℕ) × (s : List ℕ) × (r.arms ≡ e ∷ s)
      at (e ∷ s) q = (e, s, q)
      at [] q = absurd ((front-differs m h next previous t base l before contour c later w heads r (dart-left m h next previous t base l before contour c later w heads r) left-in).1 (same-dart m h next previous t base l before contour c (dart-left m h next previous t base l before contour c later w heads r) r.y (front-on m h next previous t base l before contour c later w heads r (dart-left m h next previous t base l before contour c later w heads r) left-in) (y-on m h next previous t base l before contour c later w heads r)
          (sym (x-leads m h next previous t base l before contour c later w heads r) ∙ ap (λ (z : ℕ). tail h (twin z)) (ap (last_or r.x) (sym q) ∙ r.ends) ∙ ap (tail h) (twin-twin r.y))))

  -- the last arm is the twin of y
  last-arm : (k : List ℕ) × (r.arms ≡ k ++ twin r.y ∷ [])
  last-arm = let a = some-arm in let k = ends-with a.0 a.1 in
      (k.0, a.2 ∙ k.1 ∙ ap (λ (z : ℕ). k.0 ++ z ∷ []) (sym (last-cons r.x a.0 a.1) ∙ ap (last_or r.x) (sym a.2) ∙ r.ends))

  y-arm : is_member (twin r.y) r.arms ≡ true
  y-arm = ap (is_member (twin r.y)) last-arm.1 ∙ member-append_right (twin r.y) last-arm.0 (twin r.y ∷ []) (member-head (twin r.y) [])

  -- the new dart of the right neighbour
  abbrev g : ℕ
  g = face next (twin r.y)

  g-next : next r.y ≡ g
  g-next = ap next (sym (twin-twin r.y))

  g-leaves : tail h g ≡ tail h r.y
  g-leaves = new-leaves m h next previous t base l before contour c later w heads r (twin r.y) (member-tail (twin r.y) r.x r.arms y-arm) ∙ ap (tail h) (twin-twin r.y)

  -- the new part ends with it
  news : G ≡ map (face next) last-arm.0 ++ g ∷ []
  news = ap (map (face next)) last-arm.1 ∙ map-append (face next) last-arm.0 (twin r.y ∷ [])

  later-cut : later ≡ (F ++ map (face next) last-arm.0) ++ g ∷ r.back
  later-cut = r.makes ∙ ap (λ (s : List ℕ). (F ++ s) ++ r.back) news ∙ ap (λ (s : List ℕ). s ++ r.back) (sym (append_assoc F (map (face next) last-arm.0) (g ∷ [])))
      ∙ cut-between (F ++ map (face next) last-arm.0) g r.back

  -- a dart of the contour other than x and y stays
  old-stays : (d : ℕ) → is_member d contour ≡ true → d ≢ r.x → d ≢ r.y → (d < 2 * m) × (stays_dart h after d ≡ true)
  old-stays d i n k = let s = contour-dart m h next previous t base l before contour c d i in
      (s.0, darts-after h before after w others absent d s.1 (λ e. n (x-only m h next previous t base l before contour c later w heads r d i e)) (λ e. k (y-only m h next previous t base l before contour c later w heads r d i e)))

  front-stays : (d : ℕ) → is_member d F ≡ true → (d < 2 * m) × (stays_dart h after d ≡ true)
  front-stays d i = old-stays d (front-on m h next previous t base l before contour c later w heads r d i) (front-differs m h next previous t base l before contour c later w heads r d i).0 (front-differs m h next previous t base l before contour c later w heads r d i).1

  back-stays : (d : ℕ) → is_member d r.back ≡ true → (d < 2 * m) × (stays_dart h after d ≡ true)
  back-stays d i = old-stays d (back-on m h next previous t base l before contour c later w heads r d i) (back-differs m h next previous t base l before contour c later w heads r d i).0 (back-differs m h next previous t base l before contour c later w heads r d i).1

  -- the new darts stay
  new-stays : (e : ℕ) → is_member e r.arms ≡ true → (face next e < 2 * m) × (stays_dart h after (face next e) ≡ true)
  new-stays e i = let b = turn-before (λ u v. next u ≡ v) r.x r.arms e r.in_turn i in at b.0 b.1 b.2
    where
      j : is_member e (r.x ∷ r.arms) ≡ true
      j = member-tail e r.x r.arms i

      from : after (tail h (face next e)) ≡ true
      from = subst (λ (z : ℕ). after z ≡ true) (sym (new-leaves m h next previous t base l before contour c later w heads r e j)) (before-after h before after w others absent (tail h (twin e)) (stays-head h before e (arm-stays m h next previous t base l before contour c later w heads r differ e j)) (w-loop e j))

      at : (u : ℕ) → is_member u (r.x ∷ r.arms) ≡ true → next u ≡ e → (face next e < 2 * m) × (stays_dart h after (face next e) ≡ true)
      at u k q = (
        face-in m h next previous t.map e (arm-leaves m h next previous t base l before contour c later w heads r e j).0,
        stays-both h after (face next e) from
            (subst (λ (z : ℕ). after z ≡ true) (sym (third-vertex m h next previous t u (arm-leaves m h next previous t base l before contour c later w heads r u k).0) ∙ ap (λ (z : ℕ). tail h (twin (face next z))) q)
            (before-after h before after w others absent (tail h (twin u)) (stays-head h before u (arm-stays m h next previous t base l before contour c later w heads r differ u k)) (w-loop u k))),
      )

  -- a dart of the contour after the removal is old or new
  later-cases : (d : ℕ) → is_member d later ≡ true → (is_member d F ≡ true) ⊎ (((e : ℕ) × (is_member e r.arms ≡ true) × (face next e ≡ d)) ⊎ (is_member d r.back ≡ true))
  later-cases d i = elim (member-append_cases d (F ++ G) r.back (sym (ap (is_member d) r.makes) ∙ i)) [
    | inr b ↦ inr (inr b)
    | inl a ↦ elim (member-append_cases d F G a) [ inl f ↦ inl f | inr n ↦ inr (inl (map-member (face next) r.arms d n)) ]
  ]

  later-stays : (d : ℕ) → is_member d later ≡ true → (d < 2 * m) × (stays_dart h after d ≡ true)
  later-stays d i = elim (later-cases d i) [
    | inl f ↦ front-stays d f
    | inr a ↦ elim a [
      | inl n ↦ subst (λ (z : ℕ). (z < 2 * m) × (stays_dart h after z ≡ true)) n.2 (new-stays n.0 n.1)
      | inr b ↦ back-stays d b
    ]
  ]

  twin-stays : (d : ℕ) → is_member d later ≡ true → (twin d < 2 * m) × (stays_dart h after (twin d) ≡ true)
  twin-stays d i = (twin-below m d (later-stays d i).0, stays-twin h after d (later-stays d i).1)

  -- the contour closes
  closing : tail h (last_or base later) ≡ tail h (twin base)
  closing = ap (tail h) (ap (last_or base) later-cut ∙ last-cut base (F ++ map (face next) last-arm.0) g r.back) ∙ same r.back
      ∙ sym (ap (tail h) (ap (last_or base) (r.cut ∙ sym (cut-between F r.x (r.y ∷ r.back))) ∙ last-cut base (F ++ r.x ∷ []) r.y r.back)) ∙ c.closes
    where
      same : (s : List ℕ) → tail h (last_or g s) ≡ tail h (last_or r.y s)
      same [] = g-leaves
      same (z ∷ s) = ap (tail h) (last-cons g z s ∙ sym (last-cons r.y z s))

  -- its vertices differ
  tails-distinct : is_distinct (map (tail h) later) ≡ true
  tails-distinct = subst (λ (s : List ℕ). is_distinct s ≡ true) (sym (later-tails m h next previous t base l before contour c later w heads r))
      (distinct-append (map (tail h) F ++ H) (map (tail h) r.back) (distinct-append (map (tail h) F) H fronts news-differ front-new) backs others-back)
    where
      H : List ℕ
      H = map (λ e. tail h (twin e)) r.arms

      whole : is_distinct (map (tail h) F ++ map (tail h) (r.x ∷ r.y ∷ r.back)) ≡ true
      whole = subst (λ (s : List ℕ). is_distinct s ≡ true) (ap (map (tail h)) r.cut ∙ map-append (tail h) F (r.x ∷ r.y ∷ r.back)) c.once

      fronts : is_distinct (map (tail h) F) ≡ true
      fronts = distinct-append_left (map (tail h) F) (map (tail h) (r.x ∷ r.y ∷ r.back)) whole

      backs : is_distinct (map (tail h) r.back) ≡ true
      backs = distinct-tail (tail h r.y) (map (tail h) r.back) (distinct-tail (tail h r.x) (map (tail h) (r.y ∷ r.back)) (distinct-append_right (map (tail h) F) (map (tail h) (r.x ∷ r.y ∷ r.back)) whole))

      news-differ : is_distinct H ≡ true
      news-differ = distinct-tail (tail h (twin r.x)) H (subst (λ (s : List ℕ). is_distinct s ≡ true) r.lead differ)

      -- a new vertex that is on the contour is that of y
      new-old : (v : ℕ) → is_member v H ≡ true → (d : ℕ) → is_member d contour ≡ true → tail h d ≡ v → d ≡ r.y
      new-old v i d j q = let e = map-member (λ e. tail h (twin e)) r.arms v i in
          same-dart m h next previous t base l before contour c d r.y j (y-on m h next previous t base l before contour c later w heads r) (q ∙ sym e.2
          ∙ ap (λ (z : ℕ). tail h (twin z)) (arm-on e.0 e.1 (subst (λ (z : ℕ). on_contour h contour z ≡ true) (q ∙ sym e.2) (member-map (tail h) contour d j))) ∙ ap (tail h) (twin-twin r.y))

      front-new : (v : ℕ) → is_member v (map (tail h) F) ≡ true → is_member v H ≡ false
      front-new v i = let d = map-member (tail h) F v i in false_from_ne_true (is_member v H) (λ j. (front-differs m h next previous t base l before contour c later w heads r d.0 d.1).1 (new-old v j d.0 (front-on m h next previous t base l before contour c later w heads r d.0 d.1) d.2))

      others-back : (v : ℕ) → is_member v (map (tail h) F ++ H) ≡ true → is_member v (map (tail h) r.back) ≡ false
      others-back v i = false_from_ne_true (is_member v (map (tail h) r.back)) (λ j. elim (member-append_cases v (map (tail h) F) H i) [
        | inl f ↦ both_ways (is_member v (map (tail h) (r.x ∷ r.y ∷ r.back))) (distinct-append_apart (map (tail h) F) (map (tail h) (r.x ∷ r.y ∷ r.back)) whole v f)
            (member-tail v (tail h r.x) (map (tail h) (r.y ∷ r.back)) (member-tail v (tail h r.y) (map (tail h) r.back) j))
        | inr n ↦ let d = map-member (tail h) r.back v j in (back-differs m h next previous t base l before contour c later w heads r d.0 d.1).1 (new-old v n d.0 (back-on m h next previous t base l before contour c later w heads r d.0 d.1) d.2)
      ])

  -- the relation of darts in turn on a contour, before and after
  abbrev Before : ℕ → ℕ → Type 0
  Before u v = restricted (2 * m) (stays_dart h before) next (twin v) ≡ u

  abbrev After : ℕ → ℕ → Type 0
  After u v = restricted (2 * m) (stays_dart h after) next (twin v) ≡ u

  -- between old darts nothing changes
  old-turn : (u v : ℕ) → is_member u later ≡ true → is_member v later ≡ true → Before u v → After u v
  old-turn u v i j q = restricted-fewer (2 * m) next previous t.map.drawn.map (stays_dart h before) (stays_dart h after) (darts-before h before after w others absent)
      (twin v) u (twin-stays v j).0 (twin-stays v j).1 (later-stays u i).1 q

  -- from one new dart to the next
  new-turn : (u v : ℕ) → is_member u r.arms ≡ true → is_member v r.arms ≡ true → next u ≡ v → After (face next u) (face next v)
  new-turn u v i j q = restricted-two (2 * m) next previous t.map.drawn.map (stays_dart h before) (stays_dart h after) (darts-before h before after w others absent)
      (twin (face next v)) (twin u) (face next u) (twin-stays (face next v) (new-later v j)).0 (twin-stays (face next v) (new-later v j)).1
      (stays-twin h before u (arm-stays m h next previous t base l before contour c later w heads r differ u k)) (gone-to h before after w others absent (twin u) (ap (tail h) (twin-twin u) ∙ (arm-leaves m h next previous t base l before contour c later w heads r u k).1)) (new-stays u i).1
      (ap (λ (z : ℕ). face next (face next z)) (sym q) ∙ third m h next previous t u (arm-leaves m h next previous t base l before contour c later w heads r u k).0) refl
    where
      k : is_member u (r.x ∷ r.arms) ≡ true
      k = member-tail u r.x r.arms i

  -- from the left dart to the first new one
  left-turn : (e : ℕ) → is_member e r.arms ≡ true → next r.x ≡ e → After (dart-left m h next previous t base l before contour c later w heads r) (face next e)
  left-turn e i q = restricted-after (2 * m) next previous t.map.drawn.map (stays_dart h before) (stays_dart h after) (darts-before h before after w others absent)
      (twin (face next e)) (twin r.x) (dart-left m h next previous t base l before contour c later w heads r) (twin-stays (face next e) (new-later e i)).0 (twin-below m r.x s.0) (twin-stays (face next e) (new-later e i)).1
      (stays-twin h before r.x s.1) (gone-to h before after w others absent (twin r.x) (ap (tail h) (twin-twin r.x) ∙ r.leaves)) (front-stays (dart-left m h next previous t base l before contour c later w heads r) left-in).1
      (ap (λ (z : ℕ). face next (face next z)) (sym q) ∙ third m h next previous t r.x s.0) (left-follows m h next previous t base l before contour c later w heads r)
    where
      s : (r.x < 2 * m) × (stays_dart h before r.x ≡ true)
      s = contour-dart m h next previous t base l before contour c r.x (x-on m h next previous t base l before contour c later w heads r)

  -- the dart after y is on the contour
  after-later : (s : List ℕ) → r.back ≡ s → is_member (first_or base s) later ≡ true
  after-later [] e = front-later base (subst (λ (z : ℕ). is_member z F ≡ true) first-base (member-head r.first r.front))
  after-later (z ∷ s) e = back-later z (ap (is_member z) e ∙ member-head z s)

  -- from the last new dart to the one after y, or to the base
  right-turn : After g (first_or base r.back)
  right-turn = restricted-over (2 * m) next previous t.map.drawn.map (stays_dart h before) (stays_dart h after) (darts-before h before after w others absent)
      (twin (first_or base r.back)) r.y g (twin-stays (first_or base r.back) (after-later r.back refl)).0 (twin-stays (first_or base r.back) (after-later r.back refl)).1
      (gone-to h before after w others absent r.y (y-leads m h next previous t base l before contour c later w heads r)) (new-stays (twin r.y) y-arm).1 (y-follows m h next previous t base l before contour c later w heads r) g-next

  -- the darts of the contour are in turn
  front-turns : Successive After F
  front-turns = turn-map Before After F (λ u v i j q. old-turn u v (front-later u i) (front-later v j) q) (successive-left Before F (r.x ∷ r.y ∷ r.back) (subst (Successive Before) r.cut c.along))

  back-turns : Successive After r.back
  back-turns = turn-map Before After r.back (λ u v i j q. old-turn u v (back-later u i) (back-later v j) q)
      (successive-tail Before r.y r.back (successive-tail Before r.x (r.y ∷ r.back) (successive-right Before F (r.x ∷ r.y ∷ r.back) (subst (Successive Before) r.cut c.along))))

  new-turns : Successive After G
  new-turns = turn-image (λ u v. next u ≡ v) After (face next) r.arms new-turn (successive-tail (λ u v. next u ≡ v) r.x r.arms r.in_turn)

  turns : Successive After later
  turns = subst (Successive After) (sym r.makes) (with-back r.back back-turns right-turn)
    where
      with-new : (e : ℕ) (s : List ℕ) → r.arms ≡ e ∷ s → Successive After (F ++ G)
      with-new e s q = subst (λ (f : List ℕ). Successive After (f ++ G)) (sym (lefts m h next previous t base l before contour c later w heads r).1) (subst (λ (a : List ℕ). Successive After (((lefts m h next previous t base l before contour c later w heads r).0 ++ dart-left m h next previous t base l before contour c later w heads r ∷ []) ++ map (face next) a)) (sym q)
          (successive-join After (lefts m h next previous t base l before contour c later w heads r).0 (dart-left m h next previous t base l before contour c later w heads r) (face next e) (map (face next) s) (subst (Successive After) (lefts m h next previous t base l before contour c later w heads r).1 front-turns)
          (left-turn e (ap (is_member e) q ∙ member-head e s) (subst (Successive (λ u v. next u ≡ v)) (ap (λ (a : List ℕ). r.x ∷ a) q) r.in_turn).0)
          (subst (λ (a : List ℕ). Successive After (map (face next) a)) q new-turns)))

      joined : Successive After (F ++ G)
      joined = with-new some-arm.0 some-arm.1 some-arm.2

      shape : F ++ G ≡ (F ++ map (face next) last-arm.0) ++ g ∷ []
      shape = ap (λ (s : List ℕ). F ++ s) news ∙ sym (append_assoc F (map (face next) last-arm.0) (g ∷ []))

      with-back : (s : List ℕ) → Successive After s → After g (first_or base s) → Successive After ((F ++ G) ++ s)
      with-back [] b q = subst (Successive After) (sym (append-nil (F ++ G))) joined
      with-back (z ∷ s) b q = subst (λ (a : List ℕ). Successive After (a ++ z ∷ s)) (sym shape)
          (successive-join After (F ++ map (face next) last-arm.0) g z s (subst (Successive After) shape joined) q b)

  -- and the last one is followed by the base
  around-base : restricted (2 * m) (stays_dart h after) next (twin base) ≡ last_or base later
  around-base = at r.back refl ∙ sym (ap (last_or base) later-cut ∙ last-cut base (F ++ map (face next) last-arm.0) g r.back)
    where
      base-later : is_member base later ≡ true
      base-later = front-later base (subst (λ (z : ℕ). is_member z F ≡ true) first-base (member-head r.first r.front))

      at : (s : List ℕ) → r.back ≡ s → restricted (2 * m) (stays_dart h after) next (twin base) ≡ last_or g r.back
      at [] e = subst (λ (s : List ℕ). restricted (2 * m) (stays_dart h after) next (twin (first_or base s)) ≡ g) e right-turn ∙ sym (ap (last_or g) e)
      at (z ∷ s) e = old-turn (last_or g r.back) base (back-later (last_or g r.back) (subst (λ (v : List ℕ). is_member (last_or g v) v ≡ true) (sym e) (subst (λ (u : ℕ). is_member u (z ∷ s) ≡ true) (sym (last-cons g z s)) (last-member z s)))) base-later
          (c.around ∙ ap (last_or base) (r.cut ∙ sym (cut-between F r.x (r.y ∷ r.back))) ∙ last-cut base (F ++ r.x ∷ []) r.y r.back ∙ ap (last_or r.y) e ∙ last-cons r.y z s ∙ sym (last-cons g z s) ∙ sym (ap (last_or g) e))

  -- a dart that stays and is not on the contour after the removal was not on it before
  off-before : (d : ℕ) → stays_dart h after d ≡ true → is_member d later ≡ false → is_member d contour ≡ false
  off-before d s n = false_from_ne_true (is_member d contour) (λ i. elim (contour-cases m h next previous t base l before contour c later w heads r d i) [
    | inl f ↦ both_ways (is_member d later) n (front-later d f)
    | inr a ↦ elim a [
      | inl e ↦ both_ways (stays_dart h after d) (gone-from h before after w others absent d (ap (tail h) e ∙ r.leaves)) s
      | inr b ↦ elim b [
        | inl e ↦ both_ways (stays_dart h after d) (gone-to h before after w others absent d (ap (λ (z : ℕ). tail h (twin z)) e ∙ y-leads m h next previous t base l before contour c later w heads r)) s
        | inr k ↦ both_ways (is_member d later) n (back-later d k)
      ]
    ]
  ])

  -- its triangle doesn't have w
  not-at : (d : ℕ) → d < 2 * m → stays_dart h after d ≡ true → is_member d later ≡ false → stays_dart h before (face next d) ≡ true → tail h (twin (face next d)) ≢ w
  not-at d k s n f q = elim (turn-after (λ u v. next u ≡ v) r.x r.arms (twin (face next d)) r.in_turn arm) [
    | inl e ↦ last (twin-one (face next d) r.y (e ∙ r.ends))
    | inr e ↦ both_ways (is_member d later) n (subst (λ (z : ℕ). is_member z later ≡ true) (ap (face next) (sym e.2) ∙ t.triangles d k) (new-later e.0 e.1))
  ]
    where
      arm : is_member (twin (face next d)) (r.x ∷ r.arms) ≡ true
      arm = is-arm m h next previous t base l before contour c later w heads r differ (twin (face next d)) (twin-below m (face next d) (face-in m h next previous t.map d k)) q (stays-twin h before (face next d) f)

      b : stays_dart h before d ≡ true
      b = darts-before h before after w others absent d s

      last : face next d ≡ r.y → ⊥
      last e = both_ways (is_member d contour) (off-before d s n) (subst (λ (z : ℕ). is_member z contour ≡ true) (sym left) (front-on m h next previous t base l before contour c later w heads r (dart-left m h next previous t base l before contour c later w heads r) left-in))
        where
          y : (r.y < 2 * m) × (stays_dart h before r.y ≡ true)
          y = contour-dart m h next previous t base l before contour c r.y (y-on m h next previous t base l before contour c later w heads r)

          x : (r.x < 2 * m) × (stays_dart h before r.x ≡ true)
          x = contour-dart m h next previous t base l before contour c r.x (x-on m h next previous t base l before contour c later w heads r)

          back : face next (face next r.y) ≡ d
          back = ap (λ (z : ℕ). face next (face next z)) (sym e) ∙ t.triangles d k

          stays : stays_dart h before (face next r.y) ≡ true
          stays = stays-both h before (face next r.y) (subst (λ (z : ℕ). before z ≡ true) (sym (tail-face m h next previous t.map r.y y.0)) (stays-head h before r.y y.1))
              (subst (λ (z : ℕ). before z ≡ true) (ap (tail h) (sym back) ∙ tail-face m h next previous t.map (face next r.y) (face-in m h next previous t.map r.y y.0)) (stays-tail h before d b))

          to-x : face next r.y ≡ r.x
          to-x = sym (restricted-step (2 * m) (stays_dart h before) next previous t.map.drawn.map (twin r.y) (face next r.y) (twin-below m r.y y.0) (stays-twin h before r.y y.1) stays refl) ∙ x-follows m h next previous t base l before contour c later w heads r

          left : d ≡ dart-left m h next previous t base l before contour c later w heads r
          left = sym (restricted-step (2 * m) (stays_dart h before) next previous t.map.drawn.map (twin r.x) d (twin-below m r.x x.0) (stays-twin h before r.x x.1) b (ap (face next) (sym to-x) ∙ back)) ∙ left-follows m h next previous t base l before contour c later w heads r

  -- all darts that stay and are not on the contour lie on triangles that stay
  triangles-stay : (d : ℕ) → d < 2 * m → stays_dart h after d ≡ true → is_member d later ≡ false → stays_dart h after (face next d) ≡ true
  triangles-stay d k s n = darts-after h before after w others absent (face next d) f
      (λ e. not-removed h before after w others absent (tail h (twin d)) (stays-head h after d s) (sym (tail-face m h next previous t.map d k) ∙ e)) (not-at d k s n f)
    where
      f : stays_dart h before (face next d) ≡ true
      f = c.faces d k (darts-before h before after w others absent d s) (off-before d s n)

  -- a vertex that is not on the contour has all its neighbours
  inner-stays : (d : ℕ) → d < 2 * m → after (tail h d) ≡ true → is_member (tail h d) (map (tail h) later) ≡ false → stays_dart h after d ≡ true
  inner-stays d k s n = darts-after h before after w others absent d b (not-removed h before after w others absent (tail h d) s) away
    where
      off : (z : ℕ) → is_member z later ≡ true → tail h z ≢ tail h d
      off z i e = both_ways (is_member (tail h d) (map (tail h) later)) n (subst (λ (v : ℕ). is_member v (map (tail h) later) ≡ true) e (member-map (tail h) later z i))

      outside : is_member (tail h d) (map (tail h) contour) ≡ false
      outside = false_from_ne_true (is_member (tail h d) (map (tail h) contour)) (λ i. let z = vertex-dart m h next previous t base l before contour c (tail h d) i in elim (contour-cases m h next previous t base l before contour c later w heads r z.0 z.1) [
        | inl f ↦ off z.0 (front-later z.0 f) z.2
        | inr a ↦ elim a [
          | inl e ↦ not-removed h before after w others absent (tail h d) s (sym z.2 ∙ ap (tail h) e ∙ r.leaves)
          | inr j ↦ elim j [
            | inl e ↦ off g (new-later (twin r.y) y-arm) (g-leaves ∙ ap (tail h) (sym e) ∙ z.2)
            | inr f ↦ off z.0 (back-later z.0 f) z.2
          ]
        ]
      ])

      b : stays_dart h before d ≡ true
      b = c.inner d k (after-before h before after w others absent (tail h d) s) outside

      away : tail h (twin d) ≢ w
      away e = let u = map-member (λ z. tail h (twin z)) (r.x ∷ r.arms) (tail h d) (subst (λ (v : List ℕ). is_member (tail h d) v ≡ true) r.lead (is-head m h next previous t base l before contour c later w heads r differ d k e b)) in elim (member-cases u.0 r.x r.arms u.1) [
        | inl q ↦ off (dart-left m h next previous t base l before contour c later w heads r) (front-later (dart-left m h next previous t base l before contour c later w heads r) left-in) (sym (x-leads m h next previous t base l before contour c later w heads r) ∙ ap (λ (z : ℕ). tail h (twin z)) q ∙ u.2)
        | inr i ↦ off (face next u.0) (new-later u.0 i) (new-leaves m h next previous t base l before contour c later w heads r u.0 u.1 ∙ u.2)
      ]

-- where a free vertex of a contour is removed, a contour is left
pub removal-keeps : RemovalKeepsContours
removal-keeps m h next previous base before after contour later w heads t l c free r differ others absent = record {
  rest = (r.front ++ map (face next) r.arms) ++ r.back;
  begins = r.makes ∙ ap (λ (z : ℕ). z ∷ ((r.front ++ map (face next) r.arms) ++ r.back)) (first-base m h next previous base before after contour later w heads t l c free r differ others absent);
  closes = closing m h next previous base before after contour later w heads t l c free r differ others absent;
  darts = member-all (λ d. (d < 2 * m) × (stays_dart h after d ≡ true)) later (later-stays m h next previous base before after contour later w heads t l c free r differ others absent);
  once = tails-distinct m h next previous base before after contour later w heads t l c free r differ others absent;
  along = turns m h next previous base before after contour later w heads t l c free r differ others absent;
  around = around-base m h next previous base before after contour later w heads t l c free r differ others absent;
  faces = triangles-stay m h next previous base before after contour later w heads t l c free r differ others absent;
  inner = inner-stays m h next previous base before after contour later w heads t l c free r differ others absent;
}
