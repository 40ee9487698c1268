-- A free vertex is taken off the contour that the arrays keep.
use Rattle.std.proofs.Common.{◌≡◌, ◌≢◌, ℕ, zero, suc, ◌+◌, ◌-◌, ◌*◌, ◌<◌, inl, inr, Bool, true, false, not, ◌&&◌, ◌||◌, ◌==◌, List, [], ◌∷◌, ◌++◌, length, map, slice_index, slice_index_or, refl, sym, ap, ◌∙◌, subst, arith}
use Rattle.std.proofs.lemmas.Bool.{cases_Bool, cases_eq, cases_lt, eq-eqb, eqb-true, ne_eqb, both_ways, and_parts, or_cases, false_from_ne_true}
use Rattle.std.proofs.lemmas.List.{get_or_default}
use Rattle.permutations.specs.Count.{some, least}
use Rattle.permutations.specs.Members.{is_member, is_distinct}
use Rattle.permutations.specs.Cyclic.{last_or}
use Rattle.permutations.specs.Permutation.{iterate}
use Rattle.permutations.specs.Ring.{images}
use Rattle.permutations.proofs.Search.{some-from, least-passes, least-first, least-before}
use Rattle.permutations.proofs.Iterates.{iterate-below, iterate-first, iterate-more, iterate-sum, iterate-between, iterate-orbit, orbit-steps}
use Rattle.permutations.proofs.Relation.{same-tests}
use Rattle.permutations.proofs.Members.{member-head, member-tail, member-append_left, member-append_right, member-append_cases, distinct-tail, distinct-append_left, distinct-append_apart}
use Rattle.permutations.proofs.Mapped.{member-map, map-member, distinct-map}
use Rattle.permutations.proofs.Arrangements.{member-at}
use Rattle.permutations.proofs.Rings.{images-append, images-distinct}
use Rattle.dart_maps.specs.Map.{twin, face}
use Rattle.dart_maps.proofs.Darts.{twin-twin, twin-below}
use Rattle.multigraph.specs.Graph.{edge_count}
use Rattle.multigraph.specs.Marks.{is_marked}
use Rattle.faces.specs.Euler.{tail}
use Rattle.triangulations.specs.Listed.{ListedMap}
use Rattle.canonical_orders.specs.Contours.{Successive, IsContour, IsRemoval}
use Rattle.canonical_orders.specs.Free.{on_contour, IsFreeAt}
use Rattle.canonical_orders.specs.Order.{Removed}
use Rattle.canonical_orders.specs.State.{IsTriangulatedMap, IsMet, IsKept, AreEntered, IsReady, IsTakenOff, heads_of, tails_of, third_darts, leads_on, arms_after}
use Rattle.canonical_orders.proofs.Lists.{last-append, last-member, ends-with, cut-between}
use Rattle.triangulations.proofs.SimpleMaps.{next-in, tail-next, one-tail, one-vertex}
use Rattle.canonical_orders.proofs.Triangles.{stays-tail}
use Rattle.canonical_orders.proofs.ContourParts.{contour-dart, same-dart, contour-distinct, vertex-dart, leads-to}
use Rattle.canonical_orders.proofs.FreeVertex.{free-at}
use Rattle.canonical_orders.proofs.Arms.{contour-cases, front-on, back-on, front-differs, back-differs, x-only, arm-leaves, new-leaves}
use Rattle.canonical_orders.proofs.Removing.{removal-keeps}
use Rattle.canonical_orders.proofs.Maps.{some-dart}

-- images are in turn
images-turn : (f : ℕ → ℕ) (k x : ℕ) → Successive (λ c d. f c ≡ d) (images f k x)
images-turn f zero x = tt
images-turn f (suc zero) x = tt
images-turn f (suc (suc k)) x = (refl, images-turn f (suc k) (f x))

-- the last of them
images-last : (f : ℕ → ℕ) (d k x : ℕ) → last_or d (images f (k + 1) x) ≡ iterate f k x
images-last f d k x = ap (last_or d) (images-append f k 1 x) ∙ last-append d (images f k x) (iterate f k x)

module _ (t : ListedMap) (i : IsTriangulatedMap t) (left : List ℕ) (on : List Bool) (met : List ℕ) (w : ℕ) (p : IsReady t left on met w) where
  abbrev m : ℕ
  m = edge_count t.graph

  abbrev next : ℕ → ℕ
  next = slice_index t.next

  abbrev previous : ℕ → ℕ
  previous = slice_index t.previous

  -- dart 0 is a dart
  pub base-in : 0 < 2 * m
  base-in = some-dart t i

  -- the free vertex on its contour
  abbrev at : IsFreeAt m t.graph p.contour w
  at = free-at m t.graph next previous 0 p.stays p.contour i base-in p.is w p.free

  x-on : is_member at.x p.contour ≡ true
  x-on = ap (is_member at.x) at.cut ∙ member-append_right at.x (at.first ∷ at.front) (at.x ∷ at.y ∷ at.back) (member-head at.x (at.y ∷ at.back))

  y-on : is_member at.y p.contour ≡ true
  y-on = ap (is_member at.y) at.cut ∙ member-append_right at.y (at.first ∷ at.front) (at.x ∷ at.y ∷ at.back) (member-tail at.y at.x (at.y ∷ at.back) (member-head at.y at.back))

  pub x-in : at.x < 2 * m
  x-in = (contour-dart m t.graph next previous i 0 base-in p.stays p.contour p.is at.x x-on).0

  y-in : at.y < 2 * m
  y-in = (contour-dart m t.graph next previous i 0 base-in p.stays p.contour p.is at.y y-on).0

  -- x is kept at the vertex
  pub first-dart : slice_index left w ≡ at.x
  first-dart = ap (slice_index left) (sym at.leaves) ∙ p.kept.darts at.x x-on

  -- the vertex is marked
  pub w-marked : is_marked on w ≡ true
  w-marked = p.kept.marked w ∙ p.free.on

  pub w-within : w < t.graph.vertex_count
  w-within = subst (λ (v : ℕ). v < t.graph.vertex_count) at.leaves (i.map.drawn.inside at.x x-in)

  -- a dart of the contour leaves a marked vertex
  dart-marked : (d : ℕ) → is_member d p.contour ≡ true → is_marked on (tail t.graph d) ≡ true
  dart-marked d n = p.kept.marked (tail t.graph d) ∙ member-map (tail t.graph) p.contour d n

  -- the dart before x
  before-x : (z : ℕ) × (is_member z (at.first ∷ at.front) ≡ true) × (tail t.graph (twin at.x) ≡ tail t.graph z)
  before-x = let k = ends-with at.first at.front in (
    last_or at.first at.front,
    last-member at.first at.front,
    leads-to m t.graph next previous i 0 base-in p.stays p.contour p.is k.0 (last_or at.first at.front) (at.x ∷ at.y ∷ at.back)
        (at.cut ∙ ap (λ (s : List ℕ). s ++ at.x ∷ at.y ∷ at.back) k.1 ∙ cut-between k.0 (last_or at.first at.front) (at.x ∷ at.y ∷ at.back)),
  )

  before-on : (z : ℕ) → is_member z (at.first ∷ at.front) ≡ true → is_member z p.contour ≡ true
  before-on z n = ap (is_member z) at.cut ∙ member-append_left z (at.first ∷ at.front) (at.x ∷ at.y ∷ at.back) n

  -- x leads to a marked vertex
  x-leads : is_marked on (tail t.graph (twin at.x)) ≡ true
  x-leads = ap (is_marked on) before-x.2 ∙ dart-marked before-x.0 (before-on before-x.0 before-x.1)

  -- x is not the twin of y
  x-other : at.x ≢ twin at.y
  x-other e = both_ways (is_member before-x.0 (at.x ∷ at.y ∷ at.back)) (distinct-append_apart (at.first ∷ at.front) (at.x ∷ at.y ∷ at.back)
      (subst (λ (s : List ℕ). is_distinct s ≡ true) at.cut (contour-distinct m t.graph next previous i 0 base-in p.stays p.contour p.is)) before-x.0 before-x.1)
      (subst (λ (z : ℕ). is_member z (at.x ∷ at.y ∷ at.back) ≡ true) (sym same) (member-tail at.y at.x (at.y ∷ at.back) (member-head at.y at.back)))
    where
      same : before-x.0 ≡ at.y
      same = same-dart m t.graph next previous i 0 base-in p.stays p.contour p.is before-x.0 at.y (before-on before-x.0 before-x.1) y-on
          (sym before-x.2 ∙ ap (λ (z : ℕ). tail t.graph (twin z)) e ∙ ap (tail t.graph) (twin-twin at.y))

  -- the test for the end of the walk, and when it ends
  abbrev test : ℕ → Bool
  test = leads_on t on at.x

  abbrev steps : ℕ
  steps = least (2 * m) test

  -- the walk from the dart after x
  abbrev walk : ℕ → ℕ
  walk k = iterate next k (next at.x)

  start-in : next at.x < 2 * m
  start-in = next-in m t.graph next previous i.map at.x x-in

  walk-in : (k : ℕ) → (walk k < 2 * m) × (tail t.graph (walk k) ≡ w)
  walk-in k = let b = iterate-below (2 * m) next previous i.map.drawn.map k (next at.x) start-in in
      (b, sym (one-tail m t.graph next previous i.map (next at.x) (walk k) start-in b (iterate-orbit (2 * m) next previous i.map.drawn.map k (next at.x) start-in)) ∙ tail-next m t.graph next previous i.map at.x x-in ∙ at.leaves)

  -- it comes to the twin of y
  y-steps : (k : ℕ) × (k < 2 * m) × (walk k ≡ twin at.y)
  y-steps = orbit-steps (2 * m) next previous i.map.drawn.map (next at.x) (twin at.y) start-in
      (one-vertex m t.graph next previous i.map (next at.x) (twin at.y) start-in (twin-below m at.y y-in)
      (tail-next m t.graph next previous i.map at.x x-in ∙ sym (leads-to m t.graph next previous i 0 base-in p.stays p.contour p.is (at.first ∷ at.front) at.x (at.y ∷ at.back) at.cut)))

  y-passes : (k : ℕ) → walk k ≡ twin at.y → test k ≡ true
  y-passes k e = ap (λ (z : ℕ). is_marked on (tail t.graph (twin z))) e ∙ ap (λ (z : ℕ). is_marked on (tail t.graph z)) (twin-twin at.y) ∙ dart-marked at.y y-on

  pub some-on : some (2 * m) test ≡ true
  some-on = some-from (2 * m) test y-steps.0 y-steps.1 (y-passes y-steps.0 y-steps.2)

  -- it doesn't end at x
  not-back : walk steps ≢ at.x
  not-back e = both_ways (is_y early) (least-before (2 * m) is_y early (omega (arith, past))) (eq-eqb (walk early) (twin at.y) back)
    where
      is_y : ℕ → Bool
      is_y k = walk k == twin at.y

      late : ℕ
      late = least (2 * m) is_y

      arrives : walk late ≡ twin at.y
      arrives = eqb-true (walk late) (twin at.y) (least-passes (2 * m) is_y (some-from (2 * m) is_y y-steps.0 y-steps.1 (eq-eqb (walk y-steps.0) (twin at.y) y-steps.2)))

      past : steps < late
      past = elim (cases_lt steps late) [
        | inl l ↦ l
        | inr l ↦ let z : steps ≡ late = omega (arith, l, least-first (2 * m) test late (y-passes late arrives)) in absurd (x-other (sym e ∙ ap walk z ∙ arrives))
      ]

      early : ℕ
      early = late - (steps + 1)

      sum : early + (steps + 1) ≡ late
      sum = omega (arith, past)

      back : walk early ≡ twin at.y
      back = ap (iterate next early) (sym (iterate-more next steps (next at.x) ∙ ap next e)) ∙ sym (iterate-sum next early (steps + 1) (next at.x)) ∙ ap walk sum ∙ arrives

  -- so it ends at the twin of y
  ends : walk steps ≡ twin at.y
  ends = elim (at.only (walk steps) (walk-in steps).0 (walk-in steps).1 (sym (p.kept.marked (tail t.graph (twin (walk steps)))) ∙ least-passes (2 * m) test some-on)) [
    | inl e ↦ absurd (not-back e)
    | inr e ↦ e
  ]

  -- the arms
  abbrev arms : List ℕ
  arms = arms_after t on at.x

  arms-distinct : is_distinct (at.x ∷ arms) ≡ true
  arms-distinct = images-distinct next (suc (steps + 1)) at.x differ
    where
      differ : (a b : ℕ) → a < b → b < suc (steps + 1) → iterate next a at.x ≡ iterate next b at.x → ⊥
      differ a b l k e = not-back (ap walk (sym last) ∙ loop)
        where
          sum : a + (b - a) ≡ b
          sum = omega (arith, l)

          one : b - a - 1 + 1 ≡ b - a
          one = omega (arith, l)

          loop : walk (b - a - 1) ≡ at.x
          loop = sym (iterate-first next (b - a - 1) at.x) ∙ ap (λ (j : ℕ). iterate next j at.x) one
              ∙ iterate-between (2 * m) next previous i.map.drawn.map at.x x-in a (b - a) (e ∙ ap (λ (j : ℕ). iterate next j at.x) (sym sum))

          last : b - a - 1 ≡ steps
          last = omega (arith, l, k, least-first (2 * m) test (b - a - 1) (ap (λ (z : ℕ). is_marked on (tail t.graph (twin z))) loop ∙ x-leads))

  -- the contour without the vertex
  abbrev later : List ℕ
  later = ((at.first ∷ at.front) ++ map (face next) arms) ++ at.back

  abbrev heads : List ℕ
  heads = heads_of t.graph (at.x ∷ arms)

  removal : IsRemoval t.graph next p.contour later w heads
  removal = record {
    first = at.first;
    front = at.front;
    x = at.x;
    y = at.y;
    back = at.back;
    arms = arms;
    cut = at.cut;
    leaves = at.leaves;
    in_turn = images-turn next (suc (steps + 1)) at.x;
    ends = images-last next at.x steps (next at.x) ∙ ends;
    lead = refl;
    makes = refl;
  }

  -- the arms leave the vertex
  pub arms-leave : (e : ℕ) → is_member e (at.x ∷ arms) ≡ true → (e < 2 * m) × (tail t.graph e ≡ w)
  unfolding removal
  arms-leave = arm-leaves m t.graph next previous i 0 base-in p.stays p.contour p.is later w heads removal

  pub arms-in : (k : ℕ) → k < length arms → slice_index arms k < 2 * m
  arms-in k l = (arms-leave (slice_index arms k) (member-tail (slice_index arms k) at.x arms (member-at arms k 0 l))).0

  -- and lead to different vertices
  pub heads-differ : is_distinct heads ≡ true
  heads-differ = distinct-map (λ e. tail t.graph (twin e)) (at.x ∷ arms)
      (λ a b n k e. i.map.simple a b (arms-leave a n).0 (arms-leave b k).0 ((arms-leave a n).1 ∙ sym (arms-leave b k).1) e) arms-distinct

  pub arms-differ : is_distinct (heads_of t.graph arms) ≡ true
  arms-differ = distinct-tail (tail t.graph (twin at.x)) (heads_of t.graph arms) heads-differ

  -- the vertices that stay
  stays : ℕ → Bool
  stays v = p.stays v && not (v == w)

  w-stays : p.stays w ≡ true
  w-stays = ap p.stays (sym at.leaves) ∙ stays-tail t.graph p.stays at.x (contour-dart m t.graph next previous i 0 base-in p.stays p.contour p.is at.x x-on).1

  others : (v : ℕ) → p.stays v ≡ (stays v || (v == w))
  unfolding stays
  others v = elim (cases_eq v w) [
    | inl e ↦ here (p.stays v) (v == w) (ap p.stays e ∙ w-stays) (eq-eqb v w e)
    | inr e ↦ there (p.stays v) (v == w) (ne_eqb v w e)
  ]
    where
      here : (a b : Bool) → a ≡ true → b ≡ true → a ≡ ((a && not b) || b)
      here a b q r = grind (arith, q, r)

      there : (a b : Bool) → b ≡ false → a ≡ ((a && not b) || b)
      there a b q = grind (arith, q, cases_Bool a)

  absent : stays w ≡ false
  unfolding stays
  absent = ap (λ (b : Bool). p.stays w && not b) (eq-eqb w w refl) ∙ none (p.stays w)
    where
      none : (a : Bool) → (a && not true) ≡ false
      none a = grind (arith, cases_Bool a)

  -- a contour is left
  left-contour : IsContour m t.graph next 0 stays later
  left-contour = removal-keeps m t.graph next previous 0 p.stays stays p.contour later w heads i base-in p.is at removal heads-differ others absent

  later-distinct : is_distinct later ≡ true
  later-distinct = contour-distinct m t.graph next previous i 0 base-in stays later left-contour

  -- its darts
  abbrev F : List ℕ
  F = at.first ∷ at.front

  abbrev G : List ℕ
  G = map (face next) arms

  front-later : (d : ℕ) → is_member d F ≡ true → is_member d later ≡ true
  front-later d n = member-append_left d (F ++ G) at.back (member-append_left d F G n)

  new-later : (d : ℕ) → is_member d G ≡ true → is_member d later ≡ true
  new-later d n = member-append_left d (F ++ G) at.back (member-append_right d F G n)

  back-later : (d : ℕ) → is_member d at.back ≡ true → is_member d later ≡ true
  back-later d n = member-append_right d (F ++ G) at.back n

  -- an old dart is none of the new ones
  front-apart : (d : ℕ) → is_member d F ≡ true → is_member d G ≡ false
  front-apart d n = distinct-append_apart F G (distinct-append_left (F ++ G) at.back later-distinct) d n

  back-apart : (d : ℕ) → is_member d at.back ≡ true → is_member d G ≡ false
  back-apart d n = false_from_ne_true (is_member d G) (λ k. both_ways (is_member d at.back) (distinct-append_apart (F ++ G) at.back later-distinct d (member-append_right d F G k)) n)

  -- and leaves another vertex
  old-vertex : (d : ℕ) → is_member d later ≡ true → is_member d G ≡ false → is_member (tail t.graph d) (tails_of t.graph G) ≡ false
  old-vertex d n k = false_from_ne_true (is_member (tail t.graph d) (tails_of t.graph G)) (λ j. let e = map-member (tail t.graph) G (tail t.graph d) j in
      both_ways (is_member d G) k (subst (λ (z : ℕ). is_member z G ≡ true) (same-dart m t.graph next previous i 0 base-in stays later left-contour e.0 d (new-later e.0 e.1) n e.2) e.1))

  -- the right neighbour is one of the heads
  y-head : is_member (tail t.graph at.y) (heads_of t.graph arms) ≡ true
  y-head = subst (λ (z : ℕ). is_member z (heads_of t.graph arms) ≡ true) (ap (λ (z : ℕ). tail t.graph (twin z)) ends ∙ ap (tail t.graph) (twin-twin at.y))
      (member-map (λ e. tail t.graph (twin e)) arms (walk steps)
      (ap (is_member (walk steps)) (images-append next steps 1 (next at.x)) ∙ member-append_right (walk steps) (images next steps (next at.x)) (walk steps ∷ []) (member-head (walk steps) [])))

  -- a dart of the contour before that is not at the vertex is marked after
  kept-mark : (d : ℕ) → is_member d p.contour ≡ true → d ≢ at.x → (is_marked on (tail t.graph d) && not (tail t.graph d == w)) ≡ true
  unfolding removal
  kept-mark d n ne = both (is_marked on (tail t.graph d)) (tail t.graph d == w) (dart-marked d n) (ne_eqb (tail t.graph d) w (λ e. ne (x-only m t.graph next previous i 0 base-in p.stays p.contour p.is later w heads removal d n e)))
    where
      both : (a b : Bool) → a ≡ true → b ≡ false → (a && not b) ≡ true
      both a b q r = grind (arith, q, r)

  -- where the arms' third darts are entered, and the vertices marked, the arrays keep the contour that is left
  pub left-kept : (left_new : List ℕ) (on_new : List Bool) (met_new : List ℕ) → AreEntered t.graph (third_darts t arms) left left_new
      → ((v : ℕ) → is_marked on_new v ≡ ((is_marked on v && not (v == w)) || is_member v (heads_of t.graph arms))) → IsMet t.graph on_new met_new → IsKept t.graph later left_new on_new met_new
  unfolding removal
  left-kept left_new on_new met_new entered marked counted = record { left_each = entered.each ∙ p.kept.left_each; counted = counted; marked = λ v. same-tests (is_marked on_new v) (on_contour t.graph later v) (to v) (from v); darts = darts }
    where
      or-left : (a b : Bool) → a ≡ true → (a || b) ≡ true
      or-left a b q = grind (arith, q)

      or-right : (a b : Bool) → b ≡ true → (a || b) ≡ true
      or-right a b q = grind (arith, q, cases_Bool a)

      flip : (a : Bool) → not a ≡ true → a ≡ false
      flip a q = grind (arith, q, cases_Bool a)

      put : (v d : ℕ) → tail t.graph d ≡ v → is_member d later ≡ true → on_contour t.graph later v ≡ true
      put v d e n = subst (λ (z : ℕ). on_contour t.graph later z ≡ true) e (member-map (tail t.graph) later d n)

      new-to : (v : ℕ) → is_member v (heads_of t.graph arms) ≡ true → on_contour t.graph later v ≡ true
      new-to v n = let e = map-member (λ z. tail t.graph (twin z)) arms v n in
          put v (face next e.0) (new-leaves m t.graph next previous i 0 base-in p.stays p.contour p.is later w heads removal e.0 (member-tail e.0 at.x arms e.1) ∙ e.2) (new-later (face next e.0) (member-map (face next) arms e.0 e.1))

      old-from : (v d : ℕ) → tail t.graph d ≡ v → is_member d p.contour ≡ true → d ≢ at.x → is_marked on_new v ≡ true
      old-from v d e n ne = marked v ∙ or-left (is_marked on v && not (v == w)) (is_member v (heads_of t.graph arms)) (subst (λ (z : ℕ). (is_marked on z && not (z == w)) ≡ true) e (kept-mark d n ne))

      old-to : (v : ℕ) → is_marked on v ≡ true → (v == w) ≡ false → on_contour t.graph later v ≡ true
      old-to v a b = let d = vertex-dart m t.graph next previous i 0 base-in p.stays p.contour p.is v (sym (p.kept.marked v) ∙ a) in
          elim (contour-cases m t.graph next previous i 0 base-in p.stays p.contour p.is later w heads removal d.0 d.1) [
            | inl f ↦ put v d.0 d.2 (front-later d.0 f)
            | inr q ↦ elim q [
              | inl e ↦ absurd (both_ways (v == w) b (eq-eqb v w (sym d.2 ∙ ap (tail t.graph) e ∙ at.leaves)))
              | inr k ↦ elim k [
                | inl e ↦ new-to v (subst (λ (z : ℕ). is_member z (heads_of t.graph arms) ≡ true) (ap (tail t.graph) (sym e) ∙ d.2) y-head)
                | inr f ↦ put v d.0 d.2 (back-later d.0 f)
              ]
            ]
          ]

      to : (v : ℕ) → is_marked on_new v ≡ true → on_contour t.graph later v ≡ true
      to v n = elim (or_cases (is_marked on v && not (v == w)) (is_member v (heads_of t.graph arms)) (sym (marked v) ∙ n)) [
        | inl a ↦ let b = and_parts (is_marked on v) (not (v == w)) a in old-to v b.0 (flip (v == w) b.1)
        | inr a ↦ new-to v a
      ]

      from : (v : ℕ) → on_contour t.graph later v ≡ true → is_marked on_new v ≡ true
      from v n = let d = map-member (tail t.graph) later v n in elim (member-append_cases d.0 (F ++ G) at.back d.1) [
        | inr b ↦ old-from v d.0 d.2 (back-on m t.graph next previous i 0 base-in p.stays p.contour p.is later w heads removal d.0 b) (back-differs m t.graph next previous i 0 base-in p.stays p.contour p.is later w heads removal d.0 b).0
        | inl a ↦ elim (member-append_cases d.0 F G a) [
          | inl f ↦ old-from v d.0 d.2 (front-on m t.graph next previous i 0 base-in p.stays p.contour p.is later w heads removal d.0 f) (front-differs m t.graph next previous i 0 base-in p.stays p.contour p.is later w heads removal d.0 f).0
          | inr g ↦ let e = map-member (face next) arms d.0 g in
              marked v ∙ or-right (is_marked on v && not (v == w)) (is_member v (heads_of t.graph arms))
              (subst (λ (z : ℕ). is_member z (heads_of t.graph arms) ≡ true) (sym (new-leaves m t.graph next previous i 0 base-in p.stays p.contour p.is later w heads removal e.0 (member-tail e.0 at.x arms e.1)) ∙ ap (tail t.graph) e.2 ∙ d.2)
              (member-map (λ z. tail t.graph (twin z)) arms e.0 e.1))
        ]
      ]

      darts : (d : ℕ) → is_member d later ≡ true → slice_index left_new (tail t.graph d) ≡ d
      darts d n = elim (member-append_cases d (F ++ G) at.back n) [
        | inr b ↦ entered.old (tail t.graph d) (old-vertex d n (back-apart d b)) ∙ p.kept.darts d (back-on m t.graph next previous i 0 base-in p.stays p.contour p.is later w heads removal d b)
        | inl a ↦ elim (member-append_cases d F G a) [
          | inl f ↦ entered.old (tail t.graph d) (old-vertex d n (front-apart d f)) ∙ p.kept.darts d (front-on m t.graph next previous i 0 base-in p.stays p.contour p.is later w heads removal d f)
          | inr g ↦ entered.new d g
        ]
      ]

  -- the vertex was taken off
  pub taken-off : (left_new : List ℕ) (on_new : List Bool) (met_new : List ℕ) → AreEntered t.graph (third_darts t arms) left left_new
      → ((v : ℕ) → is_marked on_new v ≡ ((is_marked on v && not (v == w)) || is_member v (heads_of t.graph arms))) → IsMet t.graph on_new met_new
      → IsTakenOff t p.contour left_new on_new met_new w (w, heads_of t.graph (at.x ∷ arms))
  taken-off left_new on_new met_new entered marked counted = record { later = later; vertex = refl; removal = removal; differ = heads-differ; kept = left-kept left_new on_new met_new entered marked counted }

  -- what the code finds: the first dart, the arms and the heads
  pub found-index : (first : ℕ) → first ≡ slice_index_or left w first → first ≡ slice_index left w
  found-index first e = e ∙ get_or_default left w first 0 (omega (arith, w-within, p.kept.left_each))

  pub found-first : (first : ℕ) → first ≡ slice_index left w → first ≡ at.x
  found-first first e = e ∙ first-dart

  pub found-leaves : (first : ℕ) → first ≡ slice_index left w → tail t.graph first ≡ w
  found-leaves first e = ap (tail t.graph) (found-first first e) ∙ at.leaves

  pub found-arms : (first : ℕ) (found : List ℕ) → first ≡ slice_index left w → found ≡ arms_after t on first → found ≡ arms
  found-arms first found e q = q ∙ ap (arms_after t on) (found-first first e)

  -- the vertex was taken off, in the words of the code
  pub found-all : (first : ℕ) (found leads : List ℕ) (left_new : List ℕ) (on_mid on_new : List Bool) (met_new : List ℕ) (removed : Removed)
      → first ≡ slice_index left w → found ≡ arms_after t on first → leads ≡ heads_of t.graph (first ∷ found) → AreEntered t.graph (third_darts t found) left left_new
      → ((v : ℕ) → is_marked on_mid v ≡ (is_marked on v && not (v == tail t.graph first))) → ((v : ℕ) → is_marked on_new v ≡ (is_marked on_mid v || is_member v (heads_of t.graph found)))
      → IsMet t.graph on_new met_new → removed ≡ (w, leads) → IsTakenOff t p.contour left_new on_new met_new w removed
  found-all first found leads left_new on_mid on_new met_new removed e q k entered mid marked counted r =
      subst (λ (s : Removed). IsTakenOff t p.contour left_new on_new met_new w s) (sym (r ∙ ap (λ (s : List ℕ). (w, s)) (k ∙ ap (λ (z : ℕ). heads_of t.graph (z ∷ found)) (found-first first e) ∙ ap (λ (s : List ℕ). heads_of t.graph (at.x ∷ s)) same)))
      (taken-off left_new on_new met_new (subst (λ (s : List ℕ). AreEntered t.graph (third_darts t s) left left_new) same entered)
      (λ v. marked v ∙ ap (λ (b : Bool). b || is_member v (heads_of t.graph found)) (mid v ∙ ap (λ (z : ℕ). is_marked on v && not (v == z)) (ap (tail t.graph) (found-first first e) ∙ at.leaves))
      ∙ ap (λ (s : List ℕ). (is_marked on v && not (v == w)) || is_member v (heads_of t.graph s)) same) counted)
    where
      same : found ≡ arms
      same = found-arms first found e q
