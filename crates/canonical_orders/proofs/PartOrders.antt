-- Canonical orders so far: one more vertex removed, a vertex that can be removed next, and the order when two vertices are left.
use Rattle.std.proofs.Common.{◌≡◌, ◌≢◌, ℕ, suc, ◌+◌, ◌*◌, ◌<◌, ◌≤◌, ◌⊎◌, inl, inr, Bool, true, false, not, ◌&&◌, ◌||◌, ◌==◌, nat_lt, List, [], ◌∷◌, ◌++◌, length, map, take, slice_index, slice_index_or, arith, refl, sym, ap, ◌∙◌, subst, le_refl}
use Rattle.std.proofs.lemmas.Bool.{cases_Bool, cases_eq, cases_order, both_ways, and_parts, eq-eqb, ne_eqb, eqb-true, eqb-false, not-true, ltb-true}
use Rattle.std.proofs.lemmas.List.{get_or_append_left, take-append-le, take_all, length-append, map-append}
use Rattle.std.proofs.Math.Seq.{get_or-append_seam}
use Rattle.permutations.specs.Count.{count, some}
use Rattle.permutations.specs.Members.{is_member}
use Rattle.permutations.proofs.Count.{count-ext, count-remove, count-zero, last-passing}
use Rattle.permutations.proofs.Search.{some-from}
use Rattle.permutations.proofs.Members.{member-head, member-append}
use Rattle.permutations.proofs.Arrangements.{all-member}
use Rattle.dart_maps.specs.Map.{twin}
use Rattle.multigraph.specs.Graph.{Multigraph, edge_count}
use Rattle.multigraph.specs.Marks.{is_marked}
use Rattle.faces.specs.Euler.{tail}
use Rattle.triangulations.specs.Listed.{ListedMap}
use Rattle.canonical_orders.specs.Contours.{stays_dart, IsContour, IsRemoval}
use Rattle.canonical_orders.specs.Free.{is_adjacent, on_contour, contour_neighbours, IsFree}
use Rattle.canonical_orders.specs.Order.{Removed, stays_after}
use Rattle.canonical_orders.specs.State.{IsTriangulatedMap, IsCanonicalOrderOf, can_leave, IsKept, IsReady, IsTakenOff, IsPartOrder}
use Rattle.canonical_orders.proofs.FreeVertex.{dart-loopless, contour-stays, free-vertex, free-at}
use Rattle.canonical_orders.proofs.ChordThree.{contour-three}
use Rattle.canonical_orders.proofs.Removing.{removal-keeps}
use Rattle.canonical_orders.proofs.Starting.{last-contour}
use Rattle.canonical_orders.proofs.Maps.{some-dart}

-- whether v is a vertex, and not among the removed ones
abbrev stays_of : Multigraph → List Removed → ℕ → Bool
stays_of h removed v = nat_lt v h.vertex_count && not (is_member v (map (λ w. w.0) removed))

-- a later removal changes nothing before it
stays-same : (h : Multigraph) (order : List Removed) (r : Removed) (k : ℕ) → k ≤ length order → stays_after h (order ++ r ∷ []) k ≡ stays_after h order k
stays-same h order r k l = ap (stays_of h) (take-append-le k order (r ∷ []) l)

-- what stays after it
stays-one : (h : Multigraph) (order : List Removed) (r : Removed) (k v : ℕ) → k ≡ length order + 1 → stays_after h (order ++ r ∷ []) k v ≡ (nat_lt v h.vertex_count && not (is_member v (map (λ w. w.0) order) || (r.0 == v)))
stays-one h order r k v e = ap (λ (s : List Removed). nat_lt v h.vertex_count && not (is_member v (map (λ w. w.0) s))) (take_all k (order ++ r ∷ []) (omega (arith, e, length-append order (r ∷ []))))
    ∙ ap (λ (s : List ℕ). nat_lt v h.vertex_count && not (is_member v s)) (map-append (λ (w : Removed). w.0) order (r ∷ []))
    ∙ ap (λ (b : Bool). nat_lt v h.vertex_count && not b) (member-append v (map (λ w. w.0) order) (r.0 ∷ []) ∙ ap (λ (b : Bool). is_member v (map (λ w. w.0) order) || b) (last (r.0 == v)))
  where
    last : (b : Bool) → (b || false) ≡ b
    last b = grind (arith, cases_Bool b)

stays-whole : (h : Multigraph) (order : List Removed) (k v : ℕ) → k ≡ length order → stays_after h order k v ≡ (nat_lt v h.vertex_count && not (is_member v (map (λ w. w.0) order)))
stays-whole h order k v e = ap (λ (s : List Removed). nat_lt v h.vertex_count && not (is_member v (map (λ w. w.0) s))) (take_all k order (omega (arith, e)))

-- all but the removed vertex
stays-less : (h : Multigraph) (order : List Removed) (r : Removed) (k v : ℕ) → k ≡ length order + 1 → stays_after h (order ++ r ∷ []) k v ≡ (stays_after h order (length order) v && not (v == r.0))
stays-less h order r k v e = stays-one h order r k v e ∙ parts (nat_lt v h.vertex_count) (is_member v (map (λ w. w.0) order)) (r.0 == v) (v == r.0) turned ∙ ap (λ (b : Bool). b && not (v == r.0)) (sym (stays-whole h order (length order) v refl))
  where
    turned : (r.0 == v) ≡ (v == r.0)
    turned = elim (cases_eq r.0 v) [ inl q ↦ eq-eqb r.0 v q ∙ sym (eq-eqb v r.0 (sym q)) | inr a ↦ ne_eqb r.0 v a ∙ sym (ne_eqb v r.0 (λ q. a (sym q))) ]

    parts : (a b c d : Bool) → c ≡ d → (a && not (b || c)) ≡ ((a && not b) && not d)
    parts a b c d e = grind (arith, cases_Bool a, cases_Bool b, cases_Bool c, e)

-- who stays is a vertex
stays-below : (h : Multigraph) (order : List Removed) (k v : ℕ) → stays_after h order k v ≡ true → v < h.vertex_count
stays-below h order k v s = ltb-true v h.vertex_count (and_parts (nat_lt v h.vertex_count) (not (is_member v (map (λ w. w.0) (take k order)))) s).0

module _ (t : ListedMap) (tri : IsTriangulatedMap t) (order : List Removed) (left : List ℕ) (on : List Bool) (met : List ℕ) (p : IsPartOrder t order left on met) where
  abbrev m : ℕ
  m = edge_count t.graph

  abbrev h : Multigraph
  h = t.graph

  abbrev next : ℕ → ℕ
  next = slice_index t.next

  abbrev previous : ℕ → ℕ
  previous = slice_index t.previous

  abbrev last : List ℕ
  last = slice_index_or p.contours (length order) []

  abbrev stays : ℕ → Bool
  stays = stays_after h order (length order)

  base-in : 0 < 2 * m
  base-in = some-dart t tri

  now : IsContour m h next 0 stays last
  now = p.contour (length order) (le_refl (length order))

  on-stays : (v : ℕ) → on_contour h last v ≡ true → stays v ≡ true
  on-stays v s = contour-stays m h next 0 stays last now v s

  on-below : (v : ℕ) → on_contour h last v ≡ true → v < h.vertex_count
  on-below v s = stays-below h order (length order) v (on-stays v s)

  -- what is met at a vertex
  met-neighbours : (v : ℕ) → v < h.vertex_count → slice_index met v ≡ contour_neighbours h last v
  met-neighbours v l = p.kept.counted.counts v l ∙ count-ext h.vertex_count (λ x. is_marked on x && is_adjacent h v x) (λ x. on_contour h last x && is_adjacent h v x) (λ x _. ap (λ (b : Bool). b && is_adjacent h v x) (p.kept.marked x))

  -- a vertex that can be removed next is free, and the reverse
  pub leave-free : (v : ℕ) → can_leave h on met v ≡ true → IsFree h 0 last v
  leave-free v s = record {
    on = marked;
    not_first = eqb-false v (tail h 0) (not-true (v == tail h 0) second);
    not_last = eqb-false v (tail h (twin 0)) (not-true (v == tail h (twin 0)) third);
    two = sym (met-neighbours v (on-below v marked)) ∙ eqb-true (slice_index met v) 2 fourth;
  }
    where
      outer : ((is_marked on v && not (v == tail h 0) && not (v == tail h (twin 0))) ≡ true) × ((slice_index met v == 2) ≡ true)
      outer = and_parts (is_marked on v && not (v == tail h 0) && not (v == tail h (twin 0))) (slice_index met v == 2) s

      middle : ((is_marked on v && not (v == tail h 0)) ≡ true) × (not (v == tail h (twin 0)) ≡ true)
      middle = and_parts (is_marked on v && not (v == tail h 0)) (not (v == tail h (twin 0))) outer.0

      inner : (is_marked on v ≡ true) × (not (v == tail h 0) ≡ true)
      inner = and_parts (is_marked on v) (not (v == tail h 0)) middle.0

      marked : on_contour h last v ≡ true
      marked = sym (p.kept.marked v) ∙ inner.0

      second : not (v == tail h 0) ≡ true
      second = inner.1

      third : not (v == tail h (twin 0)) ≡ true
      third = middle.1

      fourth : (slice_index met v == 2) ≡ true
      fourth = outer.1

  pub free-leave : (v : ℕ) → IsFree h 0 last v → can_leave h on met v ≡ true
  free-leave v f = rw (p.kept.marked v ∙ f.on, ne_eqb v (tail h 0) f.not_first, ne_eqb v (tail h (twin 0)) f.not_last, eq-eqb (slice_index met v) 2 (met-neighbours v (on-below v f.on) ∙ f.two)) refl

  pub part-ready : (v : ℕ) → can_leave h on met v ≡ true → IsReady t left on met v
  part-ready v s = record { stays = stays; contour = last; is = now; kept = p.kept; free = leave-free v s }

  -- the two ends of the base stay, and differ
  first-stays : stays (tail h 0) ≡ true
  first-stays = (and_parts (stays (tail h 0)) (stays (tail h (twin 0))) (all-member (λ d. (d < 2 * m) × (stays_dart h stays d ≡ true)) last 0 now.darts (ap (is_member 0) now.begins ∙ member-head 0 now.rest)).1).0

  last-stays : stays (tail h (twin 0)) ≡ true
  last-stays = (and_parts (stays (tail h 0)) (stays (tail h (twin 0))) (all-member (λ d. (d < 2 * m) × (stays_dart h stays d ≡ true)) last 0 now.darts (ap (is_member 0) now.begins ∙ member-head 0 now.rest)).1).1

  ends-apart : tail h (twin 0) ≢ tail h 0
  ends-apart e = dart-loopless m h tri.map.graph tri.map.drawn.edges 0 base-in (sym e)

  -- those that stay besides
  abbrev between : ℕ → Bool
  between v = (stays v && not (v == tail h 0)) && not (v == tail h (twin 0))

  count-between : count h.vertex_count stays ≡ count h.vertex_count between + 2
  count-between = omega (
    arith,
    count-remove h.vertex_count stays (tail h 0) (stays-below h order (length order) (tail h 0) first-stays) first-stays,
    count-remove h.vertex_count (λ v. stays v && not (v == tail h 0)) (tail h (twin 0)) (stays-below h order (length order) (tail h (twin 0)) last-stays) (rw (last-stays, ne_eqb (tail h (twin 0)) (tail h 0) ends-apart) refl),
  )

  between-from : (v : ℕ) → stays v ≡ true → v ≢ tail h 0 → v ≢ tail h (twin 0) → between v ≡ true
  between-from v s a b = rw (s, ne_eqb v (tail h 0) a, ne_eqb v (tail h (twin 0)) b) refl

  -- while three vertices or more stay, one can be removed
  pub part-free : length order + 2 < h.vertex_count → some h.vertex_count (can_leave h on met) ≡ true
  part-free l = found (last-passing h.vertex_count between (omega (arith, l, count-between, p.left_over)))
    where
      found : (c : ℕ) × (c < h.vertex_count) × (between c ≡ true) × (count c between + 1 ≡ count h.vertex_count between) → some h.vertex_count (can_leave h on met) ≡ true
      found (c, k, s, _) = chosen (free-vertex m h next previous 0 stays last tri base-in now
          (contour-three m h next previous 0 stays last tri base-in now c k inner.0 (eqb-false c (tail h 0) (not-true (c == tail h 0) inner.1)) (eqb-false c (tail h (twin 0)) (not-true (c == tail h (twin 0)) outer.1))))
        where
          outer : ((stays c && not (c == tail h 0)) ≡ true) × (not (c == tail h (twin 0)) ≡ true)
          outer = and_parts (stays c && not (c == tail h 0)) (not (c == tail h (twin 0))) s

          inner : (stays c ≡ true) × (not (c == tail h 0) ≡ true)
          inner = and_parts (stays c) (not (c == tail h 0)) outer.0

          chosen : (w : ℕ) × IsFree h 0 last w → some h.vertex_count (can_leave h on met) ≡ true
          chosen (w, f) = some-from h.vertex_count (can_leave h on met) w (on-below w f.on) (free-leave w f)

  -- where two stay, the order is complete
  pub part-end : length order + 2 ≡ h.vertex_count → IsCanonicalOrderOf t order
  part-end e = record {
    contours = p.contours;
    all = e;
    each = p.each;
    contour = p.contour;
    removal = p.removal;
    present = p.present;
    begins = p.begins;
    ends = last-contour m h next previous 0 stays last tri base-in now only;
  }
    where
      none : count h.vertex_count between ≡ 0
      none = omega (arith, e, count-between, p.left_over)

      only : (v : ℕ) → stays v ≡ true → (v ≡ tail h 0) ⊎ (v ≡ tail h (twin 0))
      only v s = elim (cases_eq v (tail h 0)) [
        | inl q ↦ inl q
        | inr a ↦ elim (cases_eq v (tail h (twin 0))) [
          | inl q ↦ inr q
          | inr b ↦ absurd (both_ways (between v) (count-zero h.vertex_count between none v (stays-below h order (length order) v s)) (between-from v s a b))
        ]
      ]

  module _ (v : ℕ) (removed : Removed) (left2 : List ℕ) (on2 : List Bool) (met2 : List ℕ) (free : IsFree h 0 last v) (o : IsTakenOff t last left2 on2 met2 v removed) where
    abbrev more : List Removed
    more = order ++ removed ∷ []

    abbrev contours : List (List ℕ)
    contours = p.contours ++ o.later ∷ []

    longer : length more ≡ length order + 1
    longer = length-append order (removed ∷ [])

    old-contour : (k : ℕ) → k ≤ length order → slice_index_or contours k [] ≡ slice_index_or p.contours k []
    old-contour k l = get_or_append_left p.contours (o.later ∷ []) [] k (omega (arith, l, p.each))

    new-contour : (k : ℕ) → k ≡ length order + 1 → slice_index_or contours k [] ≡ o.later
    new-contour k e = let same : k ≡ length p.contours = omega (arith, e, p.each) in ap (λ (j : ℕ). slice_index_or contours j []) same ∙ get_or-append_seam p.contours o.later [] []

    old-removed : (k : ℕ) → k < length order → slice_index_or more k (0, []) ≡ slice_index_or order k (0, [])
    old-removed k l = get_or_append_left order (removed ∷ []) (0, []) k l

    new-removed : slice_index_or more (length order) (0, []) ≡ removed
    new-removed = get_or-append_seam order removed [] (0, [])

    -- the removed vertex stayed, and is gone
    removed-stays : stays removed.0 ≡ true
    removed-stays = ap stays o.vertex ∙ on-stays v free.on

    after : (u : ℕ) → stays u ≡ (stays_after h more (length order + 1) u || (u == removed.0))
    after u = elim (cases_eq u removed.0) [
      | inl q ↦ ap stays q ∙ removed-stays ∙ sym (or-true (stays_after h more (length order + 1) u) (u == removed.0) (eq-eqb u removed.0 q))
      | inr a ↦ sym (ap (λ (b : Bool). b || (u == removed.0)) (stays-less h order removed (length order + 1) u refl) ∙ others (stays u) (u == removed.0) (ne_eqb u removed.0 a))
    ]
      where
        or-true : (a b : Bool) → b ≡ true → (a || b) ≡ true
        or-true a b e = grind (arith, cases_Bool a, e)

        others : (a b : Bool) → b ≡ false → ((a && not b) || b) ≡ a
        others a b e = grind (arith, cases_Bool a, e)

    gone : stays_after h more (length order + 1) removed.0 ≡ false
    gone = stays-less h order removed (length order + 1) removed.0 refl ∙ no (stays removed.0) (removed.0 == removed.0) (eq-eqb removed.0 removed.0 refl)
      where
        no : (a b : Bool) → b ≡ true → (a && not b) ≡ false
        no a b e = grind (arith, cases_Bool a, e)

    new-is : IsContour m h next 0 (stays_after h more (length order + 1)) o.later
    new-is = removal-keeps m h next previous 0 stays (stays_after h more (length order + 1)) last o.later removed.0 removed.1 tri base-in now
        (free-at m h next previous 0 stays last tri base-in now removed.0 (subst (IsFree h 0 last) (sym o.vertex) free)) o.removal o.differ after gone

    more-contour : (k : ℕ) → k ≤ length more → IsContour m h next 0 (stays_after h more k) (slice_index_or contours k [])
    more-contour k l = elim (cases_order k (length order + 1)) [
      | inl e ↦ subst (λ (j : ℕ). IsContour m h next 0 (stays_after h more j) (slice_index_or contours j [])) (sym e) (subst (IsContour m h next 0 (stays_after h more (length order + 1))) (sym (new-contour (length order + 1) refl)) new-is)
      | inr (inl i) ↦ old k (omega (arith, i))
      | inr (inr i) ↦ absurd (omega (arith, i, l, longer))
    ]
      where
        old : (k : ℕ) → k ≤ length order → IsContour m h next 0 (stays_after h more k) (slice_index_or contours k [])
        old k l = subst (IsContour m h next 0 (stays_after h more k)) (sym (old-contour k l)) (subst (λ (s : ℕ → Bool). IsContour m h next 0 s (slice_index_or p.contours k [])) (sym (stays-same h order removed k l)) (p.contour k l))

    abbrev Removes : ℕ → Type 0
    Removes k = IsRemoval h next (slice_index_or contours k []) (slice_index_or contours (suc k) []) (slice_index_or more k (0, [])).0 (slice_index_or more k (0, [])).1

    more-removal : (k : ℕ) → k < length more → Removes k
    more-removal k l = elim (cases_order k (length order)) [
      | inl e ↦ subst Removes (sym e) new
      | inr (inl i) ↦ subst (λ (s : List ℕ). IsRemoval h next s (slice_index_or contours (suc k) []) (slice_index_or more k (0, [])).0 (slice_index_or more k (0, [])).1) (sym (old-contour k (omega (arith, i))))
          (subst (λ (s : List ℕ). IsRemoval h next (slice_index_or p.contours k []) s (slice_index_or more k (0, [])).0 (slice_index_or more k (0, [])).1) (sym (old-contour (suc k) (omega (arith, i))))
          (subst (λ (r : Removed). IsRemoval h next (slice_index_or p.contours k []) (slice_index_or p.contours (suc k) []) r.0 r.1) (sym (old-removed k i)) (p.removal k i)))
      | inr (inr i) ↦ absurd (omega (arith, i, l, longer))
    ]
      where
        new : Removes (length order)
        new = subst (λ (s : List ℕ). IsRemoval h next s (slice_index_or contours (suc (length order)) []) (slice_index_or more (length order) (0, [])).0 (slice_index_or more (length order) (0, [])).1) (sym (old-contour (length order) (le_refl (length order))))
            (subst (λ (s : List ℕ). IsRemoval h next last s (slice_index_or more (length order) (0, [])).0 (slice_index_or more (length order) (0, [])).1) (sym (new-contour (suc (length order)) (omega arith)))
            (subst (λ (r : Removed). IsRemoval h next last o.later r.0 r.1) (sym new-removed) o.removal))

    more-present : (k : ℕ) → k < length more → stays_after h more k (slice_index_or more k (0, [])).0 ≡ true
    more-present k l = elim (cases_order k (length order)) [
      | inl e ↦ subst (λ (j : ℕ). stays_after h more j (slice_index_or more j (0, [])).0 ≡ true) (sym e)
          (ap (λ (s : ℕ → Bool). s (slice_index_or more (length order) (0, [])).0) (stays-same h order removed (length order) (le_refl (length order))) ∙ ap (λ (r : Removed). stays r.0) new-removed ∙ removed-stays)
      | inr (inl i) ↦ ap (λ (s : ℕ → Bool). s (slice_index_or more k (0, [])).0) (stays-same h order removed k (omega (arith, i))) ∙ ap (λ (r : Removed). stays_after h order k r.0) (old-removed k i) ∙ p.present k i
      | inr (inr i) ↦ absurd (omega (arith, i, l, longer))
    ]

    more-left : count h.vertex_count (stays_after h more (length more)) + length more ≡ h.vertex_count
    more-left = omega (
      arith,
      longer,
      p.left_over,
      count-remove h.vertex_count stays removed.0 (stays-below h order (length order) removed.0 removed-stays) removed-stays,
      count-ext h.vertex_count (stays_after h more (length more)) (λ x. stays x && not (x == removed.0)) (λ x _. stays-less h order removed (length more) x longer),
    )

    -- the order with one more vertex
    pub part-more : IsPartOrder t more left2 on2 met2
    part-more = record {
      contours = contours;
      each = omega (arith, length-append p.contours (o.later ∷ []), p.each, longer);
      contour = more-contour;
      removal = more-removal;
      present = more-present;
      begins = old-contour 0 (omega arith) ∙ p.begins;
      kept = subst (λ (s : List ℕ). IsKept h s left2 on2 met2) (sym (new-contour (length more) longer)) o.kept;
      left_over = more-left;
    }

  -- the same of what the removal of a vertex that can leave says
  pub part-step : (v : ℕ) (removed : Removed) (left2 : List ℕ) (on2 : List Bool) (met2 : List ℕ) → can_leave h on met v ≡ true
      → ((q : IsReady t left on met v) → IsTakenOff t q.contour left2 on2 met2 v removed) → IsPartOrder t (order ++ removed ∷ []) left2 on2 met2
  part-step v removed left2 on2 met2 s f = part-more v removed left2 on2 met2 (leave-free v s) (f (record { stays = stays; contour = last; is = now; kept = p.kept; free = leave-free v s }))
