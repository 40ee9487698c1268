-- Each triangulated map with fewer than 2^32 vertices has a canonical order.
use Rattle.std.proofs.Common.{◌≡◌, ℕ, zero, suc, ◌+◌, ◌-◌, ◌^◌, ◌<◌, ◌≤◌, inl, inr, Bool, true, false, not, ◌&&◌, ◌||◌, ◌==◌, List, [], ◌∷◌, ◌++◌, length, slice_index, slice_set, replicate, refl, sym, ap, ap₂, ◌∙◌, subst, arith}
use Rattle.std.proofs.lemmas.Bool.{cases_lt, ne_eqb, both_ways, false_from_ne_true}
use Rattle.std.proofs.lemmas.List.{length-append, length-set, length-replicate, get_or_past, get_or-set_same, get_or-set_other}
use Rattle.permutations.specs.Count.{count}
use Rattle.permutations.specs.Members.{is_member, is_distinct}
use Rattle.permutations.proofs.Search.{some-witness}
use Rattle.permutations.proofs.Members.{member-head, member-tail, member-cases, no_member-head, no_member-tail, distinct-head, distinct-tail}
use Rattle.permutations.proofs.Mapped.{member-map, map-member}
use Rattle.permutations.proofs.Places.{place-of}
use Rattle.dart_maps.specs.Map.{twin, face}
use Rattle.multigraph.specs.Graph.{Multigraph}
use Rattle.multigraph.specs.Marks.{is_marked}
use Rattle.faces.specs.Euler.{tail, dart_count}
use Rattle.triangulations.specs.Listed.{ListedMap}
use Rattle.canonical_orders.specs.Free.{is_adjacent}
use Rattle.canonical_orders.specs.Order.{Removed}
use Rattle.canonical_orders.specs.State.{IsTriangulatedMap, IsCanonicalOrderOf, IsMet, AreEntered, IsReady, IsPartOrder, can_leave, arms_after, heads_of, tails_of, third_darts}
use Rattle.canonical_orders.proofs.Maps.{head-inside}
use Rattle.canonical_orders.proofs.Entering.{third-tails}
use Rattle.canonical_orders.proofs.Taking.{arms-in, arms-differ, found-arms, found-all}
use Rattle.canonical_orders.proofs.PartOrders.{part-free, part-ready, part-step, part-end}
use Rattle.canonical_orders.proofs.OrderStart.{base-in, second-in, third-in, part-start}
use Rattle.drawing_exists.proofs.Tables.{table, table-length, table-at}

-- one dart is entered, and then others
entered-first : (h : Multigraph) (d : ℕ) (darts before : List ℕ) → is_distinct (tails_of h (d ∷ darts)) ≡ true → tail h d < length before → (after : List ℕ) → AreEntered h darts (slice_set before (tail h d) d) after → AreEntered h (d ∷ darts) before after
entered-first h d darts before apart l after rest = record { each = rest.each ∙ length-set before (tail h d) d; new = new; old = old }
  where
    new : (e : ℕ) → is_member e (d ∷ darts) ≡ true → slice_index after (tail h e) ≡ e
    new e m = elim (member-cases e d darts m) [
      | inl s ↦ ap (λ (z : ℕ). slice_index after (tail h z)) (sym s) ∙ rest.old (tail h d) (distinct-head (tail h d) (tails_of h darts) apart) ∙ get_or-set_same before (tail h d) d 0 l ∙ s
      | inr n ↦ rest.new e n
    ]

    old : (v : ℕ) → is_member v (tails_of h (d ∷ darts)) ≡ false → slice_index after v ≡ slice_index before v
    old v m = rest.old v (no_member-tail v (tail h d) (tails_of h darts) m) ∙ get_or-set_other before (tail h d) v d 0 (λ e. no_member-head v (tail h d) (tails_of h darts) m (sym e))

-- darts that leave different vertices can be entered
entered : (h : Multigraph) (darts before : List ℕ) → is_distinct (tails_of h darts) ≡ true → ((d : ℕ) → is_member d darts ≡ true → tail h d < length before) → (after : List ℕ) × AreEntered h darts before after
entered h [] before apart within = (before, record { each = refl; new = λ d m. absurd (both_ways (is_member d []) refl m); old = λ v m. refl })
entered h (d ∷ darts) before apart within =
    let rest = entered h darts (slice_set before (tail h d) d) (distinct-tail (tail h d) (tails_of h darts) apart) (λ e m. omega (arith, within e (member-tail e d darts m), length-set before (tail h d) d)) in
    (rest.0, entered-first h d darts before apart (within d (member-head d darts)) rest.0 rest.1)

module _ (t : ListedMap) (i : IsTriangulatedMap t) (few : t.graph.vertex_count < 2 ^ 32) where
  abbrev n : ℕ
  n = t.graph.vertex_count

  -- marks of the vertices that pass a test
  marks-at : (f : ℕ → Bool) → ((v : ℕ) → n ≤ v → f v ≡ false) → (v : ℕ) → is_marked (table f n) v ≡ f v
  marks-at f none v = elim (cases_lt v n) [
    | inl l ↦ table-at f n v false l
    | inr l ↦ get_or_past (table f n) v false (omega (arith, l, table-length f n)) ∙ sym (none v l)
  ]

  past : (on : List Bool) → length on ≡ n → (v : ℕ) → n ≤ v → is_marked on v ≡ false
  past on e v l = get_or_past on v false (omega (arith, l, e))

  -- one vertex more
  with_one : List Bool → ℕ → List Bool
  with_one on u = table (λ v. is_marked on v || (v == u)) n

  with-length : (on : List Bool) (u : ℕ) → length (with_one on u) ≡ n
  unfolding with_one
  with-length on u = table-length (λ v. is_marked on v || (v == u)) n

  one-at : (on : List Bool) (u : ℕ) → length on ≡ n → u < n → (v : ℕ) → is_marked (with_one on u) v ≡ (is_marked on v || (v == u))
  unfolding with_one
  one-at on u e l = marks-at (λ v. is_marked on v || (v == u)) (λ v k. ap₂ (λ (a b : Bool). a || b) (past on e v k) (ne_eqb v u (λ s. omega (arith, s, l, k))))

  -- how many marked neighbours each vertex has
  met_by : List Bool → List ℕ
  met_by on = table (λ v. count n (λ x. is_marked on x && is_adjacent t.graph v x)) n

  met : (on : List Bool) → length on ≡ n → IsMet t.graph on (met_by on)
  unfolding met_by
  met on e = record {
    on_each = e;
    met_each = table-length (λ v. count n (λ x. is_marked on x && is_adjacent t.graph v x)) n;
    few = few;
    counts = λ v l. table-at (λ v. count n (λ x. is_marked on x && is_adjacent t.graph v x)) n v 0 l;
  }

  -- an order so far, with arrays that keep its last contour
  abbrev Part : List Removed → Type 0
  Part order = (left : List ℕ) × (on : List Bool) × (met : List ℕ) × IsPartOrder t order left on met

  -- before the first removal
  start : Part []
  start = (
    _,
    on3,
    met_by on3,
    part-start t i (replicate n 0) none on1 on2 on3 (met_by on3) (length-replicate n 0) (marks-at (λ v. false) (λ v l. refl))
        (one-at none (tail t.graph 0) none-length (i.map.drawn.inside 0 (base-in t i)))
        (one-at on1 (tail t.graph (face (slice_index t.next) 0)) (with-length none (tail t.graph 0)) (i.map.drawn.inside (face (slice_index t.next) 0) (second-in t i)))
        (one-at on2 (tail t.graph (face (slice_index t.next) (face (slice_index t.next) 0))) (with-length on1 (tail t.graph (face (slice_index t.next) 0))) (i.map.drawn.inside (face (slice_index t.next) (face (slice_index t.next) 0)) (third-in t i)))
        (met on3 (with-length on2 (tail t.graph (face (slice_index t.next) (face (slice_index t.next) 0))))),
  )
    where
      none : List Bool
      none = table (λ v. false) n

      none-length : length none ≡ n
      none-length = table-length (λ v. false) n

      on1 : List Bool
      on1 = with_one none (tail t.graph 0)

      on2 : List Bool
      on2 = with_one on1 (tail t.graph (face (slice_index t.next) 0))

      on3 : List Bool
      on3 = with_one on2 (tail t.graph (face (slice_index t.next) (face (slice_index t.next) 0)))

  -- a vertex is removed
  module _ (order : List Removed) (left : List ℕ) (on : List Bool) (counts : List ℕ) (p : IsPartOrder t order left on counts) (w : ℕ) (can : can_leave t.graph on counts w ≡ true) where
    abbrev ready : IsReady t left on counts w
    ready = part-ready t i order left on counts p w can

    abbrev first : ℕ
    first = slice_index left w

    abbrev found : List ℕ
    found = arms_after t on first

    arm-in : (e : ℕ) → is_member e found ≡ true → e < dart_count t.graph
    arm-in e m = let k = place-of found e m in subst (λ (z : ℕ). z < dart_count t.graph) k.2 (subst (λ (s : List ℕ). (j : ℕ) → j < length s → slice_index s j < dart_count t.graph) (sym (found-arms t i left on counts w ready first found refl refl)) (arms-in t i left on counts w ready) k.0 k.1)

    heads-apart : is_distinct (heads_of t.graph found) ≡ true
    heads-apart = subst (λ (s : List ℕ). is_distinct (heads_of t.graph s) ≡ true) (sym (found-arms t i left on counts w ready first found refl refl)) (arms-differ t i left on counts w ready)

    thirds : tails_of t.graph (third_darts t found) ≡ heads_of t.graph found
    thirds = third-tails t i found arm-in

    head-below : (v : ℕ) → is_member v (heads_of t.graph found) ≡ true → v < n
    head-below v m = let e = map-member (λ d. tail t.graph (twin d)) found v m in subst (λ (z : ℕ). z < n) e.2 (head-inside t i e.0 (arm-in e.0 e.1))

    third-below : (d : ℕ) → is_member d (third_darts t found) ≡ true → tail t.graph d < length left
    third-below d m = let size = p.kept.left_each in omega (arith, size, head-below (tail t.graph d) (subst (λ (s : List ℕ). is_member (tail t.graph d) s ≡ true) thirds (member-map (tail t.graph) (third_darts t found) d m)))

    new_left : (after : List ℕ) × AreEntered t.graph (third_darts t found) left after
    new_left = entered t.graph (third_darts t found) left (subst (λ (s : List ℕ). is_distinct s ≡ true) (sym thirds) heads-apart) third-below

    mid : List Bool
    mid = table (λ v. is_marked on v && not (v == tail t.graph first)) n

    on-length : length on ≡ n
    on-length = let counted = p.kept.counted in counted.on_each

    mid-length : length mid ≡ n
    unfolding mid
    mid-length = table-length (λ v. is_marked on v && not (v == tail t.graph first)) n

    mid-at : (v : ℕ) → is_marked mid v ≡ (is_marked on v && not (v == tail t.graph first))
    unfolding mid
    mid-at = marks-at (λ v. is_marked on v && not (v == tail t.graph first)) (λ v l. ap (λ (a : Bool). a && not (v == tail t.graph first)) (past on on-length v l))

    new_on : List Bool
    new_on = table (λ v. is_marked mid v || is_member v (heads_of t.graph found)) n

    new-length : length new_on ≡ n
    unfolding new_on
    new-length = table-length (λ v. is_marked mid v || is_member v (heads_of t.graph found)) n

    new-at : (v : ℕ) → is_marked new_on v ≡ (is_marked mid v || is_member v (heads_of t.graph found))
    unfolding new_on
    new-at = marks-at (λ v. is_marked mid v || is_member v (heads_of t.graph found)) (λ v l. ap₂ (λ (a b : Bool). a || b) (past mid mid-length v l)
        (false_from_ne_true (is_member v (heads_of t.graph found)) (λ m. omega (arith, l, head-below v m))))

    removed : Removed
    removed = (w, heads_of t.graph (first ∷ found))

    removal : Part (order ++ removed ∷ [])
    unfolding removed
    removal = (
      new_left.0,
      new_on,
      met_by new_on,
      part-step t i order left on counts p w (w, heads_of t.graph (first ∷ found)) new_left.0 new_on (met_by new_on) can
          (λ q. found-all t i left on counts w q first found (heads_of t.graph (first ∷ found)) new_left.0 mid new_on (met_by new_on) (w, heads_of t.graph (first ∷ found)) refl refl refl new_left.1 mid-at new-at (met new_on new-length) refl),
    )

  step : (order : List Removed) → Part order → length order + 2 < n → (one : Removed) × Part (order ++ one ∷ [])
  step order (left, on, counts, p) l =
      let w = some-witness n (can_leave t.graph on counts) (part-free t i order left on counts p l) in
      (removed order left on counts p w.0 w.2, removal order left on counts p w.0 w.2)

  -- and so on, until two are left
  rest : (d : ℕ) (order : List Removed) → Part order → length order + 2 + d ≡ n → (whole : List Removed) × IsCanonicalOrderOf t whole
  rest zero order (left, on, counts, p) e = (order, part-end t i order left on counts p (omega (arith, e)))
  rest (suc d) order part e =
      let s = step order part (omega (arith, e)) in
      rest d (order ++ s.0 ∷ []) s.1 (omega (arith, e, length-append order (s.0 ∷ [])))

  pub ordered : (order : List Removed) × IsCanonicalOrderOf t order
  ordered = rest (n - 2) [] start (omega (arith, i.map.three))
