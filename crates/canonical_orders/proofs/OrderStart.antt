-- The order before the first removal: the arrays keep the triangle of dart 0.
use Rattle.std.proofs.Common.{◌≡◌, ◌≢◌, ℕ, ◌^◌, ◌<◌, inl, inr, Bool, true, false, not, ◌&&◌, ◌||◌, ◌==◌, List, [], ◌∷◌, length, slice_index, slice_index_or, slice_set, replicate, refl, sym, ap, ◌∙◌, subst, arith}
use Rattle.std.proofs.lemmas.Bool.{cases_Bool, cases_lt, lt-ltb}
use Rattle.std.proofs.lemmas.List.{get_or-replicate, get_or_past, length-replicate}
use Rattle.permutations.specs.Members.{is_member, is_distinct}
use Rattle.permutations.proofs.Count.{count-all, count-none}
use Rattle.permutations.proofs.Members.{no_member-cons, no_member-head, no_member-tail, distinct-head, distinct-tail}
use Rattle.dart_maps.specs.Map.{face}
use Rattle.multigraph.specs.Graph.{Multigraph, edge_count}
use Rattle.multigraph.specs.Marks.{is_marked}
use Rattle.faces.specs.Euler.{tail, dart_count}
use Rattle.triangulations.specs.Listed.{ListedMap}
use Rattle.canonical_orders.specs.Contours.{IsContour}
use Rattle.canonical_orders.specs.Free.{is_adjacent, on_contour}
use Rattle.canonical_orders.specs.Order.{stays_after}
use Rattle.canonical_orders.specs.State.{IsTriangulatedMap, IsMet, AreEntered, IsPartOrder}
use Rattle.triangulations.proofs.SimpleMaps.{face-in}
use Rattle.canonical_orders.proofs.Starting.{triangle-contour}
use Rattle.canonical_orders.proofs.Entering.{eqb-sides, entered-none, entered-more}
use Rattle.canonical_orders.proofs.Maps.{some-dart}

-- where no vertex is marked, none has met one
pub met-none : (h : Multigraph) (on : List Bool) (met : List ℕ) → on ≡ replicate h.vertex_count false → met ≡ replicate h.vertex_count 0 → h.vertex_count < 2 ^ 32 → IsMet h on met
met-none h on met e q l = record {
  on_each = ap length e ∙ length-replicate h.vertex_count false;
  met_each = ap length q ∙ length-replicate h.vertex_count 0;
  few = l;
  counts = λ v k. ap (λ (s : List ℕ). slice_index s v) q ∙ get_or-replicate h.vertex_count v 0 0 k
      ∙ sym (count-none h.vertex_count (λ x. is_marked on x && is_adjacent h v x) (λ x j. ap (λ (s : List Bool). is_marked s x && is_adjacent h v x) e ∙ ap (λ (b : Bool). b && is_adjacent h v x) (get_or-replicate h.vertex_count x false false j)));
}

-- no vertex is marked
pub marked-none : (n : ℕ) (on : List Bool) → on ≡ replicate n false → (v : ℕ) → is_marked on v ≡ false
marked-none n on e v = ap (λ (s : List Bool). is_marked s v) e ∙ none n v
  where
    none : (n v : ℕ) → is_marked (replicate n false) v ≡ false
    none n v = elim (cases_lt v n) [
      | inl l ↦ get_or-replicate n v false false l
      | inr l ↦ get_or_past (replicate n false) v false (omega (arith, l, length-replicate n false))
    ]

module _ (t : ListedMap) (i : IsTriangulatedMap t) where
  abbrev m : ℕ
  m = edge_count t.graph

  abbrev next : ℕ → ℕ
  next = slice_index t.next

  abbrev b : ℕ
  b = face next 0

  abbrev c : ℕ
  c = face next (face next 0)

  pub base-in : 0 < dart_count t.graph
  base-in = some-dart t i

  pub second-in : face next 0 < dart_count t.graph
  second-in = face-in m t.graph next (slice_index t.previous) i.map 0 base-in

  pub third-in : face next (face next 0) < dart_count t.graph
  third-in = face-in m t.graph next (slice_index t.previous) i.map b second-in

  -- all vertices stay
  all-stay : (v : ℕ) → v < t.graph.vertex_count → stays_after t.graph [] 0 v ≡ true
  all-stay v l = ap (λ (a : Bool). a && not false) (lt-ltb v t.graph.vertex_count l)

  start : IsContour m t.graph next 0 (stays_after t.graph [] 0) (0 ∷ c ∷ b ∷ [])
  start = triangle-contour m t.graph next (slice_index t.previous) 0 (stays_after t.graph [] 0) i base-in (λ d l. all-stay (tail t.graph d) (i.map.drawn.inside d l))

  apart : is_distinct (tail t.graph 0 ∷ tail t.graph c ∷ tail t.graph b ∷ []) ≡ true
  apart = start.once

  -- the three darts entered
  triangle-entered : (left : List ℕ) → length left ≡ t.graph.vertex_count
      → AreEntered t.graph (0 ∷ b ∷ c ∷ []) left (slice_set (slice_set (slice_set left (tail t.graph 0) 0) (tail t.graph b) b) (tail t.graph c) c)
  triangle-entered left e =
      entered-more t.graph c (0 ∷ b ∷ []) left (slice_set (slice_set left (tail t.graph 0) 0) (tail t.graph b) b) c-fresh (within c third-in)
      (entered-more t.graph b (0 ∷ []) left (slice_set left (tail t.graph 0) 0) b-fresh (within b second-in)
      (entered-more t.graph 0 [] left left refl (within 0 base-in) (entered-none t.graph left)))
    where
      within : (d : ℕ) → d < dart_count t.graph → tail t.graph d < length left
      within d l = omega (arith, e, i.map.drawn.inside d l)

      first : is_member (tail t.graph 0) (tail t.graph c ∷ tail t.graph b ∷ []) ≡ false
      first = distinct-head (tail t.graph 0) (tail t.graph c ∷ tail t.graph b ∷ []) apart

      second : is_member (tail t.graph c) (tail t.graph b ∷ []) ≡ false
      second = distinct-head (tail t.graph c) (tail t.graph b ∷ []) (distinct-tail (tail t.graph 0) (tail t.graph c ∷ tail t.graph b ∷ []) apart)

      b-other : tail t.graph 0 ≢ tail t.graph b
      b-other q = no_member-head (tail t.graph 0) (tail t.graph b) [] (no_member-tail (tail t.graph 0) (tail t.graph c) (tail t.graph b ∷ []) first) (sym q)

      c-other : tail t.graph 0 ≢ tail t.graph c
      c-other q = no_member-head (tail t.graph 0) (tail t.graph c) (tail t.graph b ∷ []) first (sym q)

      b-fresh : is_member (tail t.graph b) (tail t.graph 0 ∷ []) ≡ false
      b-fresh = no_member-cons (tail t.graph b) (tail t.graph 0) [] b-other refl

      c-fresh : is_member (tail t.graph c) (tail t.graph 0 ∷ tail t.graph b ∷ []) ≡ false
      c-fresh = no_member-cons (tail t.graph c) (tail t.graph 0) (tail t.graph b ∷ []) c-other second

  -- the order before the first removal
  pub part-start : (left : List ℕ) (on0 on1 on2 on : List Bool) (met : List ℕ) → length left ≡ t.graph.vertex_count → ((v : ℕ) → is_marked on0 v ≡ false)
      → ((v : ℕ) → is_marked on1 v ≡ (is_marked on0 v || (v == tail t.graph 0))) → ((v : ℕ) → is_marked on2 v ≡ (is_marked on1 v || (v == tail t.graph (face next 0))))
      → ((v : ℕ) → is_marked on v ≡ (is_marked on2 v || (v == tail t.graph (face next (face next 0))))) → IsMet t.graph on met
      → IsPartOrder t [] (slice_set (slice_set (slice_set left (tail t.graph 0) 0) (tail t.graph (face next 0)) (face next 0)) (tail t.graph (face next (face next 0))) (face next (face next 0))) on met
  part-start left on0 on1 on2 on met e marked0 marked1 marked2 marked3 k = record {
    contours = (0 ∷ c ∷ b ∷ []) ∷ [];
    each = refl;
    contour = λ j l. let z : 0 ≡ j = omega (arith, l) in subst (λ (q : ℕ). IsContour m t.graph next 0 (stays_after t.graph [] q) (slice_index_or ((0 ∷ c ∷ b ∷ []) ∷ []) q [])) z start;
    removal = λ j l. absurd (omega (arith, l));
    present = λ j l. absurd (omega (arith, l));
    begins = refl;
    kept = record { left_each = entered.each ∙ e; counted = k; marked = marked; darts = darts };
    left_over = omega (arith, count-all t.graph.vertex_count (stays_after t.graph [] 0) (λ v l. all-stay v l));
  }
    where
      entered : AreEntered t.graph (0 ∷ b ∷ c ∷ []) left (slice_set (slice_set (slice_set left (tail t.graph 0) 0) (tail t.graph b) b) (tail t.graph c) c)
      entered = triangle-entered left e

      shuffle : (x y z : Bool) → (((false || x) || y) || z) ≡ (x || (z || (y || false)))
      shuffle x y z = grind (arith, cases_Bool x, cases_Bool y, cases_Bool z)

      marked : (v : ℕ) → is_marked on v ≡ on_contour t.graph (0 ∷ c ∷ b ∷ []) v
      marked v = marked3 v ∙ ap (λ (x : Bool). x || (v == tail t.graph c)) (marked2 v ∙ ap (λ (x : Bool). x || (v == tail t.graph b)) (marked1 v ∙ ap (λ (x : Bool). x || (v == tail t.graph 0)) (marked0 v)))
          ∙ shuffle (v == tail t.graph 0) (v == tail t.graph b) (v == tail t.graph c)
          ∙ ap (λ (x : Bool). x || ((v == tail t.graph c) || ((v == tail t.graph b) || false))) (eqb-sides v (tail t.graph 0))
          ∙ ap (λ (x : Bool). (tail t.graph 0 == v) || (x || ((v == tail t.graph b) || false))) (eqb-sides v (tail t.graph c))
          ∙ ap (λ (x : Bool). (tail t.graph 0 == v) || ((tail t.graph c == v) || (x || false))) (eqb-sides v (tail t.graph b))

      among : (d : ℕ) → is_member d (0 ∷ c ∷ b ∷ []) ≡ true → is_member d (0 ∷ b ∷ c ∷ []) ≡ true
      among d n = swap (0 == d) (c == d) (b == d) n
        where
          swap : (x y z : Bool) → (x || (y || (z || false))) ≡ true → (x || (z || (y || false))) ≡ true
          swap x y z q = grind (arith, q, cases_Bool x, cases_Bool y, cases_Bool z)

      darts : (d : ℕ) → is_member d (0 ∷ c ∷ b ∷ []) ≡ true → slice_index (slice_set (slice_set (slice_set left (tail t.graph 0) 0) (tail t.graph b) b) (tail t.graph c) c) (tail t.graph d) ≡ d
      darts d n = entered.new d (among d n)
