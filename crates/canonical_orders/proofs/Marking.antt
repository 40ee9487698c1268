-- How many neighbours of each vertex are marked, when a vertex is marked or no longer marked.
use Rattle.std.proofs.Common.{◌≡◌, ◌≢◌, ℕ, ◌+◌, ◌^◌, ◌<◌, inl, inr, Bool, true, false, not, ◌&&◌, ◌==◌, cond, List, length, slice_index, slice_set, refl, sym, ap, ◌∙◌, subst, arith}
use Rattle.std.proofs.lemmas.Bool.{cases_Bool, cases_eq, cases_lt, eq-eqb, ne_eqb}
use Rattle.std.proofs.lemmas.List.{get_or-set_same, get_or-set_other, get_or_past, length-set}
use Rattle.permutations.specs.Count.{count}
use Rattle.permutations.specs.Members.{is_member, is_distinct}
use Rattle.permutations.proofs.Arrangements.{member-at}
use Rattle.permutations.proofs.Count.{count-ext, count-remove, count-positive, count-less, count-all}
use Rattle.permutations.proofs.Mapped.{member-map, map-member, distinct-map}
use Rattle.permutations.proofs.Relation.{same-tests}
use Rattle.permutations.proofs.Rings.{ring-member, ring-below, ring-distinct}
use Rattle.dart_maps.specs.Map.{twin}
use Rattle.dart_maps.proofs.Darts.{twin-twin, twin-below}
use Rattle.multigraph.specs.Graph.{Multigraph, edge_count}
use Rattle.multigraph.specs.Marks.{is_marked}
use Rattle.faces.specs.Euler.{tail, dart_count}
use Rattle.triangulations.specs.Listed.{ListedMap}
use Rattle.canonical_orders.specs.Free.{is_adjacent}
use Rattle.canonical_orders.specs.State.{IsTriangulatedMap, IsMet, heads_of, ring_of}
use Rattle.triangulations.proofs.SimpleMaps.{one-tail, one-vertex}
use Rattle.canonical_orders.proofs.FreeVertex.{dart-adjacent, adjacent-dart}
use Rattle.canonical_orders.proofs.Maps.{head-inside}

-- one number more passes, where the other test says so
count-added : (n : ℕ) (p q : ℕ → Bool) (u : ℕ) (b : Bool) → u < n → p u ≡ false → ((x : ℕ) → x ≢ u → q x ≡ p x) → q u ≡ b → count n q ≡ count n p + cond b 1 0
count-added n p q u true l off same was = count-remove n q u l was ∙ ap (λ (k : ℕ). k + 1) (count-ext n (λ x. q x && not (x == u)) p (λ x m. at x))
  where
    keep : (b : Bool) → (b && not false) ≡ b
    keep b = grind (arith, cases_Bool b)

    drop : (b : Bool) → (b && not true) ≡ false
    drop b = grind (arith, cases_Bool b)

    at : (x : ℕ) → (q x && not (x == u)) ≡ p x
    at x = elim (cases_eq x u) [
      | inl e ↦ ap (λ (b : Bool). q x && not b) (eq-eqb x u e) ∙ drop (q x) ∙ sym (ap p e ∙ off)
      | inr e ↦ ap (λ (b : Bool). q x && not b) (ne_eqb x u e) ∙ keep (q x) ∙ same x e
    ]
count-added n p q u false l off same was = count-ext n q p (λ x m. elim (cases_eq x u) [ inl e ↦ ap q e ∙ was ∙ sym (ap p e ∙ off) | inr e ↦ same x e ]) ∙ (let z : count n p ≡ count n p + 0 = omega arith in z)

-- where a vertex is not marked, the counts are less than the number of vertices
pub met-small : (h : Multigraph) (on : List Bool) (met : List ℕ) (u : ℕ) → IsMet h on met → u < h.vertex_count → is_marked on u ≡ false → (v : ℕ) → slice_index met v + 1 < 2 ^ 32
met-small h on met u k l off v = elim (cases_lt v h.vertex_count) [
  | inl i ↦
      let fewer : count h.vertex_count (λ x. is_marked on x && is_adjacent h v x) < count h.vertex_count (λ x. true)
      = count-less h.vertex_count (λ x. is_marked on x && is_adjacent h v x) (λ x. true) u (λ x m t. refl) l (ap (λ (b : Bool). b && is_adjacent h v u) off) refl in
      omega (arith, fewer, count-all h.vertex_count (λ x. true) (λ x m. refl), k.counts v i, k.few)
  | inr i ↦ let z : slice_index met v ≡ 0 = get_or_past met v 0 (omega (arith, i, k.met_each)) in omega (arith, z)
]

-- a vertex with a marked neighbour has met one
pub met-positive : (h : Multigraph) (on : List Bool) (met : List ℕ) (u v : ℕ) → IsMet h on met → u < h.vertex_count → v < h.vertex_count → is_marked on u ≡ true → is_adjacent h v u ≡ true → 0 < slice_index met v
met-positive h on met u v k l i m a = let some : 0 < count h.vertex_count (λ x. is_marked on x && is_adjacent h v x) = count-positive h.vertex_count (λ x. is_marked on x && is_adjacent h v x) u l (both (is_marked on u) (is_adjacent h v u) m a) in
    omega (arith, some, k.counts v i)
  where
    both : (a b : Bool) → a ≡ true → b ≡ true → (a && b) ≡ true
    both a b p q = grind (arith, p, q)

module _ (h : Multigraph) (on : List Bool) (met after : List ℕ) (u : ℕ) (k : IsMet h on met) (l : u < h.vertex_count) (each : length after ≡ h.vertex_count) where
  within : u < length on
  within = omega (arith, l, k.on_each)

  -- a vertex is marked that was not
  pub met-more : is_marked on u ≡ false → ((v : ℕ) → slice_index after v ≡ slice_index met v + cond (is_adjacent h v u) 1 0) → IsMet h (slice_set on u true) after
  met-more off counted = record {
    on_each = length-set on u true ∙ k.on_each;
    met_each = each;
    few = k.few;
    counts = λ v i. counted v ∙ ap (λ (j : ℕ). j + cond (is_adjacent h v u) 1 0) (k.counts v i)
        ∙ sym (count-added h.vertex_count (λ x. is_marked on x && is_adjacent h v x) (λ x. is_marked (slice_set on u true) x && is_adjacent h v x) u (is_adjacent h v u) l
        (ap (λ (b : Bool). b && is_adjacent h v u) off) (λ x n. ap (λ (b : Bool). b && is_adjacent h v x) (get_or-set_other on u x true false n)) (ap (λ (b : Bool). b && is_adjacent h v u) (get_or-set_same on u true false within)));
  }

  -- a vertex is no longer marked that was
  pub met-less : is_marked on u ≡ true → ((v : ℕ) → slice_index met v ≡ slice_index after v + cond (is_adjacent h v u) 1 0) → IsMet h (slice_set on u false) after
  met-less was counted = record {
    on_each = length-set on u false ∙ k.on_each;
    met_each = each;
    few = k.few;
    counts = λ v i. cancel (slice_index after v) (count h.vertex_count (λ x. is_marked (slice_set on u false) x && is_adjacent h v x)) (cond (is_adjacent h v u) 1 0)
        (sym (counted v) ∙ k.counts v i ∙ count-added h.vertex_count (λ x. is_marked (slice_set on u false) x && is_adjacent h v x) (λ x. is_marked on x && is_adjacent h v x) u (is_adjacent h v u) l
        (ap (λ (b : Bool). b && is_adjacent h v u) (get_or-set_same on u false false within)) (λ x n. ap (λ (b : Bool). b && is_adjacent h v x) (sym (get_or-set_other on u x false false n))) (ap (λ (b : Bool). b && is_adjacent h v u) was));
  }
    where
      cancel : (a b c : ℕ) → a + c ≡ b + c → a ≡ b
      cancel a b c e = omega (arith, e)

module _ (t : ListedMap) (i : IsTriangulatedMap t) (x : ℕ) (l : x < dart_count t.graph) where
  -- the darts around a vertex are darts
  pub ring-in : (k : ℕ) → k < length (ring_of t x) → slice_index (ring_of t x) k < dart_count t.graph
  ring-in k j = ring-below (dart_count t.graph) (slice_index t.next) (slice_index t.previous) i.map.drawn.map x l (slice_index (ring_of t x) k) (member-at (ring_of t x) k 0 j)

  -- and leave it
  pub ring-leaves : (z : ℕ) → is_member z (ring_of t x) ≡ true → (z < dart_count t.graph) × (tail t.graph z ≡ tail t.graph x)
  ring-leaves z m = let b = ring-below (dart_count t.graph) (slice_index t.next) (slice_index t.previous) i.map.drawn.map x l z m in
      (b, sym (one-tail (edge_count t.graph) t.graph (slice_index t.next) (slice_index t.previous) i.map x z l b (sym (ring-member (dart_count t.graph) (slice_index t.next) (slice_index t.previous) i.map.drawn.map x l z) ∙ m)))

  -- they lead to different vertices
  pub ring-differ : is_distinct (heads_of t.graph (ring_of t x)) ≡ true
  ring-differ = distinct-map (λ d. tail t.graph (twin d)) (ring_of t x)
      (λ y z m n e. i.map.simple y z (ring-leaves y m).0 (ring-leaves z n).0 ((ring-leaves y m).1 ∙ sym (ring-leaves z n).1) e)
      (ring-distinct (dart_count t.graph) (slice_index t.next) (slice_index t.previous) i.map.drawn.map x l)

  -- which are its neighbours
  pub ring-adjacent : (v : ℕ) → is_member v (heads_of t.graph (ring_of t x)) ≡ is_adjacent t.graph v (tail t.graph x)
  ring-adjacent v = same-tests (is_member v (heads_of t.graph (ring_of t x))) (is_adjacent t.graph v (tail t.graph x)) to from
    where
      to : is_member v (heads_of t.graph (ring_of t x)) ≡ true → is_adjacent t.graph v (tail t.graph x) ≡ true
      to m = let d = map-member (λ d. tail t.graph (twin d)) (ring_of t x) v m in
          dart-adjacent (edge_count t.graph) t.graph refl (twin d.0) (twin-below (edge_count t.graph) d.0 (ring-leaves d.0 d.1).0) v (tail t.graph x) d.2 (ap (tail t.graph) (twin-twin d.0) ∙ (ring-leaves d.0 d.1).1)

      from : is_adjacent t.graph v (tail t.graph x) ≡ true → is_member v (heads_of t.graph (ring_of t x)) ≡ true
      from a = let d = adjacent-dart (edge_count t.graph) t.graph refl v (tail t.graph x) a in
          subst (λ (z : ℕ). is_member z (heads_of t.graph (ring_of t x)) ≡ true) (ap (tail t.graph) (twin-twin d.0) ∙ d.2)
          (member-map (λ d. tail t.graph (twin d)) (ring_of t x) (twin d.0)
          (ring-member (dart_count t.graph) (slice_index t.next) (slice_index t.previous) i.map.drawn.map x l (twin d.0)
          ∙ one-vertex (edge_count t.graph) t.graph (slice_index t.next) (slice_index t.previous) i.map x (twin d.0) l (twin-below (edge_count t.graph) d.0 d.1) (sym d.3)))

  -- the neighbours of a marked vertex have met it
  pub ring-met : (on : List Bool) (met : List ℕ) → IsMet t.graph on met → is_marked on (tail t.graph x) ≡ true → (v : ℕ) → is_member v (heads_of t.graph (ring_of t x)) ≡ true → 0 < slice_index met v
  ring-met on met k m v n = met-positive t.graph on met (tail t.graph x) v k (i.map.drawn.inside x l) inside m (sym (ring-adjacent v) ∙ n)
    where
      inside : v < t.graph.vertex_count
      inside = let d = map-member (λ d. tail t.graph (twin d)) (ring_of t x) v n in subst (λ (z : ℕ). z < t.graph.vertex_count) d.2 (head-inside t i d.0 (ring-leaves d.0 d.1).0)

  -- the vertex is marked
  pub ring-marked : (on : List Bool) (met after : List ℕ) → IsMet t.graph on met → is_marked on (tail t.graph x) ≡ false → length after ≡ t.graph.vertex_count
      → ((v : ℕ) → slice_index after v ≡ slice_index met v + cond (is_member v (heads_of t.graph (ring_of t x))) 1 0) → IsMet t.graph (slice_set on (tail t.graph x) true) after
  ring-marked on met after k off each counted = met-more t.graph on met after (tail t.graph x) k (i.map.drawn.inside x l) each off
      (λ v. counted v ∙ ap (λ (b : Bool). slice_index met v + cond b 1 0) (ring-adjacent v))

  -- or no longer
  pub ring-unmarked : (on : List Bool) (met after : List ℕ) → IsMet t.graph on met → is_marked on (tail t.graph x) ≡ true → length after ≡ t.graph.vertex_count
      → ((v : ℕ) → slice_index met v ≡ slice_index after v + cond (is_member v (heads_of t.graph (ring_of t x))) 1 0) → IsMet t.graph (slice_set on (tail t.graph x) false) after
  ring-unmarked on met after k was each counted = met-less t.graph on met after (tail t.graph x) k (i.map.drawn.inside x l) each was
      (λ v. counted v ∙ ap (λ (b : Bool). slice_index after v + cond b 1 0) (ring-adjacent v))
