-- The part of a graph that some edges make: walks and cycles along these edges are walks and cycles of the part, and where the
-- edges are one class of edges on common cycles, the part is one block.
use Rattle.std.proofs.Common.{◌≡◌, ℕ, ◌<◌, ◌≤◌, inl, inr, true, List, [], ◌∷◌, length, map, slice_index, refl, sym, ap, ◌∙◌, subst, arith, Contains}
use Rattle.std.proofs.lemmas.Bool.{false_from_ne_true, both_ways}
use Rattle.std.proofs.lemmas.List.{get_or_default, length-map}
use Rattle.std.proofs.lemmas.List.Elements.{Contains-get_or}
use Rattle.permutations.specs.Members.{is_member, is_distinct}
use Rattle.permutations.proofs.Members.{member-head, member-tail, distinct-head, distinct-tail, distinct-cons}
use Rattle.permutations.proofs.Arrangements.{contains-from_member, member-at}
use Rattle.permutations.proofs.Mapped.{map-member, member-map}
use Rattle.multigraph.specs.Graph.{Multigraph, edge_count, ends_of, is_end, other_end}
use Rattle.multigraph.specs.Part.{GraphPart, Rises, IsPart, IsEndOf}
use Rattle.multigraph.proofs.OtherEnd.{is_end-cases, is_end-from_first, is_end-from_second, other_end-cases, other_end-of_first, other_end-in}
use Rattle.multigraph.proofs.Places.{rises-once}
use Rattle.graph_theory.specs.Path.{walk_end, walk_starts, IsWalk, IsCycle}
use Rattle.graph_theory.specs.Block.{CommonCycle, SameBlock, IsOneBlock}
use Rattle.graph_theory.proofs.Walks.{walk-edge}

-- numbers whose images are different are different
distinct-from_map : (f : ℕ → ℕ) (xs : List ℕ) → is_distinct (map f xs) ≡ true → is_distinct xs ≡ true
distinct-from_map f [] h = refl
distinct-from_map f (x ∷ xs) h =
    distinct-cons x xs (false_from_ne_true (is_member x xs) (λ m. both_ways (is_member (f x) (map f xs)) (distinct-head (f x) (map f xs) h) (member-map f xs x m)))
    (distinct-from_map f xs (distinct-tail (f x) (map f xs) h))

-- a walk of some edges has the vertex where it starts as an end of its first
first-edge : (g : Multigraph) (x : ℕ) (es : List ℕ) → 2 ≤ length es → IsWalk g x es → (e : ℕ) × (is_member e es ≡ true) × (is_end g x e ≡ true)
first-edge g x [] l w = absurd (omega (arith, l))
first-edge g x (e ∷ es) l w = (e, member-head e es, w.0.1)

module _ (g : Multigraph) (edges : List ℕ) (part : GraphPart) (h : IsPart g edges part) where
  -- the vertex of the whole graph
  abbrev outer : ℕ → ℕ
  outer v = slice_index part.vertices v

  -- an edge is in the part
  edge-in : (k : ℕ) → k < length edges → k < edge_count part.graph
  edge-in k l = omega (arith, l, h.ends.each)

  -- the part has no other edges
  in-edges : (k : ℕ) → k < edge_count part.graph → k < length edges
  in-edges k l = omega (arith, l, h.ends.each)

  -- a vertex of the whole graph is one vertex of the part
  same-vertex : (u v : ℕ) → u < length part.vertices → v < length part.vertices → outer u ≡ outer v → u ≡ v
  same-vertex u v = rises-once part.vertices h.numbered.vertices_rise u v

  -- an edge of the whole graph is one edge of the part
  same-edge : (i j : ℕ) → i < length edges → j < length edges → slice_index edges i ≡ slice_index edges j → i ≡ j
  same-edge i j = rises-once edges (subst (λ (l : List ℕ). Rises l) h.edges_are h.numbered.edges_rise) i j

  -- an end of an edge in the whole graph is one in the part
  end-inner : (k v : ℕ) → k < length edges → v < length part.vertices → is_end g (outer v) (slice_index edges k) ≡ true → is_end part.graph v k ≡ true
  end-inner k v lk lv e = elim (is_end-cases g (outer v) (slice_index edges k) e) [
    | inl q ↦ is_end-from_first part.graph v k (same-vertex (ends_of part.graph k).0 v (h.ends.first_in k lk) lv (h.ends.first k lk ∙ q))
    | inr q ↦ is_end-from_second part.graph v k (same-vertex (ends_of part.graph k).1 v (h.ends.second_in k lk) lv (h.ends.second k lk ∙ q))
  ]

  -- the other end of an edge is the same in both
  other-inner : (k v : ℕ) → k < length edges → v < length part.vertices → outer (other_end part.graph k v) ≡ other_end g (slice_index edges k) (outer v)
  other-inner k v lk lv = elim (other_end-cases part.graph k v) [
    | inl w ↦ ap (λ (z : ℕ). outer z) w.1 ∙ h.ends.second k lk ∙ sym (other_end-of_first g (slice_index edges k) (outer v) (sym (h.ends.first k lk) ∙ ap (λ (z : ℕ). outer z) w.0))
    | inr w ↦ elim (other_end-cases g (slice_index edges k) (outer v)) [
      | inl c ↦ absurd (w.0 (same-vertex (ends_of part.graph k).0 v (h.ends.first_in k lk) lv (h.ends.first k lk ∙ c.0)))
      | inr c ↦ ap (λ (z : ℕ). outer z) w.1 ∙ h.ends.first k lk ∙ sym c.1
    ]
  ]

  -- it is in the part
  other-in : (k v : ℕ) → k < length edges → other_end part.graph k v < length part.vertices
  other-in k v l = omega (arith, other_end-in part.graph k v h.numbered.is_graph (edge-in k l), h.numbered.vertex_each)

  -- edges of a walk of the whole graph, as a walk of the part
  record InnerWalk (v : ℕ) (es : List ℕ) : Type 0 where
    inner : List ℕ
    are : map (slice_index edges) inner ≡ es
    walk : IsWalk part.graph v inner
    starts : map (slice_index part.vertices) (walk_starts part.graph v inner) ≡ walk_starts g (outer v) es
    leads : outer (walk_end part.graph v inner) ≡ walk_end g (outer v) es
    leads_in : walk_end part.graph v inner < length part.vertices

  -- a walk along these edges is one of the part
  inner-walk : (v : ℕ) (es : List ℕ) → v < length part.vertices → IsWalk g (outer v) es → ((e : ℕ) → is_member e es ≡ true → is_member e edges ≡ true) → InnerWalk v es
  inner-walk v [] l w m = record { inner = []; are = refl; walk = tt; starts = refl; leads = refl; leads_in = l }
  inner-walk v (e ∷ es) l w m =
      let c = contains-from_member edges e (m e (member-head e es)) in
      let k = c.0 in
      let at : slice_index edges k ≡ e = get_or_default edges k 0 e c.1 ∙ c.2 in
      let next = other_end part.graph k v in
      let o : outer next ≡ other_end g e (outer v) = other-inner k v c.1 l ∙ ap (λ (z : ℕ). other_end g z (outer v)) at in
      let r : InnerWalk next es = inner-walk next es (other-in k v c.1) (subst (λ (z : ℕ). IsWalk g z es) (sym o) w.1) (λ f i. m f (member-tail f e es i)) in
      record {
        inner = k ∷ r.inner;
        are = ap (λ (z : ℕ). z ∷ map (slice_index edges) r.inner) at ∙ ap (λ (l : List ℕ). e ∷ l) r.are;
        walk = ((edge-in k c.1, end-inner k v c.1 l (subst (λ (z : ℕ). is_end g (outer v) z ≡ true) (sym at) w.0.1)), r.walk);
        starts = ap (λ (l : List ℕ). outer v ∷ l) (r.starts ∙ ap (λ (z : ℕ). walk_starts g z es) o);
        leads = r.leads ∙ ap (λ (z : ℕ). walk_end g z es) o;
        leads_in = r.leads_in;
      }

  -- a cycle along these edges is one of the part
  inner-cycle : (v i j : ℕ) (es : List ℕ) → v < length part.vertices → i < length edges → j < length edges → IsCycle g (outer v) es → ((e : ℕ) → is_member e es ≡ true → is_member e edges ≡ true)
      → is_member (slice_index edges i) es ≡ true → is_member (slice_index edges j) es ≡ true → CommonCycle part.graph i j
  inner-cycle v i j es l li lj c m a b =
      let r : InnerWalk v es = inner-walk v es l c.walk m in
      record {
        start = v;
        along = r.inner;
        cycle = record {
          walk = r.walk;
          returns = same-vertex (walk_end part.graph v r.inner) v r.leads_in l (r.leads ∙ c.returns);
          two = omega (arith, c.two, sym (length-map r.inner (slice_index edges)) ∙ ap (λ (l : List ℕ). length l) r.are);
          edges = distinct-from_map (slice_index edges) r.inner (subst (λ (l : List ℕ). is_distinct l ≡ true) (sym r.are) c.edges);
          vertices = distinct-from_map (slice_index part.vertices) (walk_starts part.graph v r.inner) (subst (λ (l : List ℕ). is_distinct l ≡ true) (sym r.starts) c.vertices);
        };
        first_on = on i li r a;
        second_on = on j lj r b;
      }
    where
      on : (i : ℕ) → i < length edges → (r : InnerWalk v es) → is_member (slice_index edges i) es ≡ true → is_member i r.inner ≡ true
      on i li r a =
          let w = map-member (slice_index edges) r.inner (slice_index edges i) (subst (λ (l : List ℕ). is_member (slice_index edges i) l ≡ true) (sym r.are) a) in
          subst (λ (z : ℕ). is_member z r.inner ≡ true) (same-edge w.0 i (in-edges w.0 (walk-edge part.graph v r.inner r.walk w.0 w.1)) li w.2) w.1

  -- what is in the same block by cycles along these edges, is so in the part
  inner-same : ((e f : ℕ) → is_member e edges ≡ true → f < edge_count g → SameBlock g e f → is_member f edges ≡ true) → (i j : ℕ) → i < length edges → j < length edges
      → SameBlock g (slice_index edges i) (slice_index edges j) → SameBlock part.graph i j
  inner-same closed i j li lj s = elim s [
    | inl e ↦ inl (same-edge i j li lj e)
    | inr c ↦
        let within : (e : ℕ) → is_member e c.along ≡ true → is_member e edges ≡ true = λ e m.
        closed (slice_index edges i) e (member-at edges i 0 li) (walk-edge g c.start c.along c.cycle.walk e m) (inr (record { start = c.start; along = c.along; cycle = c.cycle; first_on = c.first_on; second_on = m })) in
        let first = first-edge g c.start c.along c.cycle.two c.cycle.walk in
        let v : Contains part.vertices c.start = (h.vertices c.start).1 (record { edge = first.0; among = contains-from_member edges first.0 (within first.0 first.1); is_edge = walk-edge g c.start c.along c.cycle.walk first.0 first.1; ends_there = first.2 }) in
        let at : outer v.0 ≡ c.start = get_or_default part.vertices v.0 0 c.start v.1 ∙ v.2 in
        inr (inner-cycle v.0 i j c.along v.1 li lj (subst (λ (z : ℕ). IsCycle g z c.along) (sym at) c.cycle) within c.first_on c.second_on)
  ]

  -- each vertex of the part has an edge
  inner-edge : (v : ℕ) → v < part.graph.vertex_count → (e : ℕ) × (e < edge_count part.graph) × (is_end part.graph v e ≡ true)
  inner-edge v l =
      let lv : v < length part.vertices = omega (arith, l, h.numbered.vertex_each) in
      let w : IsEndOf g edges (outer v) = (h.vertices (outer v)).0 (Contains-get_or part.vertices v 0 lv) in
      let c : Contains edges w.edge = w.among in
      (c.0, edge-in c.0 c.1, end-inner c.0 v c.1 lv (subst (λ (z : ℕ). is_end g (outer v) z ≡ true) (sym (get_or_default edges c.0 0 w.edge c.1 ∙ c.2)) w.ends_there))

  -- the part of edges that share a block, of which there are some, and which have all edges of that block, is one block
  pub part-one_block : 0 < length edges → ((e f : ℕ) → is_member e edges ≡ true → is_member f edges ≡ true → SameBlock g e f)
      → ((e f : ℕ) → is_member e edges ≡ true → f < edge_count g → SameBlock g e f → is_member f edges ≡ true) → IsOneBlock part.graph
  part-one_block some same closed = record {
    has_edge = omega (arith, some, h.ends.each);
    at_edge = inner-edge;
    same_block = λ i j li lj.
        let ki : i < length edges = in-edges i li in
        let kj : j < length edges = in-edges j lj in
        inner-same closed i j ki kj (same (slice_index edges i) (slice_index edges j) (member-at edges i 0 ki) (member-at edges j 0 kj));
  }
