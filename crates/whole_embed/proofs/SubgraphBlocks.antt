-- Walks, cycles and blocks of a subgraph under other numbers, and those of the whole graph.
use Rattle.std.proofs.Common.{◌≡◌, ℕ, ◌<◌, ◌≤◌, inl, inr, true, List, [], ◌∷◌, length, map, refl, sym, ap, ◌∙◌, subst, arith}
use Rattle.std.proofs.lemmas.Bool.{false_from_ne_true, both_ways}
use Rattle.std.proofs.lemmas.List.{length-map}
use Rattle.permutations.specs.Members.{is_member, is_distinct}
use Rattle.permutations.proofs.Members.{member-head, member-tail, member-cases, distinct-head, distinct-tail, distinct-cons}
use Rattle.permutations.proofs.Mapped.{map-member, member-map, distinct-map}
use Rattle.multigraph.specs.Graph.{Multigraph, edge_count, ends_of, is_end, other_end, IsGraph}
use Rattle.multigraph.proofs.OtherEnd.{is_end-cases, is_end-from_first, is_end-from_second, other_end-cases, other_end-of_first, other_end-in, end-in}
use Rattle.graph_theory.specs.Path.{walk_end, walk_starts, IsWalk, IsCycle}
use Rattle.graph_theory.specs.Block.{CommonCycle, SameBlock}
use Rattle.graph_theory.proofs.Walks.{walk-edge}
use Rattle.faces.specs.Subgraph.{IsSubgraph}

-- numbers whose images are different are different
distinct-from_map : (f : ℕ → ℕ) (xs : List ℕ) → is_distinct (map f xs) ≡ true → is_distinct xs ≡ true
distinct-from_map f [] h = refl
distinct-from_map f (x ∷ xs) h =
    distinct-cons x xs (false_from_ne_true (is_member x xs) (λ m. both_ways (is_member (f x) (map f xs)) (distinct-head (f x) (map f xs) h) (member-map f xs x m)))
    (distinct-from_map f xs (distinct-tail (f x) (map f xs) h))

module _ (part g : Multigraph) (edge vertex : ℕ → ℕ) (ok : IsGraph part) (sub : IsSubgraph part g edge vertex) where
  -- an end of an edge in the whole graph is one in the subgraph
  pub end-inner : (k v : ℕ) → k < edge_count part → v < part.vertex_count → is_end g (vertex v) (edge k) ≡ true → is_end part v k ≡ true
  end-inner k v lk lv e = elim (is_end-cases g (vertex v) (edge k) e) [
    | inl q ↦ is_end-from_first part v k (sub.vertices_once (ends_of part k).0 v (ok.first_in k lk) lv (sym (sub.first_ends k lk) ∙ q))
    | inr q ↦ is_end-from_second part v k (sub.vertices_once (ends_of part k).1 v (ok.second_in k lk) lv (sym (sub.second_ends k lk) ∙ q))
  ]

  -- and back
  pub end-outer : (k v : ℕ) → k < edge_count part → is_end part v k ≡ true → is_end g (vertex v) (edge k) ≡ true
  end-outer k v lk e = elim (is_end-cases part v k e) [
    | inl q ↦ is_end-from_first g (vertex v) (edge k) (sub.first_ends k lk ∙ ap vertex q)
    | inr q ↦ is_end-from_second g (vertex v) (edge k) (sub.second_ends k lk ∙ ap vertex q)
  ]

  -- an end of an edge of the subgraph in the whole graph is a vertex of the subgraph
  pub end-vertex : (k x : ℕ) → k < edge_count part → is_end g x (edge k) ≡ true → (v : ℕ) × (v < part.vertex_count) × (vertex v ≡ x)
  end-vertex k x lk e = elim (is_end-cases g x (edge k) e) [
    | inl q ↦ ((ends_of part k).0, ok.first_in k lk, sym (sub.first_ends k lk) ∙ q)
    | inr q ↦ ((ends_of part k).1, ok.second_in k lk, sym (sub.second_ends k lk) ∙ q)
  ]

  -- the other end of an edge is the same in both
  other-inner : (k v : ℕ) → k < edge_count part → v < part.vertex_count → vertex (other_end part k v) ≡ other_end g (edge k) (vertex v)
  other-inner k v lk lv = elim (other_end-cases part k v) [
    | inl w ↦ ap vertex w.1 ∙ (sym (sub.second_ends k lk) ∙ sym (other_end-of_first g (edge k) (vertex v) (sub.first_ends k lk ∙ ap vertex w.0)))
    | inr w ↦ elim (other_end-cases g (edge k) (vertex v)) [
      | inl c ↦ absurd (w.0 (sub.vertices_once (ends_of part k).0 v (ok.first_in k lk) lv (sym (sub.first_ends k lk) ∙ c.0)))
      | inr c ↦ ap vertex w.1 ∙ (sym (sub.first_ends k lk) ∙ sym c.1)
    ]
  ]

  -- edges of a walk of the whole graph, as a walk of the subgraph
  record InnerWalk (v : ℕ) (es : List ℕ) : Type 0 where
    inner : List ℕ
    are : map edge inner ≡ es
    walk : IsWalk part v inner
    starts : map vertex (walk_starts part v inner) ≡ walk_starts g (vertex v) es
    leads : vertex (walk_end part v inner) ≡ walk_end g (vertex v) es
    leads_in : walk_end part v inner < part.vertex_count

  -- an edge that the subgraph has
  abbrev Has : ℕ → Type 0
  Has e = (k : ℕ) × (k < edge_count part) × (edge k ≡ e)

  -- a walk along edges of the subgraph is one of it
  inner-walk : (v : ℕ) (es : List ℕ) → v < part.vertex_count → IsWalk g (vertex v) es → ((e : ℕ) → is_member e es ≡ true → Has e) → InnerWalk v es
  inner-walk v [] l w m = record { inner = []; are = refl; walk = tt; starts = refl; leads = refl; leads_in = l }
  inner-walk v (e ∷ es) l w m =
      let c = m e (member-head e es) in
      let next = other_end part c.0 v in
      let o : vertex next ≡ other_end g e (vertex v) = other-inner c.0 v c.1 l ∙ ap (λ (z : ℕ). other_end g z (vertex v)) c.2 in
      let r : InnerWalk next es = inner-walk next es (other_end-in part c.0 v ok c.1) (subst (λ (z : ℕ). IsWalk g z es) (sym o) w.1) (λ f i. m f (member-tail f e es i)) in
      record {
        inner = c.0 ∷ r.inner;
        are = ap (λ (z : ℕ). z ∷ map edge r.inner) c.2 ∙ ap (λ (l : List ℕ). e ∷ l) r.are;
        walk = ((c.1, end-inner c.0 v c.1 l (subst (λ (z : ℕ). is_end g (vertex v) z ≡ true) (sym c.2) w.0.1)), r.walk);
        starts = ap (λ (l : List ℕ). vertex v ∷ l) (r.starts ∙ ap (λ (z : ℕ). walk_starts g z es) o);
        leads = r.leads ∙ ap (λ (z : ℕ). walk_end g z es) o;
        leads_in = r.leads_in;
      }

  -- a cycle along edges of the subgraph is one of it
  inner-cycle : (v i j : ℕ) (es : List ℕ) → v < part.vertex_count → i < edge_count part → j < edge_count part → IsCycle g (vertex v) es → ((e : ℕ) → is_member e es ≡ true → Has e)
      → is_member (edge i) es ≡ true → is_member (edge j) es ≡ true → CommonCycle part i j
  inner-cycle v i j es l li lj c m a b =
      let r : InnerWalk v es = inner-walk v es l c.walk m in
      record {
        start = v;
        along = r.inner;
        cycle = record {
          walk = r.walk;
          returns = sub.vertices_once (walk_end part v r.inner) v r.leads_in l (r.leads ∙ c.returns);
          two = omega (arith, c.two, sym (length-map r.inner edge) ∙ ap (λ (l : List ℕ). length l) r.are);
          edges = distinct-from_map edge r.inner (subst (λ (l : List ℕ). is_distinct l ≡ true) (sym r.are) c.edges);
          vertices = distinct-from_map vertex (walk_starts part v r.inner) (subst (λ (l : List ℕ). is_distinct l ≡ true) (sym r.starts) c.vertices);
        };
        first_on = on i li r a;
        second_on = on j lj r b;
      }
    where
      on : (i : ℕ) → i < edge_count part → (r : InnerWalk v es) → is_member (edge i) es ≡ true → is_member i r.inner ≡ true
      on i li r a =
          let w = map-member edge r.inner (edge i) (subst (λ (l : List ℕ). is_member (edge i) l ≡ true) (sym r.are) a) in
          subst (λ (z : ℕ). is_member z r.inner ≡ true) (sub.edges_once w.0 i (walk-edge part v r.inner r.walk w.0 w.1) li w.2) w.1

  -- edges of one block of the whole graph, all of whose edges the subgraph has, are of one block of it
  pub inner-same : (i j : ℕ) → i < edge_count part → j < edge_count part → ((e : ℕ) → e < edge_count g → SameBlock g (edge i) e → Has e) → SameBlock g (edge i) (edge j) → SameBlock part i j
  inner-same i j li lj closed s = elim s [
    | inl e ↦ inl (sub.edges_once i j li lj e)
    | inr c ↦
        let within : (e : ℕ) → is_member e c.along ≡ true → Has e = λ e m.
        closed e (walk-edge g c.start c.along c.cycle.walk e m) (inr (record { start = c.start; along = c.along; cycle = c.cycle; first_on = c.first_on; second_on = m })) in
        let v = begins c.start c.along c.cycle.two c.cycle.walk within in
        inr (inner-cycle v.0 i j c.along v.1 li lj (subst (λ (z : ℕ). IsCycle g z c.along) (sym v.2) c.cycle) within c.first_on c.second_on)
  ]
    where
      begins : (x : ℕ) (es : List ℕ) → 2 ≤ length es → IsWalk g x es → ((e : ℕ) → is_member e es ≡ true → Has e) → (v : ℕ) × (v < part.vertex_count) × (vertex v ≡ x)
      begins x [] l w m = absurd (omega (arith, l))
      begins x (e ∷ es) l w m = let k = m e (member-head e es) in end-vertex k.0 x k.1 (subst (λ (z : ℕ). is_end g x z ≡ true) (sym k.2) w.0.1)

  -- edges of a walk of the subgraph, as a walk of the whole graph
  record OuterWalk (v : ℕ) (es : List ℕ) : Type 0 where
    walk : IsWalk g (vertex v) (map edge es)
    leads : walk_end g (vertex v) (map edge es) ≡ vertex (walk_end part v es)
    starts : walk_starts g (vertex v) (map edge es) ≡ map vertex (walk_starts part v es)
    within : (y : ℕ) → is_member y (walk_starts part v es) ≡ true → y < part.vertex_count

  outer-walk : (v : ℕ) (es : List ℕ) → v < part.vertex_count → IsWalk part v es → OuterWalk v es
  outer-walk v [] l w = record { walk = tt; leads = refl; starts = refl; within = λ y m. absurd (both_ways (is_member y []) refl m) }
  outer-walk v (k ∷ es) l w =
      let lk : k < edge_count part = w.0.0 in
      let next = other_end part k v in
      let o : vertex next ≡ other_end g (edge k) (vertex v) = other-inner k v lk l in
      let r : OuterWalk next es = outer-walk next es (other_end-in part k v ok lk) w.1 in
      record {
        walk = ((sub.edges k lk, end-outer k v lk w.0.1), subst (λ (z : ℕ). IsWalk g z (map edge es)) o r.walk);
        leads = ap (λ (z : ℕ). walk_end g z (map edge es)) (sym o) ∙ r.leads;
        starts = ap (λ (z : List ℕ). vertex v ∷ z) (ap (λ (z : ℕ). walk_starts g z (map edge es)) (sym o) ∙ r.starts);
        within = λ y m. elim (member-cases y v (walk_starts part next es) m) [ inl q ↦ subst (λ z. z < part.vertex_count) q l | inr n ↦ r.within y n ];
      }

  -- a cycle of the subgraph starts at one of its vertices
  start-in : (x : ℕ) (es : List ℕ) → 2 ≤ length es → IsWalk part x es → x < part.vertex_count
  start-in x [] l w = absurd (omega (arith, l))
  start-in x (e ∷ es) l w = end-in part x e ok w.0.0 w.0.1

  -- edges of one block of the subgraph are of one block of the whole graph
  pub outer-same : (i j : ℕ) → i < edge_count part → j < edge_count part → SameBlock part i j → SameBlock g (edge i) (edge j)
  outer-same i j li lj s = elim s [
    | inl e ↦ inl (ap edge e)
    | inr c ↦
        let l : c.start < part.vertex_count = start-in c.start c.along c.cycle.two c.cycle.walk in
        let r : OuterWalk c.start c.along = outer-walk c.start c.along l c.cycle.walk in
        inr (record {
          start = vertex c.start;
          along = map edge c.along;
          cycle = record {
            walk = r.walk;
            returns = r.leads ∙ ap vertex c.cycle.returns;
            two = omega (arith, c.cycle.two, length-map c.along edge);
            edges = distinct-map edge c.along (λ x y m n. sub.edges_once x y (walk-edge part c.start c.along c.cycle.walk x m) (walk-edge part c.start c.along c.cycle.walk y n)) c.cycle.edges;
            vertices = subst (λ (l : List ℕ). is_distinct l ≡ true) (sym r.starts)
                (distinct-map vertex (walk_starts part c.start c.along) (λ x y m n. sub.vertices_once x y (r.within x m) (r.within y n)) c.cycle.vertices);
          };
          first_on = member-map edge c.along i c.first_on;
          second_on = member-map edge c.along j c.second_on;
        })
  ]
