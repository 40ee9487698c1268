-- Paths along some edges of a graph, and those of the part that these edges make.
use Rattle.std.proofs.Common.{◌≡◌, ◌≢◌, ℕ, ◌<◌, ◌⊎◌, inl, inr, true, None, Some, List, [], ◌∷◌, length, map, slice_index, refl, sym, ap, ◌∙◌, subst, arith}
use Rattle.std.proofs.lemmas.Bool.{true≢false}
use Rattle.std.proofs.lemmas.List.{get_or_default}
use Rattle.permutations.specs.Members.{is_member, is_distinct}
use Rattle.permutations.specs.Relation.{connected}
use Rattle.permutations.proofs.Members.{member-head, member-tail, member-cases}
use Rattle.permutations.proofs.Relation.{connected-reflexive, connected-transitive, connected-symmetric}
use Rattle.permutations.proofs.Arrangements.{contains-from_member, member-at}
use Rattle.permutations.proofs.Mapped.{map-member, distinct-map}
use Rattle.multigraph.specs.Graph.{Multigraph, edge_count, ends_of, is_end, other_end}
use Rattle.multigraph.specs.Part.{GraphPart, IsPart, IsEndOf, IsPlace}
use Rattle.multigraph.proofs.OtherEnd.{is_end-cases, is_end-from_first, is_end-from_second, other_end-cases, other_end-of_first, other_end-in, other_end-is_end}
use Rattle.multigraph.proofs.Places.{rises-once}
use Rattle.graph_theory.specs.Path.{walk_end, walk_vertices, IsWalk, IsPath}
use Rattle.graph_theory.proofs.Connection.{other-connected}
use Rattle.graph_theory.proofs.Walks.{walk-edge, last-met}
use Rattle.graph_paths.specs.Along.{PathAlong}

-- a vertex of a walk is where it begins, or an end of one of its edges
met-edge_end : (g : Multigraph) (x : ℕ) (es : List ℕ) → IsWalk g x es → (w : ℕ) → is_member w (walk_vertices g x es) ≡ true → (w ≡ x) ⊎ ((e : ℕ) × (is_member e es ≡ true) × (is_end g w e ≡ true))
met-edge_end g x [] k w m = elim (member-cases w x [] m) [ inl q ↦ inl (sym q) | inr n ↦ absurd (true≢false (sym n)) ]
met-edge_end g x (e ∷ es) k w m = elim (member-cases w x (walk_vertices g (other_end g e x) es) m) [
  | inl q ↦ inl (sym q)
  | inr n ↦ elim (met-edge_end g (other_end g e x) es k.1 w n) [
    | inl q ↦ inr (e, member-head e es, subst (λ z. is_end g z e ≡ true) (sym q) (other_end-is_end g e x))
    | inr f ↦ inr (f.0, member-tail f.0 e es f.1, f.2)
  ]
]

-- the first vertex of a path along some edges is an end of one of them
pub begins-at : (g : Multigraph) (edges : List ℕ) (x y : ℕ) → x ≢ y → PathAlong g edges x y → IsEndOf g edges x
begins-at g edges x y n p = first p.along p.path p.among
  where
    first : (es : List ℕ) → IsPath g x es y → ((e : ℕ) → is_member e es ≡ true → is_member e edges ≡ true) → IsEndOf g edges x
    first [] q among = absurd (n q.arrives)
    first (e ∷ es) q among = record { edge = e; among = contains-from_member edges e (among e (member-head e es)); is_edge = q.walk.0.0; ends_there = q.walk.0.1 }

-- so is the last
pub ends-at : (g : Multigraph) (edges : List ℕ) (x y : ℕ) → x ≢ y → PathAlong g edges x y → IsEndOf g edges y
ends-at g edges x y n p = elim (met-edge_end g x p.along p.path.walk y (subst (λ (z : ℕ). is_member z (walk_vertices g x p.along) ≡ true) p.path.arrives (last-met g x p.along))) [
  | inl q ↦ absurd (n (sym q))
  | inr f ↦ record { edge = f.0; among = contains-from_member edges f.0 (p.among f.0 f.1); is_edge = walk-edge g x p.along p.path.walk f.0 f.1; ends_there = f.2 }
]

module _ (g : Multigraph) (edges : List ℕ) (part : GraphPart) (h : IsPart g edges part) where
  -- the vertex of the whole graph
  abbrev outer : ℕ → ℕ
  outer v = slice_index part.vertices v

  -- the edge of the whole graph
  abbrev whole : ℕ → ℕ
  whole e = slice_index edges e

  edge-in : (k : ℕ) → k < length edges → k < edge_count part.graph
  edge-in k l = omega (arith, l, h.ends.each)

  in-edges : (k : ℕ) → k < edge_count part.graph → k < length edges
  in-edges k l = omega (arith, l, h.ends.each)

  pub same-vertex : (u v : ℕ) → u < length part.vertices → v < length part.vertices → outer u ≡ outer v → u ≡ v
  same-vertex u v = rises-once part.vertices h.numbered.vertices_rise u v

  -- an end of an edge in the whole graph is one in the part
  end-inner : (k v : ℕ) → k < length edges → v < length part.vertices → is_end g (outer v) (whole k) ≡ true → is_end part.graph v k ≡ true
  end-inner k v lk lv e = elim (is_end-cases g (outer v) (whole k) e) [
    | inl q ↦ is_end-from_first part.graph v k (same-vertex (ends_of part.graph k).0 v (h.ends.first_in k lk) lv (h.ends.first k lk ∙ q))
    | inr q ↦ is_end-from_second part.graph v k (same-vertex (ends_of part.graph k).1 v (h.ends.second_in k lk) lv (h.ends.second k lk ∙ q))
  ]

  -- and back
  end-outer : (k v : ℕ) → k < length edges → is_end part.graph v k ≡ true → is_end g (outer v) (whole k) ≡ true
  end-outer k v lk e = elim (is_end-cases part.graph v k e) [
    | inl q ↦ is_end-from_first g (outer v) (whole k) (sym (h.ends.first k lk) ∙ ap (λ (z : ℕ). outer z) q)
    | inr q ↦ is_end-from_second g (outer v) (whole k) (sym (h.ends.second k lk) ∙ ap (λ (z : ℕ). outer z) q)
  ]

  -- the other end of an edge is the same in both
  other-inner : (k v : ℕ) → k < length edges → v < length part.vertices → outer (other_end part.graph k v) ≡ other_end g (whole k) (outer v)
  other-inner k v lk lv = elim (other_end-cases part.graph k v) [
    | inl w ↦ ap (λ (z : ℕ). outer z) w.1 ∙ (h.ends.second k lk ∙ sym (other_end-of_first g (whole k) (outer v) (sym (h.ends.first k lk) ∙ ap (λ (z : ℕ). outer z) w.0)))
    | inr w ↦ elim (other_end-cases g (whole k) (outer v)) [
      | inl c ↦ absurd (w.0 (same-vertex (ends_of part.graph k).0 v (h.ends.first_in k lk) lv (h.ends.first k lk ∙ c.0)))
      | inr c ↦ ap (λ (z : ℕ). outer z) w.1 ∙ (h.ends.first k lk ∙ sym c.1)
    ]
  ]

  -- it is in the part
  other-in : (k v : ℕ) → k < length edges → other_end part.graph k v < length part.vertices
  other-in k v l = omega (arith, other_end-in part.graph k v h.numbered.is_graph (edge-in k l), h.numbered.vertex_each)

  -- a vertex of the part that is connected with v in the part, and stands for the vertex to which a walk leads
  record Reached (v x : ℕ) : Type 0 where
    vertex : ℕ
    vertex_in : vertex < length part.vertices
    is : outer vertex ≡ x
    joined : connected part.graph.ends v vertex ≡ true

  -- a walk along these edges connects in the part
  inner-joined : (v : ℕ) (es : List ℕ) → v < length part.vertices → IsWalk g (outer v) es → ((e : ℕ) → is_member e es ≡ true → is_member e edges ≡ true) → Reached v (walk_end g (outer v) es)
  inner-joined v [] l w m = record { vertex = v; vertex_in = l; is = refl; joined = connected-reflexive part.graph.ends v }
  inner-joined v (e ∷ es) l w m =
      let c = contains-from_member edges e (m e (member-head e es)) in
      let k = c.0 in
      let at : whole k ≡ e = get_or_default edges k 0 e c.1 ∙ c.2 in
      let next = other_end part.graph k v in
      let o : outer next ≡ other_end g e (outer v) = other-inner k v c.1 l ∙ ap (λ (z : ℕ). other_end g z (outer v)) at in
      let r : Reached next (walk_end g (outer next) es) = inner-joined next es (other-in k v c.1) (subst (λ (z : ℕ). IsWalk g z es) (sym o) w.1) (λ f i. m f (member-tail f e es i)) in
      record {
        vertex = r.vertex;
        vertex_in = r.vertex_in;
        is = r.is ∙ ap (λ (z : ℕ). walk_end g z es) o;
        joined = connected-transitive part.graph.ends v next r.vertex
            (other-connected part.graph k v (edge-in k c.1) (end-inner k v c.1 l (subst (λ (z : ℕ). is_end g (outer v) z ≡ true) (sym at) w.0.1))) r.joined;
      }

  -- the ends of a path along these edges are connected in the part
  pub part-joined : (v w x y : ℕ) → v < length part.vertices → w < length part.vertices → outer v ≡ x → outer w ≡ y → PathAlong g edges x y → connected part.graph.ends w v ≡ true
  part-joined v w x y lv lw qv qw p =
      let r : Reached v (walk_end g (outer v) p.along) = inner-joined v p.along lv (subst (λ (z : ℕ). IsWalk g z p.along) (sym qv) p.path.walk) p.among in
      let same : r.vertex ≡ w = same-vertex r.vertex w r.vertex_in lw (r.is ∙ (ap (λ (z : ℕ). walk_end g z p.along) qv ∙ (p.path.arrives ∙ sym qw))) in
      connected-symmetric part.graph.ends v w (subst (λ (z : ℕ). connected part.graph.ends v z ≡ true) same r.joined)

  -- edges of a walk of the part, as a walk of the whole graph
  record OuterWalk (v : ℕ) (es : List ℕ) : Type 0 where
    walk : IsWalk g (outer v) (map (slice_index edges) es)
    leads : walk_end g (outer v) (map (slice_index edges) es) ≡ outer (walk_end part.graph v es)
    vertices : walk_vertices g (outer v) (map (slice_index edges) es) ≡ map (slice_index part.vertices) (walk_vertices part.graph v es)
    within : (y : ℕ) → is_member y (walk_vertices part.graph v es) ≡ true → y < length part.vertices

  module _ (below : (i : ℕ) → i < length edges → slice_index edges i < edge_count g) where
    outer-walk : (v : ℕ) (es : List ℕ) → v < length part.vertices → IsWalk part.graph v es → OuterWalk v es
    outer-walk v [] l w = record {
      walk = tt;
      leads = refl;
      vertices = refl;
      within = λ y m. elim (member-cases y v [] m) [ inl q ↦ subst (λ z. z < length part.vertices) q l | inr f ↦ absurd (true≢false (sym f)) ];
    }
    outer-walk v (k ∷ es) l w =
        let lk : k < length edges = in-edges k w.0.0 in
        let next = other_end part.graph k v in
        let o : outer next ≡ other_end g (whole k) (outer v) = other-inner k v lk l in
        let r : OuterWalk next es = outer-walk next es (other-in k v lk) w.1 in
        record {
          walk = ((below k lk, end-outer k v lk w.0.1), subst (λ (z : ℕ). IsWalk g z (map (slice_index edges) es)) o r.walk);
          leads = ap (λ (z : ℕ). walk_end g z (map (slice_index edges) es)) (sym o) ∙ r.leads;
          vertices = ap (λ (z : List ℕ). outer v ∷ z) (ap (λ (z : ℕ). walk_vertices g z (map (slice_index edges) es)) (sym o) ∙ r.vertices);
          within = λ y m. elim (member-cases y v (walk_vertices part.graph next es) m) [ inl q ↦ subst (λ z. z < length part.vertices) q l | inr n ↦ r.within y n ];
        }

    -- a path of the part is one of the whole graph
    pub outer-path : (v w x y : ℕ) (es along : List ℕ) → v < length part.vertices → outer v ≡ x → outer w ≡ y → IsPath part.graph v es w → along ≡ map (slice_index part.edges) es → IsPath g x along y
    outer-path v w x y es along l qv qw p q =
        let r : OuterWalk v es = outer-walk v es l p.walk in
        let p' : IsPath g (outer v) (map (slice_index edges) es) (outer w) = record {
          walk = r.walk;
          arrives = r.leads ∙ ap (λ (z : ℕ). outer z) p.arrives;
          vertices = subst (λ (z : List ℕ). is_distinct z ≡ true) (sym r.vertices)
              (distinct-map (slice_index part.vertices) (walk_vertices part.graph v es) (λ a b m n e. same-vertex a b (r.within a m) (r.within b n) e) p.vertices);
        } in
        subst (λ (z : ℕ). IsPath g z along y) qv (subst (λ (z : ℕ). IsPath g (outer v) along z) qw
        (subst (λ (z : List ℕ). IsPath g (outer v) z (outer w)) (sym (q ∙ ap (λ (z : List ℕ). map (slice_index z) es) h.edges_are)) p'))

  -- its edges are these
  pub outer-among : (v : ℕ) (es along : List ℕ) → IsWalk part.graph v es → along ≡ map (slice_index part.edges) es → (e : ℕ) → is_member e along ≡ true → is_member e edges ≡ true
  outer-among v es along w q e m =
      let c = map-member (slice_index edges) es e (subst (λ (z : List ℕ). is_member e z ≡ true) (q ∙ ap (λ (z : List ℕ). map (slice_index z) es) h.edges_are) m) in
      subst (λ (z : ℕ). is_member z edges ≡ true) c.2 (member-at edges c.0 0 (in-edges c.0 (walk-edge part.graph v es w c.0 c.1)))

  -- an end of one of these edges is a vertex of the part
  pub has-place : (x : ℕ) → IsEndOf g edges x → IsPlace part.vertices x None → ⊥
  has-place x e p = let c = (h.vertices x).1 e in p.none.0 refl c.0 c.1 (get_or_default part.vertices c.0 0 x c.1 ∙ c.2)

  -- what a search for a vertex has found
  pub found-place : (x i : ℕ) → IsPlace part.vertices x (Some i) → (i < length part.vertices) × (slice_index part.vertices i ≡ x)
  found-place x i p = (p.some i).0 refl

  -- the edges of a walk of the part have numbers there
  pub walk-places : (v : ℕ) (es : List ℕ) → IsWalk part.graph v es → (i : ℕ) → i < length es → slice_index es i < edge_count part.graph
  walk-places v es w i l = walk-edge part.graph v es w (slice_index es i) (member-at es i 0 l)
