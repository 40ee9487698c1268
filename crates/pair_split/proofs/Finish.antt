-- A state whose current family is of its kind, written as components: they are split components of the graph.
use Rattle.std.proofs.Common.{◌≡◌, ◌≢◌, ℕ, zero, suc, ◌+◌, ◌-◌, ◌<◌, ◌≤◌, ◌↔◌, nat_lt, inl, inr, Bool, true, false, not, cond, List, [], ◌∷◌, length, map, slice_index_or, refl, sym, ap, ◌∙◌, subst, arith, Contains}
use Rattle.std.proofs.lemmas.Bool.{cases_lt, or_left, or_right, not_from_true, not_from_false, lt-ltb, le-ltb}
use Rattle.multigraph.specs.Graph.{Multigraph, edge_count, ends_of, is_end}
use Rattle.graph_theory.specs.Side.{IsCommon}
use Rattle.pair_split.specs.Family.{Entry, has_end}
use Rattle.pair_split.specs.Edges.{graph_entry, entry_ends, family_skeleton}
use Rattle.pair_split.specs.Skeleton.{is_end_of, is_vertex, IsSkeleton}
use Rattle.pair_split.specs.Split.{component_at, items_of, item_at, piece_ends, skeleton, StandsFor, is_beyond, side, AreLinked, AreOfKind, CoversOnce, SidesMeetInEnds, IsSplit}
use Rattle.pair_split.specs.State.{SplitState, part_at, own_at, layer, family_at, IsBeyond, IsWrittenIn, AreSplitComponents, IsSplitState}
use Rattle.pair_split.specs.declared.components.Kind.{Kind}
use Rattle.pair_split.specs.declared.components.Kind.TheVariants.{B}
use Rattle.pair_split.specs.declared.components.What.TheVariants.{Real}
use Rattle.pair_split.specs.declared.components.Piece.{Piece}
use Rattle.pair_split.specs.declared.components.Comp.{Comp}
use Rattle.pair_split.proofs.GraphSides.{common-same}
use Rattle.pair_split.proofs.Layers.{layer-part, family-part, family-current}
use Rattle.pair_split.proofs.Links.{no_piece, stands-in, side-home}
use Rattle.pair_split.proofs.Subtrees.{is_below, below-own, below-root, below-parent, side-below, side-above}
use Rattle.pair_split.proofs.Written.{written-skeleton, written-edge, entry-cases, item-ends, item-written, layer-place, one-place, link-cases, state-linked, root-is, parent-is}

-- a vertex that two sides have in common, the other one and this one have in common
pub common-other : (g : Multigraph) (s : ℕ → Bool) (v : ℕ) → IsCommon g s v → IsCommon g (λ e. not (s e)) v
common-other g s v c = record {
  inside = c.outside;
  outside = c.inside;
  inside_edge = c.outside_edge;
  outside_edge = c.inside_edge;
  inside_end = c.outside_end;
  outside_end = c.inside_end;
  inside_side = not_from_false (s c.outside) c.outside_side;
  outside_side = not_from_true (s c.inside) c.inside_side;
}

-- an end of an item is a vertex of its skeleton
pub item-vertex : (pieces : List Piece) (i v : ℕ) → i < length pieces → is_end_of v (piece_ends (slice_index_or pieces i no_piece)) ≡ true → is_vertex (map piece_ends pieces) v ≡ true
item-vertex [] i v l h = absurd (omega (arith, l))
item-vertex (piece ∷ pieces) zero v l h = or_left (is_end_of v (piece_ends piece)) (is_vertex (map piece_ends pieces) v) h
item-vertex (piece ∷ pieces) (suc i) v l h = or_right (is_end_of v (piece_ends piece)) (is_vertex (map piece_ends pieces) v) (item-vertex pieces i v (omega (arith, l)) h)

module _ (g : Multigraph) (state : SplitState) (s : IsSplitState g state) (kind : Kind) (comps : List Comp) (w : AreSplitComponents (edge_count g) state kind comps) where
  -- the number of the last component
  abbrev r : ℕ
  r = length state.parts

  abbrev entry : ℕ → ℕ → Entry
  entry k i = slice_index_or (family_at state k) i (record { name = 0; first = 0; second = 0 })

  -- an item that stands for an edge is that edge, in the layer of its component
  real-entry : (k i e : ℕ) → StandsFor comps k i (Real e) → (e < edge_count g) × Contains (layer state k) (entry k i) × (entry k i ≡ graph_entry g e)
  real-entry k i e h =
      let x : (e < edge_count g) × ((entry k i).name ≡ e) = subst (IsWrittenIn (edge_count g) state k (entry k i)) h.1 (item-written g state s kind comps w k i h.0) in
      elim (entry-cases g state s kind comps w k i h.0) [
        | inl a ↦ absurd (omega (arith, x.0, x.1, s.own_names k a.0, ap (λ (z : Entry). z.name) a.1))
        | inr c ↦ elim (s.nothing_else k (entry k i) c) [
          | inl d ↦ (x.0, c, d.2 ∙ ap (graph_entry g) (sym (ap (λ (z : Entry). z.name) d.2) ∙ x.1))
          | inr d ↦ absurd (omega (arith, x.0, x.1, s.own_names d.0 d.1, ap (λ (z : Entry). z.name) d.2))
        ]
      ]

  -- an edge in a layer is an item of the component
  edge-item : (k e : ℕ) → e < edge_count g → Contains (layer state k) (graph_entry g e) → (i : ℕ) × StandsFor comps k i (Real e)
  edge-item k e l c =
      let p = layer-place g state s kind comps w k (graph_entry g e) c in
      let n : (entry k p.0).name ≡ e = ap (λ (z : Entry). z.name) p.2 in
      (p.0, (p.1, written-edge (edge_count g) state k (entry k p.0) (item_at comps k p.0).what (item-written g state s kind comps w k p.0 p.1) (omega (arith, l, n)) ∙ ap Real n))

  -- each edge is in one component, once
  real-once : (e k i j h : ℕ) → StandsFor comps k i (Real e) → StandsFor comps j h (Real e) → (k ≡ j) × (i ≡ h)
  real-once e k i j h a b =
      let x = real-entry k i e a in
      let y = real-entry j h e b in
      let q : k ≡ j = s.once k j (entry k i) (entry j h) x.1 y.1 (ap (λ (z : Entry). z.name) (x.2 ∙ sym y.2)) in
      let b' : StandsFor comps k h (Real e) = subst (λ z. StandsFor comps z h (Real e)) (sym q) b in
      (q, one-place g state s kind comps w k i h a.0 b'.0 (ap (λ (z : Entry). z.name) (x.2 ∙ sym (real-entry k h e b').2)))

  -- the components cover the graph
  covers : ((v : ℕ) → v < g.vertex_count → (e : ℕ) × (e < edge_count g) × (is_end g v e ≡ true)) → CoversOnce g comps
  covers at_edge = record {
    present = present;
    once = real-once;
    edges = λ e k i h.
        let x = real-entry k i e h in
        let q : piece_ends (item_at comps k i) ≡ ends_of g e = item-ends g state s kind comps w k i h.0 ∙ ap entry_ends x.2 in
        (x.0, inl (ap (λ (z : ℕ × ℕ). z.0) q, ap (λ (z : ℕ × ℕ). z.1) q));
    vertices = λ v l.
        let e = at_edge v l in
        let p = present e.0 e.1 in
        let q : piece_ends (item_at comps p.0 p.1) ≡ ends_of g e.0 = item-ends g state s kind comps w p.0 p.1 (p.2).0 ∙ ap entry_ends (real-entry p.0 p.1 e.0 p.2).2 in
        (p.0, stands-in comps p.0 p.1 (Real e.0) p.2, item-vertex (items_of comps p.0) p.1 v (p.2).0 (subst (λ (z : ℕ × ℕ). is_end_of v z ≡ true) (sym q) e.2));
  }
    where
      present : (e : ℕ) → e < edge_count g → (k i : ℕ) × StandsFor comps k i (Real e)
      present e l = let c = s.edges_listed e l in let i = edge-item c.0 e l c.1 in (c.0, i.0, i.1)

  -- each component is of its kind
  of_kind : IsSkeleton kind (family_skeleton state.current) → (kind ≡ B → r ≡ 0) → AreOfKind comps
  of_kind last alone = record { kinds = kinds; small_alone = small }
    where
      skeleton-is : (k : ℕ) → k ≤ r → skeleton comps k ≡ family_skeleton (family_at state k)
      skeleton-is k l = written-skeleton (edge_count g) state k (family_at state k) (items_of comps k) (w.written k l)

      kinds : (k : ℕ) → k < length comps → IsSkeleton (component_at comps k).kind (skeleton comps k)
      kinds k l = elim (cases_lt k r) [
        | inl b ↦ subst (λ (z : Kind). IsSkeleton z (skeleton comps k)) (sym (w.kinds k b))
            (subst (IsSkeleton (part_at state k).kind) (sym (skeleton-is k (omega (arith, b)) ∙ ap family_skeleton (family-part state k b ∙ ap (λ (z : List Entry). own_at state k ∷ z) (layer-part state k b)))) (s.kinds k b))
        | inr b ↦ let e : r ≡ k = omega (arith, b, l, w.number) in subst (λ z. IsSkeleton (component_at comps z).kind (skeleton comps z)) e
            (subst (λ (z : Kind). IsSkeleton z (skeleton comps r)) (sym w.last_kind) (subst (IsSkeleton kind) (sym (skeleton-is r (omega arith) ∙ ap family_skeleton (family-current state))) last))
      ]

      small : (k : ℕ) → k < length comps → (component_at comps k).kind ≡ B → length comps ≡ 1
      small k l q = elim (cases_lt k r) [
        | inl b ↦ absurd (s.none_small k b (sym (w.kinds k b) ∙ q))
        | inr b ↦ let e : k ≡ r = omega (arith, b, l, w.number) in omega (arith, w.number, alone (sym w.last_kind ∙ ap (λ z. (component_at comps z).kind) (sym e) ∙ q))
      ]

  -- the links are a tree
  abbrev linked : AreLinked comps
  linked = state-linked g state s kind comps w

  -- the side of a link is told by where an edge is
  side-edge : (k j h i e : ℕ) → StandsFor comps h i (Real e) → side comps k j e ≡ is_beyond comps k j h
  side-edge k j h i e a = side-home comps k j h i e a (λ d f b. (real-once e d f h i b a).0)

  -- the link between component c and the one in whose layer its virtual edge is
  module _ (c k : ℕ) (l : c < r) (in_layer : Contains (layer state k) (own_at state c)) where
    -- that one is the parent of c in the tree
    parent : linked.tree.parent c ≡ k
    parent = parent-is g state s kind comps w c k l in_layer

    c-in : c < length comps
    c-in = omega (arith, l, w.number)

    not-root : (d : ℕ) → d < r → d ≢ linked.tree.root
    not-root d b e = omega (arith, b, e, root-is g state s kind comps w)

    -- seen from there, a component is beyond the link where it is below c
    beyond-below : (d : ℕ) → d < length comps → is_beyond comps k c d ≡ is_below comps linked c d
    beyond-below d b = subst (λ z. is_beyond comps z c d ≡ is_below comps linked c d) parent (side-below comps linked c d c-in (not-root c l) b)

    -- seen from c, where it is not
    beyond-above : (d : ℕ) → d < length comps → is_beyond comps c k d ≡ not (is_below comps linked c d)
    beyond-above d b = subst (λ z. is_beyond comps c z d ≡ not (is_below comps linked c d)) parent (side-above comps linked c d c-in (not-root c l) b)

    -- the names beyond the virtual edge of c
    beyond : ℕ → Bool
    beyond n = cond (nat_lt n (edge_count g)) (side comps k c n) (is_below comps linked c (n - edge_count g))

    beyond-edge : (e : ℕ) → e < edge_count g → beyond e ≡ side comps k c e
    unfolding beyond
    beyond-edge e b = rw (lt-ltb e (edge_count g) b) refl

    beyond-virtual : (d : ℕ) → beyond (edge_count g + d) ≡ is_below comps linked c d
    unfolding beyond
    beyond-virtual d = let q : edge_count g + d - edge_count g ≡ d = omega arith in rw (le-ltb (edge_count g + d) (edge_count g) (omega arith), q) refl

    -- an edge in a layer is beyond where the component of the layer is below c
    side-layer : (h e : ℕ) → e < edge_count g → Contains (layer state h) (graph_entry g e) → side comps k c e ≡ is_below comps linked c h
    side-layer h e b i =
        let a = edge-item h e b i in
        side-edge k c h a.0 e a.1 ∙ beyond-below h (stands-in comps h a.0 (Real e) a.1)

    is-beyond : IsBeyond (edge_count g) state c beyond
    is-beyond = record {
      own = beyond-virtual c ∙ below-own comps linked c;
      last = beyond-virtual r ∙ ap (is_below comps linked c) (sym (root-is g state s kind comps w)) ∙ below-root comps linked c (λ e. not-root c l (sym e));
      layer_by_layer = λ h x i n. elim (s.nothing_else h x i) [
        | inl a ↦
            let name : x.name ≡ a.0 = ap (λ (z : Entry). z.name) a.2 in
            ap beyond name ∙ beyond-edge a.0 a.1 ∙ side-layer h a.0 a.1 (subst (Contains (layer state h)) a.2 i) ∙ sym (beyond-virtual h)
        | inr a ↦
            let name : x.name ≡ edge_count g + a.0 = ap (λ (z : Entry). z.name) a.2 ∙ s.own_names a.0 a.1 in
            ap beyond name ∙ beyond-virtual a.0
            ∙ below-parent comps linked c a.0 (omega (arith, a.1, w.number)) (λ e. n (name ∙ ap (λ z. edge_count g + z) e)) (not-root a.0 a.1)
            ∙ ap (is_below comps linked c) (parent-is g state s kind comps w a.0 h a.1 (subst (Contains (layer state h)) a.2 i)) ∙ sym (beyond-virtual h)
      ];
    }

    -- the two sides have just the ends of the virtual edge in common
    sides : (v : ℕ) → IsCommon g (side comps k c) v ↔ (has_end v (own_at state c) ≡ true)
    sides v =
        let p = s.parted c l beyond is-beyond v in (
          λ h. p.0 (common-same g (side comps k c) beyond (λ e b. sym (beyond-edge e b)) v h),
          λ h. common-same g beyond (side comps k c) beyond-edge v (p.1 h),
        )

    -- the side of the link seen from c is the other one
    side-other : (e : ℕ) → e < edge_count g → side comps c k e ≡ not (side comps k c e)
    side-other e b =
        let h = s.edges_listed e b in
        let a = edge-item h.0 e b h.1 in
        side-edge c k h.0 a.0 e a.1 ∙ beyond-above h.0 (stands-in comps h.0 a.0 (Real e) a.1) ∙ ap not (sym (side-layer h.0 e b h.1))

    sides-back : (v : ℕ) → IsCommon g (side comps c k) v ↔ (has_end v (own_at state c) ≡ true)
    sides-back v = (
      λ h. (sides v).0 (common-same g (λ e. not (side comps c k e)) (side comps k c) (λ e b. ap not (side-other e b) ∙ twice (side comps k c e)) v (common-other g (side comps c k) v h)),
      λ h. common-same g (λ e. not (side comps k c e)) (side comps c k) (λ e b. sym (side-other e b)) v (common-other g (side comps k c) v ((sides v).1 h)),
    )
      where
        twice : (b : Bool) → not (not b) ≡ b
        twice true = refl
        twice false = refl

  -- the vertices that the two sides of a link have in common are its two ends
  sides_meet : SidesMeetInEnds g comps
  sides_meet k j i h v = elim (link-cases g state s kind comps w k i j h) [
    | inl a ↦ ends-of k j i h.0 (own_at state j) a.2 v (sides j k a.0 a.1 v)
    | inr a ↦ ends-of k j i h.0 (own_at state k) a.2 v (sides-back k j a.0 a.1 v)
  ]
    where
      ends-of : (k j i : ℕ) → i < length (items_of comps k) → (x : Entry) → entry k i ≡ x → (v : ℕ) → IsCommon g (side comps k j) v ↔ (has_end v x ≡ true) → IsCommon g (side comps k j) v ↔ (is_end_of v (piece_ends (item_at comps k i)) ≡ true)
      ends-of k j i l x e v h =
          let q : is_end_of v (piece_ends (item_at comps k i)) ≡ has_end v x = ap (is_end_of v) (item-ends g state s kind comps w k i l ∙ ap entry_ends e) in
          (λ c. q ∙ h.0 c, λ c. h.1 (sym q ∙ c))

  -- a state whose current family is of its kind, and larger than a single edge or two unless it is alone: its components are
  -- split components of the graph
  pub state-end : ((v : ℕ) → v < g.vertex_count → (e : ℕ) × (e < edge_count g) × (is_end g v e ≡ true)) → IsSkeleton kind (family_skeleton state.current) → (kind ≡ B → r ≡ 0) → IsSplit g comps
  state-end at_edge last alone = record { of_kind = of_kind last alone; linked = linked; covers = covers at_edge; sides_meet = sides_meet }
