-- The skeleton of a node as a graph of its own: it is a graph, and where the node is triconnected it is a triconnected graph.
use Rattle.std.proofs.Common.{◌≡◌, ◌≢◌, ℕ, suc, ◌<◌, ◌≤◌, inl, inr, true, false, not, List, [], ◌∷◌, length, filter, slice_index_or, get_or, refl, sym, ap, ◌∙◌, subst, arith, Contains}
use Rattle.std.proofs.lemmas.Bool.{cases_lt, and_parts, and_from, not-true, not_from_false, false_from_ne_true}
use Rattle.std.proofs.lemmas.List.{get_or-map, get_or_past, get_or_default, length-map}
use Rattle.permutations.specs.Members.{is_member, is_distinct, place_of}
use Rattle.permutations.specs.Relation.{connected}
use Rattle.permutations.proofs.Count.{count-subset}
use Rattle.permutations.proofs.Members.{no_member-cons, no_member-head, no_member-tail, distinct-cons}
use Rattle.permutations.proofs.Arrangements.{contains-from_member, member-at, all-member, count-list}
use Rattle.permutations.proofs.Relation.{connected-link, connected-reflexive, connected-symmetric, connected-transitive, connected-least-typed}
use Rattle.multigraph.specs.Graph.{Multigraph, edge_count, ends_of, IsGraph, IsWithinLimits}
use Rattle.multigraph.specs.Part.{Rises}
use Rattle.multigraph.proofs.Places.{rises-once, rises-short}
use Rattle.graph_theory.specs.Triconnected.{avoids, ends_without, IsConnectedWithout, AreParallel, IsSimple, IsTriconnected}
use Rattle.graph_theory.proofs.Triconnected.{first-four}
use Rattle.pair_split.specs.Skeleton.{SameEnds, is_vertex, IsRigid, IsOfKind}
use Rattle.pair_split.specs.Split.{piece_ends, skeleton}
use Rattle.pair_split.specs.Tutte.{Node, components, node_at, node_item, IsTutte}
use Rattle.pair_split.specs.declared.components.Kind.{Kind}
use Rattle.pair_split.specs.declared.components.What.TheVariants.{Real}
use Rattle.pair_split.specs.declared.components.Item.{Item}
use Rattle.pair_split.proofs.Elements.{contains-filter, filter-contains}
use Rattle.pair_split.proofs.GraphFamily.{all-from_contained}
use Rattle.pair_split.proofs.NodeParts.{node-piece, node-kind}
use Rattle.skeletons.specs.Items.{item_key, node_keys, IsBlockTree}
use Rattle.skeletons.specs.Families.{end_places, skeleton_graph}
use Rattle.skeletons.specs.Laws.{SkeletonIsTriconnected}
use Rattle.skeleton_runs.proofs.Items.{skeleton-at, skeleton-in, in-skeleton}
use Rattle.skeletons.proofs.NodeItems.{comp-in, piece-in, item-in}
use Rattle.permutations.proofs.Places.{place-below, place-holds}
use Rattle.skeleton_runs.proofs.NodeFits.{vertex-skeleton, vertex-fits, item-first, item-second, key-fits}

-- and stands there
pub place-at : (l : List ℕ) (x d : ℕ) → is_member x l ≡ true → slice_index_or l (place_of l x) d ≡ x
place-at l x d m = get_or_default l (place_of l x) d 0 (place-below l x m) ∙ place-holds l x m

-- members with one place are one
pub place-once : (l : List ℕ) (x y : ℕ) → is_member x l ≡ true → is_member y l ≡ true → place_of l x ≡ place_of l y → x ≡ y
place-once l x y m n q = sym (place-at l x 0 m) ∙ ap (λ i. slice_index_or l i 0) q ∙ place-at l y 0 n

-- the place of what stands at a place of a rising list
pub place-of_at : (l : List ℕ) → Rises l → (i d : ℕ) → i < length l → place_of l (slice_index_or l i d) ≡ i
place-of_at l r i d b =
    let m : is_member (slice_index_or l i d) l ≡ true = member-at l i d b in
    rises-once l r (place_of l (slice_index_or l i d)) i (place-below l (slice_index_or l i d) m) b (place-at l (slice_index_or l i d) 0 m ∙ get_or_default l i d 0 b)

-- a rising list has no number twice
pub rises-distinct : (l : List ℕ) → Rises l → is_distinct l ≡ true
rises-distinct [] r = refl
rises-distinct (x ∷ l) r = distinct-cons x l
    (false_from_ne_true (is_member x l) (λ m. let c = contains-from_member l x m in
    absurd (omega (arith, r 0 (suc c.0) (omega arith) (omega (arith, c.1)), get_or_default l c.0 x 0 c.1, c.2))))
    (rises-distinct l (λ i j a b. r (suc i) (suc j) (omega (arith, a)) (omega (arith, b))))

-- different members of a list are no more than its members
pub distinct-fewer : (n : ℕ) (l k : List ℕ) → is_distinct l ≡ true → is_distinct k ≡ true → ((x : ℕ) → is_member x k ≡ true → x < n) → ((x : ℕ) → is_member x l ≡ true → is_member x k ≡ true) → length l ≤ length k
distinct-fewer n l k d e b h = omega (
  arith,
  count-list n (λ x. is_member x l) l d (λ x m. b x (h x m)) (λ x m. refl),
  count-list n (λ x. is_member x k) k e b (λ x m. refl),
  count-subset n (λ x. is_member x l) (λ x. is_member x k) (λ x m t. h x t),
)

module _ (g : Multigraph) (nodes : List Node) (b : IsBlockTree g nodes) (k : ℕ) (l : k < length nodes) where
  abbrev tree : IsTutte g nodes
  tree = b.tree

  abbrev vertices : List ℕ
  vertices = (node_at nodes k).vertices

  abbrev items : List Item
  items = (node_at nodes k).items

  rise : Rises vertices
  rise = tree.in_order.vertices_rise k l

  -- there are as many edges as items, between their places
  pub graph-edges : edge_count (skeleton_graph nodes k) ≡ length (node_at nodes k).items
  graph-edges = length-map items (end_places vertices)

  pub edge-item : (i : ℕ) → i < edge_count (skeleton_graph nodes k) → i < length (node_at nodes k).items
  edge-item i m = subst (λ z. i < z) graph-edges m

  pub item-edge : (i : ℕ) → i < length (node_at nodes k).items → i < edge_count (skeleton_graph nodes k)
  item-edge i m = subst (λ z. i < z) (sym graph-edges) m

  pub graph-ends : (i : ℕ) → i < length (node_at nodes k).items → ends_of (skeleton_graph nodes k) i ≡ (place_of (node_at nodes k).vertices (node_item nodes k i).a, place_of (node_at nodes k).vertices (node_item nodes k i).b)
  graph-ends i m = get_or-map (end_places vertices) items i (record { key = 0; a = 0; b = 0; what = Real 0 }) (0, 0) m

  keys-number : length (node_keys nodes k) ≡ length items
  keys-number = length-map items item_key

  -- it is a graph
  pub skeleton-graph : IsGraph (skeleton_graph nodes k)
  skeleton-graph = record {
    first_in = λ e m. subst (λ (z : ℕ × ℕ). z.0 < length vertices) (sym (graph-ends e (edge-item e m))) (place-below vertices (node_item nodes k e).a (item-first g nodes tree k e l (edge-item e m)));
    second_in = λ e m. subst (λ (z : ℕ × ℕ). z.1 < length vertices) (sym (graph-ends e (edge-item e m))) (place-below vertices (node_item nodes k e).b (item-second g nodes tree k e l (edge-item e m)));
    no_loop = λ e m. subst (λ (z : ℕ × ℕ). z.0 ≢ z.1) (sym (graph-ends e (edge-item e m))) (λ q.
        omega (arith, tree.in_order.ends_rise k e (edge-item e m), place-once vertices (node_item nodes k e).a (node_item nodes k e).b (item-first g nodes tree k e l (edge-item e m)) (item-second g nodes tree k e l (edge-item e m)) q));
  }

  -- and no larger than the block
  pub skeleton-limits : IsWithinLimits g → IsWithinLimits (skeleton_graph nodes k)
  skeleton-limits limits = record {
    few_vertices = omega (arith, limits.few_vertices, rises-short vertices g.vertex_count rise (λ i m. vertex-fits g nodes tree b.graph k (get_or vertices i 0) (member-at vertices i 0 m)));
    few_edges = omega (
      arith,
      limits.few_edges,
      graph-edges,
      keys-number,
      rises-short (node_keys nodes k) (edge_count g) (tree.in_order.keys_rise k l) (λ i m.
          let here : i < length items = subst (λ z. i < z) keys-number m in
          subst (λ z. z < edge_count g) (sym (get_or-map item_key items i (record { key = 0; a = 0; b = 0; what = Real 0 }) 0 here)) (key-fits g nodes tree k i here)),
    );
  }

  -- the edge at a place of the skeleton as pairs
  pair-at : (i : ℕ) → i < length items → slice_index_or (skeleton (components nodes) k) i (0, 0) ≡ ((node_item nodes k i).a, (node_item nodes k i).b)
  pair-at i m = skeleton-at g (components nodes) tree.split k i (piece-in g nodes tree k i m) ∙ ap piece_ends (node-piece nodes k i m)

  pair-in : (i : ℕ) → i < length items → i < length (skeleton (components nodes) k)
  pair-in i m = skeleton-in g (components nodes) tree.split k i (piece-in g nodes tree k i m)

  pair-item : (i : ℕ) → i < length (skeleton (components nodes) k) → i < length items
  pair-item i m = item-in g nodes tree k i (in-skeleton g (components nodes) tree.split k i m)

  -- a vertex of the skeleton is one of the node
  vertex-member : (v : ℕ) → is_vertex (skeleton (components nodes) k) v ≡ true → is_member v vertices ≡ true
  vertex-member v h = tree.in_order.vertices k v l ∙ h

  -- the number of the block for a number of the skeleton; one that is no vertex where there is no such place
  name : ℕ → ℕ
  name n = slice_index_or vertices n g.vertex_count

  name-of_place : (v : ℕ) → is_member v vertices ≡ true → name (place_of vertices v) ≡ v
  unfolding name
  name-of_place v m = place-at vertices v g.vertex_count m

  name-member : (n : ℕ) → n < length vertices → is_member (name n) vertices ≡ true
  unfolding name
  name-member n m = member-at vertices n g.vertex_count m

  place-of_name : (n : ℕ) → n < length vertices → place_of vertices (name n) ≡ n
  unfolding name
  place-of_name n m = place-of_at vertices rise n g.vertex_count m

  name-outside : (n : ℕ) → length vertices ≤ n → name n ≡ g.vertex_count
  unfolding name
  name-outside n i = get_or_past vertices n g.vertex_count i

  -- different numbers have different names, where one of them is a place
  name-differs : (n m : ℕ) → m < length vertices → (n ≡ m → ⊥) → name n ≢ name m
  name-differs n m j d q = elim (cases_lt n (length vertices)) [
    | inl i ↦ d (sym (place-of_name n i) ∙ ap (place_of vertices) q ∙ place-of_name m j)
    | inr i ↦ absurd (omega (arith, vertex-fits g nodes tree b.graph k (name m) (name-member m j), name-outside n i, q))
  ]

  module _ (rigid : IsRigid (skeleton (components nodes) k)) where
    graph-simple : IsSimple (skeleton_graph nodes k)
    graph-simple e f m n p = rigid.simple e f (pair-in e i) (pair-in f j)
        (subst (λ (z : ℕ × ℕ). SameEnds z (slice_index_or (skeleton (components nodes) k) f (0, 0))) (sym (pair-at e i)) (subst (λ (z : ℕ × ℕ). SameEnds ((node_item nodes k e).a, (node_item nodes k e).b) z) (sym (pair-at f j)) (same p)))
      where
        i : e < length items
        i = edge-item e m

        j : f < length items
        j = edge-item f n

        ae : (ends_of (skeleton_graph nodes k) e).0 ≡ place_of vertices (node_item nodes k e).a
        ae = ap (λ (z : ℕ × ℕ). z.0) (graph-ends e i)

        be : (ends_of (skeleton_graph nodes k) e).1 ≡ place_of vertices (node_item nodes k e).b
        be = ap (λ (z : ℕ × ℕ). z.1) (graph-ends e i)

        af : (ends_of (skeleton_graph nodes k) f).0 ≡ place_of vertices (node_item nodes k f).a
        af = ap (λ (z : ℕ × ℕ). z.0) (graph-ends f j)

        bf : (ends_of (skeleton_graph nodes k) f).1 ≡ place_of vertices (node_item nodes k f).b
        bf = ap (λ (z : ℕ × ℕ). z.1) (graph-ends f j)

        one : (x y : ℕ) → is_member x vertices ≡ true → is_member y vertices ≡ true → (p q : ℕ) → p ≡ place_of vertices x → q ≡ place_of vertices y → p ≡ q → x ≡ y
        one x y mx my p q ep eq e = place-once vertices x y mx my (sym ep ∙ e ∙ eq)

        in-a : (e : ℕ) → e < length items → is_member (node_item nodes k e).a vertices ≡ true
        in-a e i = item-first g nodes tree k e l i

        in-b : (e : ℕ) → e < length items → is_member (node_item nodes k e).b vertices ≡ true
        in-b e i = item-second g nodes tree k e l i

        same : AreParallel (skeleton_graph nodes k) e f → SameEnds ((node_item nodes k e).a, (node_item nodes k e).b) ((node_item nodes k f).a, (node_item nodes k f).b)
        same (inl x) = inl (
          one (node_item nodes k e).a (node_item nodes k f).a (in-a e i) (in-a f j) (ends_of (skeleton_graph nodes k) e).0 (ends_of (skeleton_graph nodes k) f).0 ae af x.0,
          one (node_item nodes k e).b (node_item nodes k f).b (in-b e i) (in-b f j) (ends_of (skeleton_graph nodes k) e).1 (ends_of (skeleton_graph nodes k) f).1 be bf x.1,
        )
        same (inr x) = inr (
          one (node_item nodes k e).a (node_item nodes k f).b (in-a e i) (in-b f j) (ends_of (skeleton_graph nodes k) e).0 (ends_of (skeleton_graph nodes k) f).1 ae bf x.0,
          one (node_item nodes k e).b (node_item nodes k f).a (in-b e i) (in-a f j) (ends_of (skeleton_graph nodes k) e).1 (ends_of (skeleton_graph nodes k) f).0 be af x.1,
        )

    graph-four : 4 ≤ length vertices
    graph-four = omega (
      arith,
      rigid.four.enough,
      distinct-fewer g.vertex_count rigid.four.vertices vertices rigid.four.distinct (rises-distinct vertices rise) (λ x m. vertex-fits g nodes tree b.graph k x m)
          (λ x m. vertex-member x (all-member (λ v. is_vertex (skeleton (components nodes) k) v ≡ true) rigid.four.vertices x rigid.four.are_vertices m)),
    )

    -- an item without the two named numbers is an edge without the two numbers
    module _ (a c : ℕ) where
      abbrev links : List (ℕ × ℕ)
      links = ends_without (skeleton_graph nodes k) (a ∷ c ∷ [])

      -- a vertex that isn't one of the two named ones is not at their places
      place-off : (v : ℕ) → is_member v vertices ≡ true → is_member v (name a ∷ name c ∷ []) ≡ false → is_member (place_of vertices v) (a ∷ c ∷ []) ≡ false
      place-off v m n = no_member-cons (place_of vertices v) a (c ∷ [])
          (λ q. no_member-head v (name a) (name c ∷ []) n (ap name q ∙ name-of_place v m))
          (no_member-cons (place_of vertices v) c []
          (λ q. no_member-head v (name c) [] (no_member-tail v (name a) (name c ∷ []) n) (ap name q ∙ name-of_place v m)) refl)

      name-off : (v : ℕ) → v < length vertices → is_member v (a ∷ c ∷ []) ≡ false → is_member (name v) (name a ∷ name c ∷ []) ≡ false
      name-off v m n = no_member-cons (name v) (name a) (name c ∷ []) (name-differs a v m (no_member-head v a (c ∷ []) n))
          (no_member-cons (name v) (name c) [] (name-differs c v m (no_member-head v c [] (no_member-tail v a (c ∷ []) n))) refl)

      along-item : (i : ℕ) → i < length items → avoids (name a ∷ name c ∷ []) ((node_item nodes k i).a, (node_item nodes k i).b) ≡ true
          → connected links (place_of vertices (node_item nodes k i).a) (place_of vertices (node_item nodes k i).b) ≡ true
      along-item i m h =
          let w = and_parts (not (is_member (node_item nodes k i).a (name a ∷ name c ∷ []))) (not (is_member (node_item nodes k i).b (name a ∷ name c ∷ []))) h in
          let p = place_of vertices (node_item nodes k i).a in
          let q = place_of vertices (node_item nodes k i).b in
          connected-link links p q (contains-filter (avoids (a ∷ c ∷ [])) (p, q) (skeleton_graph nodes k).ends (i, item-edge i m, get_or_default (skeleton_graph nodes k).ends i (p, q) (0, 0) (item-edge i m) ∙ graph-ends i m)
          (and_from (not (is_member p (a ∷ c ∷ []))) (not (is_member q (a ∷ c ∷ [])))
          (not_from_false (is_member p (a ∷ c ∷ [])) (place-off (node_item nodes k i).a (item-first g nodes tree k i l m) (not-true (is_member (node_item nodes k i).a (name a ∷ name c ∷ [])) w.0)))
          (not_from_false (is_member q (a ∷ c ∷ [])) (place-off (node_item nodes k i).b (item-second g nodes tree k i l m) (not-true (is_member (node_item nodes k i).b (name a ∷ name c ∷ [])) w.1)))))

      along : (x y : ℕ) → connected (filter (avoids (name a ∷ name c ∷ [])) (skeleton (components nodes) k)) x y ≡ true → connected links (place_of vertices x) (place_of vertices y) ≡ true
      along x y t = connected-least-typed (filter (avoids (name a ∷ name c ∷ [])) (skeleton (components nodes) k)) (λ u v. connected links (place_of vertices u) (place_of vertices v) ≡ true)
          (λ u. connected-reflexive links (place_of vertices u)) (λ u v. connected-symmetric links (place_of vertices u) (place_of vertices v)) (λ u v w. connected-transitive links (place_of vertices u) (place_of vertices v) (place_of vertices w))
          (all-from_contained (λ (link : ℕ × ℕ). connected links (place_of vertices link.0) (place_of vertices link.1) ≡ true) (filter (avoids (name a ∷ name c ∷ [])) (skeleton (components nodes) k)) each)
          x y t
        where
          each : (link : ℕ × ℕ) → Contains (filter (avoids (name a ∷ name c ∷ [])) (skeleton (components nodes) k)) link → connected links (place_of vertices link.0) (place_of vertices link.1) ≡ true
          each link d =
              let f = filter-contains (avoids (name a ∷ name c ∷ [])) link (skeleton (components nodes) k) d in
              let i : f.0.0 < length items = pair-item f.0.0 f.0.1 in
              let is : ((node_item nodes k f.0.0).a, (node_item nodes k f.0.0).b) ≡ link = sym (pair-at f.0.0 i) ∙ get_or_default (skeleton (components nodes) k) f.0.0 (0, 0) link f.0.1 ∙ f.0.2 in
              subst (λ (z : ℕ × ℕ). connected links (place_of vertices z.0) (place_of vertices z.1) ≡ true) is (along-item f.0.0 i (subst (λ (z : ℕ × ℕ). avoids (name a ∷ name c ∷ []) z ≡ true) (sym is) f.1))

      graph-stays : IsConnectedWithout (skeleton_graph nodes k) (a ∷ c ∷ [])
      graph-stays u v lu lv nu nv = subst (λ z. connected links z v ≡ true) (place-of_name u lu) (subst (λ z. connected links (place_of vertices (name u)) z ≡ true) (place-of_name v lv)
          (along (name u) (name v) (rigid.stays_connected (name a) (name c) (name u) (name v)
          (vertex-skeleton g nodes tree k (name u) (name-member u lu)) (vertex-skeleton g nodes tree k (name v) (name-member v lv)) (name-off u lu nu) (name-off v lv nv))))

    -- it is triconnected
    pub rigid-triconnected : IsTriconnected (skeleton_graph nodes k)
    rigid-triconnected = record { simple = graph-simple; four = first-four (skeleton_graph nodes k) graph-four; stays_connected = graph-stays }

-- the skeleton of a triconnected node is a graph and triconnected
pub skeleton-triconnected : SkeletonIsTriconnected
skeleton-triconnected g nodes b k n = (
  skeleton-graph g nodes b k n.0,
  rigid-triconnected g nodes b k n.0
      (subst (λ (kind : Kind). IsOfKind kind (skeleton (components nodes) k)) (node-kind nodes k ∙ n.1) (b.tree.split.of_kind.kinds k (comp-in g nodes b.tree k n.0)).of_kind),
)
