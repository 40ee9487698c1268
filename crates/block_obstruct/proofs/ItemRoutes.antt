-- Paths through the groups of the items of a node are routes of its skeleton.
use Rattle.std.proofs.Common.{◌≡◌, ◌≢◌, ℕ, ◌+◌, ◌<◌, ◌⊎◌, ◌==◌, inl, inr, true, false, List, [], ◌∷◌, ◌++◌, ◌^◌, length, slice_index, slice_index_or, refl, sym, ap, ◌∙◌, subst, arith}
use Rattle.std.proofs.lemmas.Bool.{cases_eq, or_cases, or_left, eq-eqb, eqb-true, false_from_ne_true}
use Rattle.std.proofs.lemmas.List.{get_or_push, get_or_append_left, length_push}
use Rattle.permutations.specs.Members.{is_member}
use Rattle.permutations.proofs.Arrangements.{member-at, contains-from_member, member-from_contains}
use Rattle.multigraph.specs.Graph.{Multigraph, edge_count, is_end, IsWithinLimits}
use Rattle.multigraph.specs.Part.{Rises}
use Rattle.multigraph.proofs.Below.{filter_below-has, filter_below-only, filter_below-at, filter_below-rises}
use Rattle.graph_theory.specs.Path.{walk_vertices, IsPath}
use Rattle.graph_theory.proofs.Walks.{walk-edge}
use Rattle.pair_split.specs.Tutte.{Node, components, node_at, node_item, has_in_group, IsTutte}
use Rattle.pair_split.specs.declared.components.Comp.{Comp}
use Rattle.pair_split.specs.declared.components.What.{What}
use Rattle.pair_split.specs.declared.components.Item.{Item}
use Rattle.pair_split.proofs.Groups.{group-once, group-common}
use Rattle.kuratowski.specs.Subdivision.{inner_vertices}
use Rattle.kuratowski.proofs.Meetings.{inside-met}
use Rattle.skeletons.specs.Items.{ends_item, IsBlockTree}
use Rattle.skeletons.specs.Families.{skeleton_graph}
use Rattle.skeletons.proofs.NodeItems.{piece-in, what-at, ends-at, group-item, item-edge, edge-end}
use Rattle.skeleton_runs.specs.Laws.{PathThrough}
use Rattle.skeleton_runs.proofs.Items.{met-edge_end}
use Rattle.skeleton_runs.proofs.ItemPaths.{path-through}
use Rattle.skeleton_runs.proofs.NodeFits.{vertex-fits, item-first, item-second}
use Rattle.skeleton_runs.proofs.SkeletonGraph.{skeleton-limits, graph-edges, edge-item, graph-ends, place-at}
use Rattle.graph_paths.specs.Along.{PathAlong}
use Rattle.graph_paths.specs.Listing.{note_of}
use Rattle.block_obstruct.specs.Towards.{item_in}
use Rattle.kuratowski.specs.Routes.{route_start, route_end, route_vertices, route_at, EndsRoute, AreRoutes}
use Rattle.multigraph.specs.Buckets.{ArePlaces}
use Rattle.block_obstruct.specs.Groups.{AreOwners, noted_with, IsItemRoute, AreItemRoutes}

-- a path between the ends of an item, where the lists are read elsewhere
pub path-of : (g : Multigraph) (edges others : List ℕ) (items pieces : List Item) (i : ℕ) → edges ≡ others → items ≡ pieces → PathAlong g others (item_in pieces i).a (item_in pieces i).b → PathAlong g edges (item_in items i).a (item_in items i).b
path-of g edges others items pieces i p q w = subst (λ (z : List ℕ). PathAlong g z (item_in items i).a (item_in items i).b) (sym p) (subst (λ (z : List Item). PathAlong g others (item_in z i).a (item_in z i).b) (sym q) w)

-- the path of one item more
pub routes-more : (g : Multigraph) (nodes : List Node) (k n : ℕ) (routes : List (List ℕ)) (along : List ℕ) → AreItemRoutes g nodes k n routes → IsItemRoute g nodes k n along → AreItemRoutes g nodes k (n + 1) (routes ++ along ∷ [])
routes-more g nodes k n routes along a r = record {
  each = omega (arith, length_push routes along, a.each);
  routes_are = λ i l. elim (cases_eq i n) [
    | inl q ↦ subst (λ (z : List ℕ). IsItemRoute g nodes k i z) (sym (get_or_push routes along [] i (a.each ∙ sym q))) (subst (λ (z : ℕ). IsItemRoute g nodes k z along) (sym q) r)
    | inr d ↦
        let less : i < n = omega (arith, l, d) in
        subst (λ (z : List ℕ). IsItemRoute g nodes k i z) (sym (get_or_append_left routes (along ∷ []) [] i (omega (arith, less, a.each)))) (a.routes_are i less)
  ];
}

module _ (g : Multigraph) (nodes : List Node) (b : IsBlockTree g nodes) (k : ℕ) (kl : k < length nodes) where
  abbrev tree : IsTutte g nodes
  tree = b.tree

  abbrev comps : List Comp
  comps = components nodes

  abbrev vertices : List ℕ
  vertices = (node_at nodes k).vertices

  abbrev count : ℕ
  count = length (node_at nodes k).items

  abbrev in_group : ℕ → ℕ → Type 0
  in_group i e = has_in_group comps k e (node_item nodes k i).what ≡ true

  -- there are few items
  pub items-few : IsWithinLimits g → count < 2 ^ 32
  items-few limits = omega (arith, (skeleton-limits g nodes b k kl limits).few_edges, graph-edges g nodes b k kl)

  -- the ends of an item differ
  pub ends-apart : (i : ℕ) → i < count → (node_item nodes k i).a ≢ (node_item nodes k i).b
  ends-apart i l q = omega (arith, tree.in_order.ends_rise k i l, q)

  module _ (notes : List ℕ) (lists : List (List ℕ)) (o : AreOwners g nodes k notes) (p : ArePlaces notes (edge_count g) count lists) where
    abbrev part : ℕ → List ℕ
    part i = slice_index_or lists i []

    -- the edges in the group of an item rise
    pub group-rises : (i : ℕ) → i < count → Rises (part i)
    group-rises i l = subst (λ (z : List ℕ). Rises z) (sym (p.places i l)) (λ x y c d. filter_below-rises (λ e. note_of notes e == i) (edge_count g) x y 0 c d)

    -- they are edges
    pub group-below : (i : ℕ) → i < count → (x : ℕ) → x < length (part i) → slice_index (part i) x < edge_count g
    group-below i l = subst (λ (z : List ℕ). (x : ℕ) → x < length z → slice_index z x < edge_count g) (sym (p.places i l)) (λ x c. (filter_below-at (λ e. note_of notes e == i) (edge_count g) x 0 c).0)

    -- an edge in the group of the item is among them
    group-has : (i e : ℕ) → i < count → e < edge_count g → in_group i e → is_member e (part i) ≡ true
    group-has i e l le m =
        let w = o e le in
        let same : note_of notes e ≡ i = group-once g comps tree.split k e (note_of notes e) i (piece-in g nodes tree k (note_of notes e) w.0) (piece-in g nodes tree k i l) le
        (ap (λ (z : What). has_in_group comps k e z) (what-at g nodes tree k (note_of notes e) w.0) ∙ w.1) (ap (λ (z : What). has_in_group comps k e z) (what-at g nodes tree k i l) ∙ m) in
        subst (λ (z : List ℕ). is_member e z ≡ true) (sym (p.places i l))
        (member-from_contains (noted_with notes (edge_count g) i) e (filter_below-has (λ f. note_of notes f == i) (edge_count g) e le (eq-eqb (note_of notes e) i same)))

    -- what is among them is in the group of the item
    group-only : (i e : ℕ) → i < count → is_member e (part i) ≡ true → in_group i e
    group-only i e l m =
        let w = filter_below-only (λ f. note_of notes f == i) (edge_count g) e (contains-from_member (noted_with notes (edge_count g) i) e (subst (λ (z : List ℕ). is_member e z ≡ true) (p.places i l) m)) in
        subst (λ (z : ℕ). in_group z e) (eqb-true (note_of notes e) i w.1) (o e w.0).1

    -- there is a path along them between the ends of the item
    pub group-path : (i : ℕ) → i < count → PathAlong g (part i) (node_item nodes k i).a (node_item nodes k i).b
    group-path i l =
        let w : PathThrough g nodes k i = path-through g nodes b k i kl l in
        record {
          along = w.along;
          path = w.path;
          among = λ e m.
              let le : e < edge_count g = walk-edge g (node_item nodes k i).a w.along w.path.walk e m in
              group-has i e l le (group-item g nodes tree k i e kl l le (w.in_group e m));
        }

    -- each such path is one of the item
    pub route-right : (i : ℕ) → i < count → (along : List ℕ) → IsPath g (node_item nodes k i).a along (node_item nodes k i).b → ((e : ℕ) → is_member e along ≡ true → is_member e (part i) ≡ true) → IsItemRoute g nodes k i along
    route-right i l along w among = record { path = w; among = λ e m. group-only i e l (among e m) }

  module _ (routes : List (List ℕ)) (r : AreItemRoutes g nodes k count routes) where
    abbrev S : Multigraph
    S = skeleton_graph nodes k

    abbrev a_of : ℕ → ℕ
    a_of i = (node_item nodes k i).a

    abbrev b_of : ℕ → ℕ
    b_of i = (node_item nodes k i).b

    item : (i : ℕ) → i < edge_count S → i < count
    item = edge-item g nodes b k kl

    -- a route begins at the lesser end of its item
    start-is : (i : ℕ) → i < count → route_start S vertices i ≡ a_of i
    start-is i l = ap (λ (z : ℕ × ℕ). slice_index_or vertices z.0 0) (graph-ends g nodes b k kl i l) ∙ place-at vertices (a_of i) 0 (item-first g nodes tree k i kl l)

    -- and ends at the greater
    end-is : (i : ℕ) → i < count → route_end S vertices i ≡ b_of i
    end-is i l = ap (λ (z : ℕ × ℕ). slice_index_or vertices z.1 0) (graph-ends g nodes b k kl i l) ∙ place-at vertices (b_of i) 0 (item-second g nodes tree k i kl l)

    path-is : (i : ℕ) → i < count → IsPath g (a_of i) (route_at routes i) (b_of i)
    path-is i l = (r.routes_are i l).path

    -- an end of the item ends the route
    item-ends : (i z : ℕ) → i < count → ends_item z (node_item nodes k i) ≡ true → (a_of i ≡ z) ⊎ (b_of i ≡ z)
    item-ends i z l h = elim (or_cases (a_of i == z) (b_of i == z) h) [ inl q ↦ inl (eqb-true (a_of i) z q) | inr q ↦ inr (eqb-true (b_of i) z q) ]

    route-ends : (i z : ℕ) → i < count → ends_item z (node_item nodes k i) ≡ true → EndsRoute S vertices i z
    route-ends i z l h = elim (item-ends i z l h) [ inl q ↦ inl (start-is i l ∙ q) | inr q ↦ inr (end-is i l ∙ q) ]

    -- at each vertex of a route there is an edge in the group of its item
    touched : (i z : ℕ) → i < count → is_member z (walk_vertices g (a_of i) (route_at routes i)) ≡ true → (e : ℕ) × (e < edge_count g) × (is_end g z e ≡ true) × in_group i e
    touched i z l m = elim (met-edge_end g (a_of i) (route_at routes i) (path-is i l).walk z m) [
      | inl q ↦ item-edge g nodes tree k z i l (or_left (a_of i == z) (b_of i == z) (eq-eqb (a_of i) z (sym q)))
      | inr f ↦ (f.0, walk-edge g (a_of i) (route_at routes i) (path-is i l).walk f.0 f.1, f.2, (r.routes_are i l).among f.0 f.1)
    ]

    on-route : (i z : ℕ) → i < count → is_member z (route_vertices S g vertices routes i) ≡ true → is_member z (walk_vertices g (a_of i) (route_at routes i)) ≡ true
    on-route i z l m = subst (λ (w : ℕ). is_member z (walk_vertices g w (route_at routes i)) ≡ true) (start-is i l) m

    -- a vertex on two routes is an end of the one
    shared : (i j z : ℕ) → i < count → j < count → i ≢ j → is_member z (route_vertices S g vertices routes i) ≡ true → is_member z (route_vertices S g vertices routes j) ≡ true → EndsRoute S vertices i z
    shared i j z l m n u v =
        let e = touched i z l (on-route i z l u) in
        let f = touched j z m (on-route j z m v) in
        route-ends i z l (sym (ends-at g nodes tree k i z l) ∙ group-common g comps tree.split k i j e.0 f.0 z (piece-in g nodes tree k i l) (piece-in g nodes tree k j m) n e.1 f.1
        (ap (λ (w : What). has_in_group comps k e.0 w) (what-at g nodes tree k i l) ∙ e.3) (ap (λ (w : What). has_in_group comps k f.0 w) (what-at g nodes tree k j m) ∙ f.3) e.2 f.2)

    -- no route has a vertex of the node inside
    free : (i z : ℕ) → i < count → is_member z (inner_vertices g (a_of i) (route_at routes i)) ≡ true → is_member z vertices ≡ false
    free i z l m = false_from_ne_true (is_member z vertices) (λ h.
        let w = inside-met g (a_of i) (route_at routes i) (b_of i) (path-is i l) (ends-apart i l) z m in
        let e = touched i z l w.0 in
        elim (item-ends i z l (edge-end g nodes tree k z i e.0 h l e.1 e.2 e.3)) [ inl q ↦ w.1 (sym q) | inr q ↦ w.2 (sym q) ])

    -- so they are routes of the skeleton
    pub item-routes : AreRoutes (skeleton_graph nodes k) g (node_at nodes k).vertices routes
    item-routes = record {
      vertex_each = refl;
      vertex_rises = tree.in_order.vertices_rise k kl;
      vertex_in = λ x l. vertex-fits g nodes tree b.graph k (slice_index_or vertices x 0) (member-at vertices x 0 l);
      route_each = r.each ∙ sym (graph-edges g nodes b k kl);
      are_paths = λ e l. subst (λ (z : ℕ). IsPath g z (route_at routes e) (route_end S vertices e)) (sym (start-is e (item e l)))
          (subst (λ (z : ℕ). IsPath g (a_of e) (route_at routes e) z) (sym (end-is e (item e l))) (path-is e (item e l)));
      common = λ e f z l m n u v. (shared e f z (item e l) (item f m) n u v, shared f e z (item f m) (item e l) (λ q. n (sym q)) v u);
      inside = λ e z l m. free e z (item e l) (subst (λ (w : ℕ). is_member z (inner_vertices g w (route_at routes e)) ≡ true) (start-is e (item e l)) m);
    }
