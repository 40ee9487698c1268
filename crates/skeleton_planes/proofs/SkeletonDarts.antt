-- The map of a skeleton: the vertices of the block that its darts leave, and what follows a dart in a family that a rotation
-- system follows.
use Rattle.std.proofs.Common.{◌≡◌, ℕ, ◌*◌, ◌/◌, ◌%◌, ◌<◌, ◌⊎◌, Bool, true, false, ◌==◌, cond, List, length, map, inl, inr, sym, ap, ◌∙◌, subst, arith, eq-eqb, eqb-true, lt-ltb}
use Rattle.std.proofs.lemmas.Bool.{cases_Bool, both_ways, and_from, and_parts, false_from_ne_true}
use Rattle.permutations.specs.Members.{is_member, is_distinct, place_of}
use Rattle.permutations.specs.Cyclic.{successor}
use Rattle.permutations.specs.Runs.{group_keys}
use Rattle.permutations.proofs.Successor.{successor-member}
use Rattle.permutations.proofs.Turned.{IsTurn-successor}
use Rattle.multigraph.specs.Graph.{Multigraph, IsGraph, edge_count}
use Rattle.rotations.specs.Rotation.{order_at, IsRotationSystem}
use Rattle.rotations.proofs.Membership.{member-edge}
use Rattle.dart_maps.specs.Map.{IsMap}
use Rattle.faces.specs.Euler.{tail}
use Rattle.faces.specs.Maps.{dart_after, dart_before}
use Rattle.faces.proofs.DartLemmas.{tail-even, tail-odd, order-distinct, member-incident}
use Rattle.faces.proofs.MapSteps.{tail-in, after-tail, after-edge, map-permutes}
use Rattle.faces.proofs.MapLists.{successor-map}
use Rattle.faces.proofs.MapVertices.{tail-order}
use Rattle.pair_split.specs.Tutte.{Node, components, node_at, node_item, group, has_in_group}
use Rattle.skeletons.specs.Items.{has_vertex, IsBlockTree}
use Rattle.skeletons.specs.Families.{skeleton_graph, StandInOrder}
use Rattle.skeletons.proofs.NodeItems.{keys-once, group-is, group-item}
use Rattle.skeleton_runs.proofs.NodeFits.{item-first, item-second, vertex-fits}
use Rattle.skeleton_runs.proofs.SkeletonGraph.{place-once, skeleton-graph, edge-item, item-edge, graph-ends}
use Rattle.skeleton_planes.proofs.RunTests.{ends_run, begins_run, end_of, holds, is_dart, ends_with, begins_behind}
use Rattle.skeleton_planes.proofs.Complements.{ends-parts, begins-from}
use Rattle.skeleton_planes.proofs.RunEnds.{run-followed}

-- a node of the tree of a block
module _ (g : Multigraph) (nodes : List Node) (b : IsBlockTree g nodes) (k : ℕ) (l : k < length nodes) where
  -- its skeleton
  abbrev graph : Multigraph
  graph = skeleton_graph nodes k

  -- its vertices
  abbrev vertices : List ℕ
  vertices = (node_at nodes k).vertices

  -- it is a graph
  ok : IsGraph (skeleton_graph nodes k)
  ok = skeleton-graph g nodes b k l

  -- a dart of an item of the node
  pub dart-item : (z : ℕ) → z < 2 * edge_count (skeleton_graph nodes k) → z / 2 < length (node_at nodes k).items
  dart-item z m = edge-item g nodes b k l (z / 2) (omega (arith, m))

  -- and back
  pub item-dart : (z : ℕ) → z / 2 < length (node_at nodes k).items → z < 2 * edge_count (skeleton_graph nodes k)
  item-dart z m = let e : z / 2 < edge_count (skeleton_graph nodes k) = item-edge g nodes b k l (z / 2) m in omega (arith, e)

  -- it leaves a vertex of the node
  pub end-vertex : (z : ℕ) → z / 2 < length (node_at nodes k).items → has_vertex nodes k (end_of nodes k z) ≡ true
  end-vertex z m = elim (cases_Bool (z % 2 == 0)) [
    | inl h ↦ ap (λ (t : Bool). has_vertex nodes k (cond t (node_item nodes k (z / 2)).a (node_item nodes k (z / 2)).b)) h ∙ item-first g nodes b.tree k (z / 2) l m
    | inr h ↦ ap (λ (t : Bool). has_vertex nodes k (cond t (node_item nodes k (z / 2)).a (node_item nodes k (z / 2)).b)) h ∙ item-second g nodes b.tree k (z / 2) l m
  ]

  -- in the skeleton, its place
  pub tail-place : (z : ℕ) → z / 2 < length (node_at nodes k).items → tail (skeleton_graph nodes k) z ≡ place_of (node_at nodes k).vertices (end_of nodes k z)
  tail-place z m = elim (cases_Bool (z % 2 == 0)) [
    | inl h ↦ tail-even graph z (eqb-true (z % 2) 0 h) ∙ ap (λ (p : ℕ × ℕ). p.0) (graph-ends g nodes b k l (z / 2) m) ∙ sym (ap (λ (t : Bool). place_of vertices (cond t (node_item nodes k (z / 2)).a (node_item nodes k (z / 2)).b)) h)
    | inr h ↦ tail-odd graph z (λ e. both_ways (z % 2 == 0) h (eq-eqb (z % 2) 0 e)) ∙ ap (λ (p : ℕ × ℕ). p.1) (graph-ends g nodes b k l (z / 2) m) ∙ sym (ap (λ (t : Bool). place_of vertices (cond t (node_item nodes k (z / 2)).a (node_item nodes k (z / 2)).b)) h)
  ]

  -- darts leave one vertex of the skeleton where they leave one of the block
  pub same-end_of : (y z : ℕ) → y / 2 < length (node_at nodes k).items → z / 2 < length (node_at nodes k).items → tail (skeleton_graph nodes k) y ≡ tail (skeleton_graph nodes k) z → end_of nodes k y ≡ end_of nodes k z
  same-end_of y z my mz e = place-once vertices (end_of nodes k y) (end_of nodes k z) (end-vertex y my) (end-vertex z mz) (sym (tail-place y my) ∙ e ∙ tail-place z mz)

  -- a rotation system of the skeleton
  module _ (s : List (List ℕ)) (system : IsRotationSystem (skeleton_graph nodes k) s) where
    -- the step round a vertex
    abbrev step : ℕ → ℕ
    step = dart_after (skeleton_graph nodes k) s

    -- its map
    pub skeleton-map : IsMap (edge_count (skeleton_graph nodes k)) (dart_after (skeleton_graph nodes k) s) (dart_before (skeleton_graph nodes k) s)
    skeleton-map = map-permutes graph s ok system

    -- the step leads to a dart of an item
    pub step-item : (z : ℕ) → z / 2 < length (node_at nodes k).items → dart_after (skeleton_graph nodes k) s z / 2 < length (node_at nodes k).items
    step-item z m = dart-item (step z) (skeleton-map.forth z (item-dart z m))

    -- at the same vertex
    pub step-end : (z : ℕ) → z / 2 < length (node_at nodes k).items → end_of nodes k (dart_after (skeleton_graph nodes k) s z) ≡ end_of nodes k z
    step-end z m = same-end_of (step z) z (step-item z m) m (after-tail graph s z ok system (item-dart z m))

    -- the item is the next one there
    pub step-next : (z : ℕ) → z / 2 < length (node_at nodes k).items → dart_after (skeleton_graph nodes k) s z / 2 ≡ successor (order_at s (place_of (node_at nodes k).vertices (end_of nodes k z))) (z / 2)
    step-next z m = after-edge graph s z ∙ ap (λ p. successor (order_at s p) (z / 2)) (tail-place z m)

    -- the items round a vertex are items of the node
    pub round-item : (z i : ℕ) → z / 2 < length (node_at nodes k).items → is_member i (order_at s (place_of (node_at nodes k).vertices (end_of nodes k z))) ≡ true → i < length (node_at nodes k).items
    round-item z i m n = edge-item g nodes b k l i (member-edge graph (place_of vertices (end_of nodes k z)) i (member-incident graph s (place_of vertices (end_of nodes k z)) i system
        (subst (λ p. p < length vertices) (tail-place z m) (tail-in graph z ok (item-dart z m))) n))

    -- the item of a dart is one of those round its vertex
    pub own-item : (z : ℕ) → z / 2 < length (node_at nodes k).items → is_member (z / 2) (order_at s (place_of (node_at nodes k).vertices (end_of nodes k z))) ≡ true
    own-item z m = subst (λ p. is_member (z / 2) (order_at s p) ≡ true) (tail-place z m) (tail-order graph s z ok system (item-dart z m))

    -- a rotation system of the block in which the groups round the dart's vertex stand in the order of the items
    module _ (r : List (List ℕ)) (whole : IsRotationSystem g r) (z : ℕ) (m : z / 2 < length (node_at nodes k).items)
        (order : StandInOrder (group nodes k) (order_at r (end_of nodes k z)) (map (λ i. (node_item nodes k i).key) (order_at s (place_of (node_at nodes k).vertices (end_of nodes k z))))) where
      -- the vertex
      abbrev v : ℕ
      v = end_of nodes k z

      -- the edges round it
      abbrev round : List ℕ
      round = order_at r v

      -- the items round it
      abbrev items : List ℕ
      items = order_at s (place_of vertices v)

      -- the item of the dart
      abbrev own : ℕ
      own = z / 2

      -- the next one
      abbrev next : ℕ
      next = successor items own

      -- the vertex is one of the block
      fits : v < g.vertex_count
      fits = vertex-fits g nodes b.tree b.graph k v (end-vertex z m)

      -- the edges come once
      pub round-distinct : is_distinct (order_at r (end_of nodes k z)) ≡ true
      round-distinct = order-distinct g r v whole fits

      -- each is an edge of the block
      pub round-edge : (c : ℕ) → is_member c (order_at r (end_of nodes k z)) ≡ true → c < edge_count g
      round-edge c n = member-edge g v c (member-incident g r v c whole fits n)

      -- the next item
      next-in : next < length (node_at nodes k).items
      next-in = round-item z next m (successor-member items own (own-item z m))

      -- the key of the next item follows that of the dart's
      next-key : successor (group_keys order.groups) (node_item nodes k own).key ≡ (node_item nodes k next).key
      next-key = sym (IsTurn-successor (group_keys order.groups) (map (λ i. (node_item nodes k i).key) items) (node_item nodes k own).key order.order order.runs.once)
          ∙ successor-map (λ i. (node_item nodes k i).key) items own (λ i n e. keys-once g nodes b.tree k i own (round-item z i m n) m e)

      -- what follows the last edge of the dart's group is in the group of the next item
      next-holds : (c : ℕ) → is_member c round ≡ true → holds nodes k z c ≡ true → ((holds nodes k z (successor round c) ≡ false) ⊎ (successor round c ≡ c)) → has_in_group (components nodes) k (successor round c) (node_item nodes k next).what ≡ true
      next-holds c n h e = group-item g nodes b.tree k next (successor round c) l next-in (round-edge (successor round c) (successor-member round c n))
          (sym (run-followed (group nodes k) round order.groups c round-distinct order.runs n (elim e [
            | inl i ↦ inl (λ q. both_ways (holds nodes k z (successor round c)) i (group-item g nodes b.tree k own (successor round c) l m (round-edge (successor round c) (successor-member round c n)) (q ∙ mine)))
            | inr i ↦ inr i
          ])) ∙ ap (successor (group_keys order.groups)) mine ∙ next-key)
        where
          mine : group nodes k c ≡ (node_item nodes k own).key
          mine = group-is g nodes b.tree k own c m (round-edge c n) h

      -- so where the edges of a dart end, those of the next one begin
      pub ends-begins : (c : ℕ) → ends_with nodes r k z c ≡ true → begins_behind nodes r k (dart_after (skeleton_graph nodes k) s z) c ≡ true
      ends-begins c h = let p = ends-parts round (holds nodes k z) c (and_parts (is_dart nodes k z) (ends_run round (holds nodes k z) c) h).1 in
          and_from (is_dart nodes k (step z)) (begins_run (order_at r (end_of nodes k (step z))) (holds nodes k (step z)) c) (lt-ltb (step z / 2) (length (node_at nodes k).items) (step-item z m))
          (subst (λ u. begins_run (order_at r u) (holds nodes k (step z)) c ≡ true) (sym (step-end z m))
          (subst (λ i. begins_run round (λ e. has_in_group (components nodes) k e (node_item nodes k i).what) c ≡ true) (sym (step-next z m))
          (begins-from round (λ e. has_in_group (components nodes) k e (node_item nodes k next).what) c p.0 (next-holds c p.0 p.1 p.2) (elim p.2 [
            | inr i ↦ inr i
            | inl i ↦ inl (false_from_ne_true (has_in_group (components nodes) k c (node_item nodes k next).what) (λ t. both_ways (holds nodes k z (successor round c)) i
                (subst (λ j. has_in_group (components nodes) k (successor round c) (node_item nodes k j).what ≡ true)
                (keys-once g nodes b.tree k next own next-in m (sym (group-is g nodes b.tree k next c next-in (round-edge c p.0) t) ∙ group-is g nodes b.tree k own c m (round-edge c p.0) p.1))
                (next-holds c p.0 p.1 p.2))))
          ]))))
