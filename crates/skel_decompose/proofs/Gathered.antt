-- Orders gone around in the table, put into rotation systems.
use Rattle.std.proofs.Common.{◌≡◌, ℕ, ◌+◌, ◌-◌, ◌<◌, true, List, [], ◌∷◌, ◌++◌, length, get_or, map, slice_index_or, sym, ap, ap₂, ◌∙◌, subst, arith}
use Rattle.std.proofs.lemmas.List.{get_or-map, length-map, map-append, ext_get_or}
use Rattle.permutations.specs.Cyclic.{successor}
use Rattle.permutations.specs.Members.{is_member, place_of}
use Rattle.permutations.specs.Ring.{images}
use Rattle.permutations.proofs.Arrangements.{contains-from_member, member-at}
use Rattle.permutations.proofs.Places.{place-at, told-distinct}
use Rattle.permutations.proofs.Successor.{successor-member}
use Rattle.multigraph.specs.Graph.{Multigraph, is_end, incident_edges, numbers_below}
use Rattle.multigraph.proofs.Below.{get_or-numbers_below, length-numbers_below, numbers_below-more}
use Rattle.multigraph.proofs.Places.{rises-once}
use Rattle.rotations.specs.Rotation.{order_at, IsRotationSystem}
use Rattle.rotations.specs.Given.{given_order, AreArranged}
use Rattle.rotations.proofs.Membership.{incident-member}
use Rattle.pair_split.specs.Tutte.{Node, node_at, node_item}
use Rattle.skeletons.specs.Items.{ends_item, has_vertex, IsBlockTree}
use Rattle.skeletons.specs.Families.{skeleton_graph, system_at, AreSkeletonSystems}
use Rattle.skeletons.proofs.NodeItems.{vertex-end}
use Rattle.skeletons.proofs.Places.{skel-end, round-item}
use Rattle.skeleton_runs.proofs.SkeletonGraph.{graph-edges}
use Rattle.skel_compose.specs.Orders.{orders_below}
use Rattle.skel_compose.proofs.Rounds.{round-start, round-member, entries-arranged, entries-same}
use Rattle.skel_compose.specs.Followers.{IsItemEnd, row_at, item_place, HasFollowers}
use Rattle.skel_decompose.specs.Followers.{members_below}

module _ (g : Multigraph) (nodes : List Node) (b : IsBlockTree g nodes) (k p : ℕ) (dk : k < length nodes) (lp : p < length (node_at nodes k).vertices) where
  -- the vertex at the place
  abbrev vertex : ℕ
  vertex = slice_index_or (node_at nodes k).vertices p 0

  has : has_vertex nodes k vertex ≡ true
  has = member-at (node_at nodes k).vertices p 0 lp

  placed : place_of (node_at nodes k).vertices vertex ≡ p
  placed = place-at (node_at nodes k).vertices p (told-distinct (node_at nodes k).vertices (rises-once (node_at nodes k).vertices (b.tree.in_order.vertices_rise k dk))) lp

  -- it has an item
  pub some-item : 0 < length (incident_edges (skeleton_graph nodes k) p)
  some-item =
      let w = vertex-end g nodes b.tree k vertex has in
      let i = contains-from_member (incident_edges (skeleton_graph nodes k) p) w.0 (incident-member (skeleton_graph nodes k) p w.0 (subst (λ n. w.0 < n) (sym (graph-edges g nodes b k dk)) w.1)
      (ap (λ z. is_end (skeleton_graph nodes k) z w.0) (sym placed) ∙ skel-end g nodes b.tree k dk vertex w.0 has w.1 ∙ w.2)) in
      omega (arith, i.1)

  module _ (family : List (List (List ℕ))) (f : AreSkeletonSystems nodes family) where
    abbrev order : List ℕ
    order = order_at (system_at family k) p

    -- the first item
    pub items-start : (x : ℕ) (items : List ℕ) → items ≡ [] → x ≡ get_or (incident_edges (skeleton_graph nodes k) p) 0 0
        → (items ++ images (successor (order_at (system_at family k) p)) (length (incident_edges (skeleton_graph nodes k) p) - 0) x ≡ order_at (system_at family k) p) × (is_member x (order_at (system_at family k) p) ≡ true)
    items-start x items e q = (
      round-start (skeleton_graph nodes k) (system_at family k) (f.systems k dk) p x items lp e q,
      round-member (skeleton_graph nodes k) (system_at family k) (f.systems k dk) p x lp q some-item,
    )

    -- an item in the order has the vertex as an end
    pub item-around : (i v : ℕ) → v ≡ vertex → is_member i (order_at (system_at family k) p) ≡ true → IsItemEnd nodes k i v
    item-around i v e m =
        let w = round-item g nodes b.tree k dk (system_at family k) vertex i (f.systems k dk) has (ap (λ z. is_member i (order_at (system_at family k) z)) placed ∙ m) in
        record { is_node = dk; is_item = w.0; end = ap (λ z. ends_item z (node_item nodes k i)) e ∙ w.1 }

    -- what the table has is the next one
    pub item-next : (table : List (List ℕ)) → HasFollowers nodes family table → (i v x : ℕ) → v ≡ vertex → is_member i (order_at (system_at family k) p) ≡ true
        → x ≡ slice_index_or (row_at table k) (item_place nodes k i v) 0 → (x ≡ successor (order_at (system_at family k) p) i) × (is_member x (order_at (system_at family k) p) ≡ true)
    item-next table h i v x e m q = (same, subst (λ z. is_member z order ≡ true) (sym same) (successor-member order i m))
      where
        same : x ≡ successor order i
        same = q ∙ h k i v (item-around i v e m) ∙ ap (λ z. successor (order_at (system_at family k) (place_of (node_at nodes k).vertices z)) i) e ∙ ap (λ z. successor (order_at (system_at family k) z) i) placed

-- the members for all nodes are the family
pub members-same : (nodes : List Node) (family : List (List (List ℕ))) → AreSkeletonSystems nodes family → members_below family (length nodes) ≡ family
members-same nodes family f = ext_get_or [] (members_below family (length nodes)) family (number ∙ sym f.each) (λ k l.
    let m : k < length nodes = subst (λ n. k < n) number l in
    get_or-map (system_at family) (numbers_below (length nodes)) k 0 [] (subst (λ n. k < n) (sym (length-numbers_below (length nodes))) m) ∙ ap (system_at family) (get_or-numbers_below (length nodes) k 0 m))
  where
    number : length (members_below family (length nodes)) ≡ length nodes
    number = length-map (numbers_below (length nodes)) (system_at family) ∙ length-numbers_below (length nodes)

-- what is made of the orders of a member is the member
pub member-made : (graph : Multigraph) (nodes : List Node) (k : ℕ) (d : k < length nodes) (family : List (List (List ℕ))) → AreSkeletonSystems nodes family → graph ≡ skeleton_graph nodes k
    → (lists : List (ℕ × List ℕ)) → lists ≡ orders_below (system_at family k) (length (node_at nodes k).vertices)
    → AreArranged graph lists × ((q : List (List ℕ)) → IsRotationSystem graph q → ((v : ℕ) → v < graph.vertex_count → order_at q v ≡ given_order graph lists v) → q ≡ system_at family k)
member-made graph nodes k d family f e lists h = subst (λ (z : Multigraph). AreArranged z lists × ((q : List (List ℕ)) → IsRotationSystem z q → ((v : ℕ) → v < z.vertex_count → order_at q v ≡ given_order z lists v) → q ≡ system_at family k)) (sym e)
    (subst (λ (z : List (ℕ × List ℕ)). AreArranged (skeleton_graph nodes k) z × ((q : List (List ℕ)) → IsRotationSystem (skeleton_graph nodes k) q
    → ((v : ℕ) → v < length (node_at nodes k).vertices → order_at q v ≡ given_order (skeleton_graph nodes k) z v) → q ≡ system_at family k)) (sym h)
    (entries-arranged (skeleton_graph nodes k) (system_at family k) (f.systems k d), λ q s orders. sym (entries-same (skeleton_graph nodes k) (system_at family k) (f.systems k d) q s.vertices orders)))

-- one member more
pub members-more : (family : List (List (List ℕ))) (k : ℕ) (member : List (List ℕ)) (items new : List (List (List ℕ))) → items ≡ members_below family k → member ≡ system_at family k → new ≡ items ++ member ∷ [] → new ≡ members_below family (k + 1)
members-more family k member items new e q p = p ∙ ap₂ (λ (u : List (List (List ℕ))) (w : List (List ℕ)). u ++ w ∷ []) e q ∙ sym (ap (map (system_at family)) (numbers_below-more k) ∙ map-append (system_at family) (numbers_below k) (k ∷ []))

-- all members
pub members-all : (nodes : List Node) (family : List (List (List ℕ))) → AreSkeletonSystems nodes family → (k : ℕ) → k ≡ length nodes → (items : List (List (List ℕ))) → items ≡ members_below family k → family ≡ items
members-all nodes family f k e items q = sym (q ∙ ap (members_below family) e ∙ members-same nodes family f)
