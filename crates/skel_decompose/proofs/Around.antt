-- An edge and the one that follows it around a vertex, and at a node the items that have them.
use Rattle.std.proofs.Common.{◌≡◌, ℕ, ◌<◌, true, List, length, sym, ◌∙◌}
use Rattle.permutations.specs.Cyclic.{successor}
use Rattle.permutations.specs.Members.{is_member, place_of}
use Rattle.permutations.proofs.Successor.{successor-member}
use Rattle.multigraph.specs.Graph.{Multigraph, edge_count, is_end}
use Rattle.multigraph.proofs.OtherEnd.{end-in}
use Rattle.rotations.specs.Rotation.{order_at}
use Rattle.faces.proofs.DartLemmas.{order-member}
use Rattle.faces.proofs.MapLists.{successor-map}
use Rattle.pair_split.specs.Tutte.{Node, node_at, node_item, group, IsTutte}
use Rattle.pair_split.specs.declared.components.What.TheVariants.{Real}
use Rattle.skeletons.specs.Items.{ends_item, has_vertex}
use Rattle.skeletons.specs.Families.{system_at, keys_in}
use Rattle.skeletons.proofs.NodeItems.{keys-once, item-vertex}
use Rattle.skeletons.proofs.Places.{round-item, item-round, contiguous-follows}
use Rattle.skel_compose.proofs.Walk.{LeadsOn, order-edge_at, starts}
use Rattle.skel_compose.specs.Followers.{follower}
use Rattle.skel_decompose.specs.Followers.{IsInRuns, IsFamily}

-- a family that is followed
pub some-family : (g : Multigraph) (nodes : List Node) (r : List (List ℕ)) → IsInRuns g nodes r → (family : List (List (List ℕ))) × IsFamily nodes r family
some-family g nodes r d = let w = contiguous-follows g nodes r d.block d.system d.runs in (w.0, record { systems = w.1; follows = w.2 })

-- the next edge
pub next-edge : (g : Multigraph) (nodes : List Node) (r : List (List ℕ)) (d : IsInRuns g nodes r) (v e : ℕ) → e < edge_count g → is_end g v e ≡ true
    → (is_member e (order_at r v) ≡ true) × (successor (order_at r v) e < edge_count g) × (is_end g v (successor (order_at r v) e) ≡ true)
next-edge g nodes r d v e le ve =
    let lv : v < g.vertex_count = end-in g v e d.block.graph le ve in
    let m : is_member e (order_at r v) ≡ true = order-member g r v e d.system lv le ve in
    let n = order-edge_at g r v (successor (order_at r v) e) d.system lv (successor-member (order_at r v) e m) in
    (m, n.0, n.1)

module _ (g : Multigraph) (nodes : List Node) (r : List (List ℕ)) (d : IsInRuns g nodes r) (family : List (List (List ℕ))) (m : IsFamily nodes r family)
    (v e : ℕ) (le : e < edge_count g) (ve : is_end g v e ≡ true) where
  abbrev t : IsTutte g nodes
  t = d.block.tree

  abbrev next : ℕ
  next = successor (order_at r v) e

  -- at home an edge leads to the next one
  pub home-leads : (k i : ℕ) → k < length nodes → i < length (node_at nodes k).items → (node_item nodes k i).what ≡ Real e → LeadsOn nodes family v e next k i
  home-leads k i dk l w = starts g nodes d.block family m.systems r d.system m.follows v e le ve k i dk l w

  -- at a node to which it leads, where item p has the next edge
  module _ (k i p : ℕ) (on : LeadsOn nodes family v e next k i) (lp : p < length (node_at nodes k).items) (kp : (node_item nodes k p).key ≡ group nodes k next) where
    has : has_vertex nodes k v ≡ true
    has = item-vertex g nodes t k v i on.is_node on.is_item on.end

    behind : (node_item nodes k p).key ≡ successor (keys_in nodes family k v) (node_item nodes k i).key
    behind = kp ∙ sym on.behind

    -- it is what follows
    pub follows-here : p ≡ follower nodes family k i v
    follows-here = keys-once g nodes t k p (follower nodes family k i v) lp there.0 (behind ∙ successor-map (λ z. (node_item nodes k z).key) order i (λ z n q.
        keys-once g nodes t k z i (round-item g nodes t k on.is_node (system_at family k) v z (m.systems.systems k on.is_node) has n).0 on.is_item q))
      where
        order : List ℕ
        order = order_at (system_at family k) (place_of (node_at nodes k).vertices v)

        there : (successor order i < length (node_at nodes k).items) × (ends_item v (node_item nodes k (successor order i)) ≡ true)
        there = round-item g nodes t k on.is_node (system_at family k) v (successor order i) (m.systems.systems k on.is_node) has
            (successor-member order i (item-round g nodes t k on.is_node (system_at family k) v i (m.systems.systems k on.is_node) has on.is_item on.end))
