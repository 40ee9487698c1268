-- All skeletons side by side as one map.
use Rattle.std.proofs.Common.{◌≡◌, ℕ, ◌*◌, ◌/◌, ◌<◌, ◌≤◌, Bool, true, cond, ltb, List, length, inl, inr, sym, ap, ap₂, ◌∙◌, subst, arith, lt-ltb, ltb-true, le-ltb}
use Rattle.std.proofs.lemmas.Bool.{cases_lt, and_parts}
use Rattle.std.proofs.lemmas.List.{get_or-map, length-map}
use Rattle.multigraph.specs.Graph.{Multigraph, edge_count}
use Rattle.multigraph.proofs.Places.{rises-short}
use Rattle.rotations.specs.Rotation.{order_at, IsRotationSystem}
use Rattle.dart_maps.specs.Map.{IsMap, IsPlane}
use Rattle.faces.specs.Maps.{dart_after, dart_before}
use Rattle.pair_split.specs.Tutte.{Node, node_at}
use Rattle.pair_split.specs.declared.components.What.TheVariants.{Real}
use Rattle.skeletons.specs.Items.{node_keys, item_key, IsBlockTree}
use Rattle.skeletons.specs.Families.{skeleton_graph, system_at, AreSkeletonSystems, FollowsFamily}
use Rattle.skeleton_runs.proofs.NodeFits.{key-fits}
use Rattle.skeleton_runs.proofs.SkeletonGraph.{graph-edges}
use Rattle.skeleton_planes.proofs.Numbering.{coded, part_of, local_of, united}
use Rattle.skeleton_planes.proofs.RunTests.{end_of, is_dart, ends_with, begins_behind, ends_run, holds}
use Rattle.skeleton_planes.proofs.Coded.{part-coded, local-coded, part-below}
use Rattle.skeleton_planes.proofs.Union.{united-part, united-local, united-map, united-plane, united-plane-back, filled-map, filled-plane, filled-plane-back}
use Rattle.skeleton_planes.proofs.SkeletonDarts.{item-dart, end-vertex, skeleton-map, step-end, ends-begins}

-- a node has no more items than the block has edges
pub few-items : (g : Multigraph) (nodes : List Node) (b : IsBlockTree g nodes) (k : ℕ) → k < length nodes → length (node_at nodes k).items ≤ edge_count g
few-items g nodes b k l = subst (λ n. n ≤ edge_count g) number (rises-short (node_keys nodes k) (edge_count g) (b.tree.in_order.keys_rise k l) (λ i m.
    let here : i < length (node_at nodes k).items = subst (λ z. i < z) number m in
    subst (λ z. z < edge_count g) (sym (get_or-map item_key (node_at nodes k).items i (record { key = 0; a = 0; b = 0; what = Real 0 }) 0 here)) (key-fits g nodes b.tree k i here)))
  where
    number : length (node_keys nodes k) ≡ length (node_at nodes k).items
    number = length-map (node_at nodes k).items item_key

-- the step of the skeleton of node k, where there are darts
abbrev pub stepped : List Node → List (List (List ℕ)) → ℕ → ℕ → ℕ
stepped nodes family k z = cond (ltb z (2 * edge_count (skeleton_graph nodes k))) (dart_after (skeleton_graph nodes k) (system_at family k) z) z

-- and back
abbrev pub stepped_back : List Node → List (List (List ℕ)) → ℕ → ℕ → ℕ
stepped_back nodes family k z = cond (ltb z (2 * edge_count (skeleton_graph nodes k))) (dart_before (skeleton_graph nodes k) (system_at family k) z) z

-- the vertex that a dart of the whole leaves
abbrev pub place_in : Multigraph → List Node → ℕ → ℕ
place_in g nodes x = end_of nodes (part_of (edge_count g) x) (local_of (edge_count g) x)

-- whether the edges for which it stands end with c, or begin behind c
abbrev pub ends_in : Multigraph → List Node → List (List ℕ) → ℕ → ℕ → Bool
ends_in g nodes r x c = ends_with nodes r (part_of (edge_count g) x) (local_of (edge_count g) x) c

abbrev pub begins_in : Multigraph → List Node → List (List ℕ) → ℕ → ℕ → Bool
begins_in g nodes r x c = begins_behind nodes r (part_of (edge_count g) x) (local_of (edge_count g) x) c

-- a block, its tree, and a family
module _ (g : Multigraph) (nodes : List Node) (b : IsBlockTree g nodes) (family : List (List (List ℕ))) (systems : AreSkeletonSystems nodes family) where
  -- room for as many edges as the block has
  abbrev width : ℕ
  width = edge_count g

  -- all skeletons side by side
  abbrev whole : ℕ → ℕ
  whole = united (edge_count g) (stepped nodes family)

  -- a dart of an item has room
  pub dart-fits : (k z : ℕ) → k < length nodes → z / 2 < length (node_at nodes k).items → z < 2 * edge_count g
  dart-fits k z l m = let f : length (node_at nodes k).items ≤ edge_count g = few-items g nodes b k l in half-fits z (length (node_at nodes k).items) width m f
    where
      half-fits : (z c w : ℕ) → z / 2 < c → c ≤ w → z < 2 * w
      half-fits z c w m f = omega arith

  -- the edges of a skeleton have room
  edges-few : (k : ℕ) → k < length nodes → edge_count (skeleton_graph nodes k) ≤ edge_count g
  edges-few k l = subst (λ n. n ≤ edge_count g) (sym (graph-edges g nodes b k l)) (few-items g nodes b k l)

  -- the map of a skeleton, with room
  maps : (k : ℕ) → k < length nodes → IsMap (edge_count g) (stepped nodes family k) (stepped_back nodes family k)
  maps k l = filled-map (edge_count (skeleton_graph nodes k)) width (edges-few k l) (dart_after (skeleton_graph nodes k) (system_at family k)) (dart_before (skeleton_graph nodes k) (system_at family k)) (skeleton-map g nodes b k l (system_at family k) (systems.systems k l))

  -- the whole is a map
  pub whole-map : IsMap (edge_count g * length nodes) (united (edge_count g) (stepped nodes family)) (united (edge_count g) (stepped_back nodes family))
  whole-map = united-map width (length nodes) (stepped nodes family) (stepped_back nodes family) maps

  -- it is plane where each skeleton's map is
  pub whole-plane : ((k : ℕ) → k < length nodes → IsPlane (edge_count (skeleton_graph nodes k)) (dart_after (skeleton_graph nodes k) (system_at family k))) → IsPlane (edge_count g * length nodes) (united (edge_count g) (stepped nodes family))
  whole-plane p = united-plane width (length nodes) (stepped nodes family) (stepped_back nodes family) maps
      (λ k l. filled-plane (edge_count (skeleton_graph nodes k)) width (edges-few k l) (dart_after (skeleton_graph nodes k) (system_at family k)) (dart_before (skeleton_graph nodes k) (system_at family k)) (skeleton-map g nodes b k l (system_at family k) (systems.systems k l)) (p k l))

  -- and each skeleton's map where the whole is
  pub whole-plane-back : IsPlane (edge_count g * length nodes) (united (edge_count g) (stepped nodes family)) → (k : ℕ) → k < length nodes → IsPlane (edge_count (skeleton_graph nodes k)) (dart_after (skeleton_graph nodes k) (system_at family k))
  whole-plane-back p k l = filled-plane-back (edge_count (skeleton_graph nodes k)) width (edges-few k l) (dart_after (skeleton_graph nodes k) (system_at family k)) (dart_before (skeleton_graph nodes k) (system_at family k)) (skeleton-map g nodes b k l (system_at family k) (systems.systems k l))
      (united-plane-back width (length nodes) (stepped nodes family) (stepped_back nodes family) maps p k l)

  -- the step at a dart of an item
  pub stepped-in : (k z : ℕ) → k < length nodes → z / 2 < length (node_at nodes k).items → stepped nodes family k z ≡ dart_after (skeleton_graph nodes k) (system_at family k) z
  stepped-in k z l m = ap (λ (t : Bool). cond t (dart_after (skeleton_graph nodes k) (system_at family k) z) z) (lt-ltb z (2 * edge_count (skeleton_graph nodes k)) (item-dart g nodes b k l z m))

  -- and at a dart of none
  pub stepped-out : (k z : ℕ) → k < length nodes → length (node_at nodes k).items ≤ z / 2 → stepped nodes family k z ≡ z
  stepped-out k z l m = ap (λ (t : Bool). cond t (dart_after (skeleton_graph nodes k) (system_at family k) z) z) (le-ltb z (2 * edge_count (skeleton_graph nodes k)) (let e : edge_count (skeleton_graph nodes k) ≡ length (node_at nodes k).items = graph-edges g nodes b k l in omega (arith, e, m)))

  -- a step of the whole, in a skeleton
  pub whole-coded : (k z : ℕ) → k < length nodes → z / 2 < length (node_at nodes k).items → united (edge_count g) (stepped nodes family) (coded (edge_count g) k z) ≡ coded (edge_count g) k (dart_after (skeleton_graph nodes k) (system_at family k) z)
  whole-coded k z l m = ap₂ (λ a c. coded width a (stepped nodes family a c)) (part-coded width k z (dart-fits k z l m)) (local-coded width k z (dart-fits k z l m)) ∙ ap (coded width k) (stepped-in k z l m)

  -- its part and its number there
  pub whole-part : (x : ℕ) → x < 2 * (edge_count g * length nodes) → part_of (edge_count g) (united (edge_count g) (stepped nodes family) x) ≡ part_of (edge_count g) x
  whole-part = united-part width (length nodes) (stepped nodes family) (stepped_back nodes family) maps

  -- its number
  pub whole-local : (x : ℕ) → x < 2 * (edge_count g * length nodes) → local_of (edge_count g) (united (edge_count g) (stepped nodes family) x) ≡ stepped nodes family (part_of (edge_count g) x) (local_of (edge_count g) x)
  whole-local = united-local width (length nodes) (stepped nodes family) (stepped_back nodes family) maps

  -- it keeps the vertices
  pub whole-places : (x : ℕ) → x < 2 * (edge_count g * length nodes) → place_in g nodes (united (edge_count g) (stepped nodes family) x) ≡ place_in g nodes x
  whole-places x m = ap₂ (λ k z. end_of nodes k z) (whole-part x m) (whole-local x m) ∙ at (part_of width x) (local_of width x) (part-below width (length nodes) x m)
    where
      at : (k z : ℕ) → k < length nodes → end_of nodes k (stepped nodes family k z) ≡ end_of nodes k z
      at k z l = elim (cases_lt (z / 2) (length (node_at nodes k).items)) [
        | inl i ↦ ap (end_of nodes k) (stepped-in k z l i) ∙ step-end g nodes b k l (system_at family k) (systems.systems k l) z i
        | inr i ↦ ap (end_of nodes k) (stepped-out k z l i)
      ]

  -- where r follows the family: where the edges of a dart end, those of the next one begin
  pub whole-follows : (r : List (List ℕ)) → IsRotationSystem g r → FollowsFamily nodes family r → (x : ℕ) → x < 2 * (edge_count g * length nodes) → (c : ℕ) → ends_in g nodes r x c ≡ true → begins_in g nodes r (united (edge_count g) (stepped nodes family) x) c ≡ true
  whole-follows r system follows x m c h = subst (λ k. begins_behind nodes r k (local_of width (whole x)) c ≡ true) (sym (whole-part x m))
      (subst (λ z. begins_behind nodes r (part_of width x) z c ≡ true) (sym (whole-local x m)) (at (part_of width x) (local_of width x) (part-below width (length nodes) x m) h))
    where
      at : (k z : ℕ) → k < length nodes → ends_with nodes r k z c ≡ true → begins_behind nodes r k (stepped nodes family k z) c ≡ true
      at k z l t = let i : z / 2 < length (node_at nodes k).items = ltb-true (z / 2) (length (node_at nodes k).items) (and_parts (is_dart nodes k z) (ends_run (order_at r (end_of nodes k z)) (holds nodes k z) c) t).0 in
          subst (λ y. begins_behind nodes r k y c ≡ true) (sym (stepped-in k z l i))
          (ends-begins g nodes b k l (system_at family k) (systems.systems k l) r system z i (follows k (end_of nodes k z) (end-vertex g nodes b k l z i)) c t)
