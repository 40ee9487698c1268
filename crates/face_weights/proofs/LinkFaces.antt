-- The two darts of a link lie on two faces of its skeleton.
use Rattle.std.proofs.Common.{◌≡◌, ℕ, ◌*◌, ◌/◌, ◌<◌, ◌&&◌, ◌==◌, ltb, false, List, length, ap, ◌∙◌}
use Rattle.multigraph.specs.Graph.{Multigraph, edge_count}
use Rattle.dart_maps.specs.Map.{twin, same_face}
use Rattle.dart_maps.proofs.Darts.{twin-below}
use Rattle.faces.specs.Euler.{IsPlane}
use Rattle.faces.specs.Maps.{dart_after}
use Rattle.faces.proofs.MapCounts.{plane-map}
use Rattle.pair_split.specs.Tutte.{Node, node_at, node_item}
use Rattle.pair_split.specs.declared.components.What.TheVariants.{Link}
use Rattle.skeletons.specs.Items.{IsBlockTree}
use Rattle.skeletons.specs.Families.{skeleton_graph, system_at, AreSkeletonSystems}
use Rattle.skeleton_runs.proofs.SkeletonGraph.{skeleton-graph}
use Rattle.skeleton_planes.proofs.Numbering.{coded, united, part_of, local_of}
use Rattle.skeleton_planes.proofs.Coded.{coded-twin, coded-below}
use Rattle.skeleton_planes.proofs.SkeletonDarts.{dart-item}
use Rattle.skeleton_planes.proofs.Linked.{link-company, link-no_bridge}
use Rattle.skeleton_planes.proofs.Whole.{stepped, stepped_back, dart-fits, whole-map, whole-plane}
use Rattle.skeleton_faces.proofs.TwoFaces.{two-faces}
use Rattle.skeleton_faces.proofs.BlockFaces.{numbered-face}
use Rattle.skeleton_faces.proofs.InSkeletons.{skeleton-inside}

-- a block with its tree and a plane family
module _ (g : Multigraph) (nodes : List Node) (b : IsBlockTree g nodes) (family : List (List (List ℕ))) (systems : AreSkeletonSystems nodes family)
    (plane : (k : ℕ) → k < length nodes → IsPlane (skeleton_graph nodes k) (system_at family k)) where
  pub link-faces : (k d j : ℕ) → k < length nodes → d < 2 * edge_count (skeleton_graph nodes k) → (node_item nodes k (d / 2)).what ≡ Link j
      → same_face (edge_count (skeleton_graph nodes k)) (dart_after (skeleton_graph nodes k) (system_at family k)) d (twin d) ≡ false
  link-faces k d j l m link =
      numbered-face (edge_count (skeleton_graph nodes k)) (dart_after (skeleton_graph nodes k) (system_at family k)) (edge_count g * length nodes) (united (edge_count g) (stepped nodes family))
      (λ x. (part_of (edge_count g) x == k) && ltb (local_of (edge_count g) x) (2 * edge_count (skeleton_graph nodes k))) (coded (edge_count g) k) (local_of (edge_count g)) (skeleton-inside g nodes b family systems k l) d (twin d) m (twin-below (edge_count (skeleton_graph nodes k)) d m)
      ∙ ap (same_face (edge_count g * length nodes) (united (edge_count g) (stepped nodes family)) (coded (edge_count g) k d)) (coded-twin (edge_count g) k d)
      ∙ two-faces (edge_count g * length nodes) (united (edge_count g) (stepped nodes family)) (united (edge_count g) (stepped_back nodes family)) (whole-map g nodes b family systems)
      (whole-plane g nodes b family systems (λ k l. plane-map (skeleton_graph nodes k) (system_at family k) (skeleton-graph g nodes b k l) (systems.systems k l) (plane k l)))
      (coded (edge_count g) k d) (coded-below (edge_count g) (length nodes) k d l (dart-fits g nodes b family systems k d l item))
      (link-company g nodes b family systems k l d j item link) (link-no_bridge g nodes b family systems k l d j item link)
    where
      item : d / 2 < length (node_at nodes k).items
      item = dart-item g nodes b k l d m
