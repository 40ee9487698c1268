-- The rows of the nodes, and that all is ready for the walk.
use Rattle.std.proofs.Common.{◌≡◌, ℕ, ◌*◌, ◌/◌, ◌<◌, ◌≤◌, cond, List, length, slice_index_or, refl, sym, ap, ◌∙◌, subst}
use Rattle.permutations.specs.Count.{sum_below}
use Rattle.permutations.proofs.Sums.{sum_below-ext}
use Rattle.multigraph.specs.Graph.{Multigraph, IsWithinLimits, edge_count, max_edges}
use Rattle.faces.specs.Euler.{dart_count, IsPlane}
use Rattle.pair_split.specs.Tutte.{Node, node_at}
use Rattle.skeletons.specs.Items.{IsBlockTree}
use Rattle.skeletons.specs.Families.{skeleton_graph, system_at, AreSkeletonSystems}
use Rattle.skeleton_runs.proofs.SkeletonGraph.{graph-edges}
use Rattle.skeleton_planes.proofs.SkeletonDarts.{dart-item}
use Rattle.skeleton_faces.specs.Faces.{on_one_face}
use Rattle.face_weights.specs.Weights.{Weighing, weight_of}
use Rattle.face_weights.specs.Sums.{weight_in, AreFaceSums}
use Rattle.face_weights.specs.Numbers.{NumberFaces}
use Rattle.face_weights.specs.Reached.{AreWeights}
use Rattle.face_weights.proofs.NodeCode.{weights-few}
use Rattle.long_face.specs.Numbers.{AreFaceNumbers}
use Rattle.long_face.specs.Ready.{AreRowsOf, AreKnown, IsReady}

module _ (g : Multigraph) (nodes : List Node) (b : IsBlockTree g nodes) (limits : IsWithinLimits g) (family : List (List (List ℕ))) (systems : AreSkeletonSystems nodes family) (w : Weighing) (a : AreWeights nodes family w) where
  module _ (k : ℕ) (l : k < length nodes) (weights : List ℕ) (number : length weights ≡ length (node_at nodes k).items) (each : (i : ℕ) → i < length (node_at nodes k).items → weight_in weights i ≡ weight_of nodes w k i) where
    -- as many weights as edges
    pub row-number : length weights ≡ edge_count (skeleton_graph nodes k)
    row-number = number ∙ sym (graph-edges g nodes b k l)

    -- which are small together
    pub row-few : sum_below (edge_count (skeleton_graph nodes k)) (weight_in weights) ≤ 2 * max_edges
    row-few = subst (λ n. sum_below n (weight_in weights) ≤ 2 * max_edges) (sym (graph-edges g nodes b k l)) (weights-few g nodes b k l limits w.parents w.below w.above (slice_index_or w.above k 0) (weight_in weights) refl each a.light)

    pub row-light : sum_below (length weights) (weight_in weights) ≤ 2 * max_edges
    row-light = subst (λ n. sum_below n (weight_in weights) ≤ 2 * max_edges) (sym row-number) row-few

    -- the rows
    pub row-are : (sums : List ℕ) → AreFaceSums (skeleton_graph nodes k) (system_at family k) weights sums → AreRowsOf nodes family (weight_of nodes w) k (record { weights = weights; sums = sums })
    row-are sums s = record {
      items = number;
      weights = each;
      darts = s.number ∙ ap (λ z. 2 * z) (sym row-number);
      sums = λ d m. s.each d m ∙ sum_below-ext (dart_count (skeleton_graph nodes k)) (λ y. cond (on_one_face (skeleton_graph nodes k) (system_at family k) d y) (weight_in weights (y / 2)) 0) (λ y. cond (on_one_face (skeleton_graph nodes k) (system_at family k) d y) (weight_of nodes w k (y / 2)) 0)
          (λ y c. ap (λ z. cond (on_one_face (skeleton_graph nodes k) (system_at family k) d y) z 0) (each (y / 2) (dart-item g nodes b k l y c)));
    }

  -- all is ready
  pub all-ready : ((k : ℕ) → k < length nodes → IsPlane (skeleton_graph nodes k) (system_at family k)) → IsReady g nodes family (weight_of nodes w) w.top w.most
  all-ready plane = record {
    block = b;
    limits = limits;
    systems = systems;
    plane = plane;
    table = a.table;
    links = λ k d j e c n. a.reached.links k d j e c n;
    bond_links = λ k d j e c p. a.reached.bond_links k d j e c p;
    top_in = a.top.node;
    face = a.top.face;
    pair = a.top.pair;
  }

-- numbers that tell the faces are numbers of faces
pub numbers-tell : (g : Multigraph) (r : List (List ℕ)) (numbers : List ℕ) → NumberFaces g r numbers → AreFaceNumbers g r numbers
numbers-tell g r numbers n = record { places = n.darts; same = n.same }

-- what is known is ready for the walk
pub known-ready : (g : Multigraph) (nodes : List Node) (family : List (List (List ℕ))) (faces : List (List ℕ)) (w : Weighing) → AreKnown g nodes family faces w → IsReady g nodes family (weight_of nodes w) w.top w.most
known-ready g nodes family faces w y = all-ready g nodes y.block y.limits family y.numbers.systems w y.weighed y.numbers.plane
