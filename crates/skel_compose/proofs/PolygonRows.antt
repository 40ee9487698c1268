-- The list of a polygon, from the sums over the items at its vertices.
use Rattle.std.proofs.Common.{◌≡◌, ℕ, ◌-◌, ◌<◌, ◌≤◌, ◌==◌, List, length, slice_index_or, refl, sym, ap, ◌∙◌, subst, arith, eq-eqb}
use Rattle.std.proofs.lemmas.Bool.{or_left, or_right}
use Rattle.permutations.specs.Cyclic.{successor}
use Rattle.permutations.specs.Members.{place_of}
use Rattle.multigraph.specs.Graph.{Multigraph, ends_of}
use Rattle.rotations.specs.Rotation.{order_at, IsRotationSystem}
use Rattle.pair_split.specs.Tutte.{Node, node_at, node_item}
use Rattle.pair_split.specs.declared.components.Item.{Item}
use Rattle.pair_split.specs.declared.components.Kind.TheVariants.{S}
use Rattle.skeletons.specs.Items.{nth_item, IsBlockTree}
use Rattle.skeletons.specs.Families.{skeleton_graph}
use Rattle.skeletons.specs.Moves.{IsNodeOfKind}
use Rattle.skeleton_runs.proofs.SkeletonGraph.{graph-ends}
use Rattle.skeleton_planes.proofs.PolygonSkeleton.{rising_system, rising-system}
use Rattle.skel_compose.specs.Followers.{IsItemEnd}
use Rattle.skel_compose.specs.EndSums.{AreEndSums}
use Rattle.skel_compose.proofs.EndSums.{sum-in, sum-is, other-is}

module _ (g : Multigraph) (nodes : List Node) (b : IsBlockTree g nodes) (k : ℕ) (is : IsNodeOfKind nodes k S) (sums : List ℕ) (a : AreEndSums nodes k (length (node_at nodes k).items) sums) (i : ℕ) (items : List Item) (e : items ≡ (node_at nodes k).items) (l : i < length items) where
  abbrev graph : Multigraph
  graph = skeleton_graph nodes k

  few : i < length (node_at nodes k).items
  few = subst (λ (z : List Item). i < length z) e l

  first-end : IsItemEnd nodes k i (nth_item items i).a
  first-end = subst (λ (z : List Item). IsItemEnd nodes k i (nth_item z i).a) (sym e) (record { is_node = is.0; is_item = few; end = or_left ((node_item nodes k i).a == (node_item nodes k i).a) ((node_item nodes k i).b == (node_item nodes k i).a) (eq-eqb (node_item nodes k i).a (node_item nodes k i).a refl) })

  second-end : IsItemEnd nodes k i (nth_item items i).b
  second-end = subst (λ (z : List Item). IsItemEnd nodes k i (nth_item z i).b) (sym e) (record { is_node = is.0; is_item = few; end = or_right ((node_item nodes k i).a == (node_item nodes k i).b) ((node_item nodes k i).b == (node_item nodes k i).b) (eq-eqb (node_item nodes k i).b (node_item nodes k i).b refl) })

  -- the sums at both ends are read, and are large enough
  pub first-in : (nth_item items i).a < length sums
  first-in = sum-in g nodes b k is (rising_system graph) (rising-system graph) i (nth_item items i).a first-end sums a

  pub second-in : (nth_item items i).b < length sums
  second-in = sum-in g nodes b k is (rising_system graph) (rising-system graph) i (nth_item items i).b second-end sums a

  pub first-enough : i ≤ slice_index_or sums (nth_item items i).a 0
  first-enough = omega (arith, sum-is g nodes b k is (rising_system graph) (rising-system graph) i (nth_item items i).a first-end sums a)

  pub second-enough : i ≤ slice_index_or sums (nth_item items i).b 0
  second-enough = omega (arith, sum-is g nodes b k is (rising_system graph) (rising-system graph) i (nth_item items i).b second-end sums a)

  -- the other item at each end follows
  module _ (s : List (List ℕ)) (system : IsRotationSystem (skeleton_graph nodes k) s) where
    pub first-other : slice_index_or sums (nth_item items i).a 0 - i ≡ successor (order_at s (ends_of (skeleton_graph nodes k) i).0) i
    first-other = other-is g nodes b k is s system i (nth_item items i).a first-end sums a ∙ ap (λ (z : List Item). successor (order_at s (place_of (node_at nodes k).vertices (nth_item z i).a)) i) e ∙ sym (ap (λ (z : ℕ × ℕ). successor (order_at s z.0) i) (graph-ends g nodes b k is.0 i few))

    pub second-other : slice_index_or sums (nth_item items i).b 0 - i ≡ successor (order_at s (ends_of (skeleton_graph nodes k) i).1) i
    second-other = other-is g nodes b k is s system i (nth_item items i).b second-end sums a ∙ ap (λ (z : List Item). successor (order_at s (place_of (node_at nodes k).vertices (nth_item z i).b)) i) e ∙ sym (ap (λ (z : ℕ × ℕ). successor (order_at s z.1) i) (graph-ends g nodes b k is.0 i few))
