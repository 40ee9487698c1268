-- No face of a block is longer than the heaviest face of its skeletons.
use Rattle.std.proofs.Common.{◌≡◌, ◌≢◌, ℕ, ◌+◌, ◌*◌, ◌/◌, ◌%◌, ◌<◌, ◌≤◌, Bool, true, false, ◌&&◌, cond, List, [], ◌∷◌, length, inl, inr, sym, ap, ◌∙◌, subst, arith, All}
use Rattle.std.proofs.lemmas.Bool.{and_parts, false_from_ne_true, true≢false}
use Rattle.std.proofs.lemmas.List.Elements.{All-head, All-tail}
use Rattle.multigraph.specs.Graph.{Multigraph, edge_count}
use Rattle.rotations.specs.Rotation.{IsRotationSystem}
use Rattle.dart_maps.specs.Map as maps
use Rattle.dart_maps.specs.Map.{twin}
use Rattle.dart_maps.proofs.Darts.{twin-edge, twin-cases}
use Rattle.faces.specs.Euler.{IsPlane}
use Rattle.faces.specs.Maps.{dart_after}
use Rattle.faces.proofs.MapSteps.{map-permutes}
use Rattle.faces.proofs.MapCounts.{plane-map}
use Rattle.pair_split.specs.Tutte.{Node, node_at, node_item}
use Rattle.skeletons.specs.Items.{IsBlockTree}
use Rattle.skeletons.specs.Families.{skeleton_graph, system_at, AreSkeletonSystems, FollowsFamily}
use Rattle.skeleton_runs.proofs.SkeletonGraph.{skeleton-graph}
use Rattle.skeleton_planes.proofs.LinkLists.{all_glued, is_used, AreLinksOf, IsLinkOf}
use Rattle.skeleton_planes.proofs.Numbering.{coded, part_of, local_of, united}
use Rattle.skeleton_planes.proofs.RunTests.{is_dart}
use Rattle.skeleton_planes.proofs.Coded.{coded-local, coded-twin, part-below, part-twin}
use Rattle.skeleton_planes.proofs.SkeletonDarts.{item-dart}
use Rattle.skeleton_planes.proofs.Whole.{stepped, stepped_back, place_in, ends_in, begins_in, whole-map, whole-plane, whole-part, whole-places, whole-follows}
use Rattle.skeleton_planes.proofs.TreeLinks.{AreOfLink}
use Rattle.skeleton_planes.proofs.Followed.{IsCarried, carried, is_real, edge_of, real-edge}
use Rattle.skeleton_faces.specs.Faces.{face_length, skeleton_weight, EdgesWeighOne, LinksAreHeavy}
use Rattle.skeleton_faces.specs.Laws.{FacesAreNoLonger}
use Rattle.skeleton_faces.proofs.FaceSums.{face_sum}
use Rattle.skeleton_faces.proofs.Falling.{IsLight, AreLight, sums-fall}
use Rattle.skeleton_faces.proofs.TwoFaces.{two-faces}
use Rattle.skeleton_faces.proofs.BlockFaces.{IsInside, renumbered-inside, face-at_most}
use Rattle.skeleton_faces.proofs.InSkeletons.{dart_weight, skeleton-sum, weight-coded, weight-twin}

-- a block with its tree, a plane family, a rotation system that follows it, and weights
module _ (g : Multigraph) (nodes : List Node) (b : IsBlockTree g nodes) (family : List (List (List ℕ))) (systems : AreSkeletonSystems nodes family) (r : List (List ℕ)) (system : IsRotationSystem g r) (follows : FollowsFamily nodes family r)
    (plane : (k : ℕ) → k < length nodes → IsPlane (skeleton_graph nodes k) (system_at family k)) (weight : ℕ → ℕ → ℕ) (ones : EdgesWeighOne nodes weight) where
  -- how many edges all skeletons have room for
  abbrev size : ℕ
  size = edge_count g * length nodes

  -- their map
  abbrev whole : ℕ → ℕ
  whole = united (edge_count g) (stepped nodes family)

  -- it is plane
  pub whole-flat : maps.IsPlane (edge_count g * length nodes) (united (edge_count g) (stepped nodes family))
  whole-flat = whole-plane g nodes b family systems (λ k l. plane-map (skeleton_graph nodes k) (system_at family k) (skeleton-graph g nodes b k l) (systems.systems k l) (plane k l))

  -- the glued map, and the block's in it
  abbrev pub c : IsCarried g nodes b family systems r system
  c = carried g nodes b family systems r system follows

  -- the block's map in it
  pub block-inside : IsInside (edge_count g) (dart_after g r) (edge_count g * length nodes) (all_glued c.links.links (united (edge_count g) (stepped nodes family))) c.live c.into c.back
  block-inside = renumbered-inside (edge_count g) (dart_after g r) size (all_glued c.links.links whole) c.live c.into c.back c.renumbering (map-permutes g r b.graph system).forth

  -- a live dart is of an edge, and weighs one
  pub live-one : (x : ℕ) → c.live x ≡ true → dart_weight (edge_count g) nodes weight x ≡ 1
  live-one x h = let p = and_parts (is_dart nodes (part_of (edge_count g) x) (local_of (edge_count g) x)) (is_real (node_item nodes (part_of (edge_count g) x) (local_of (edge_count g) x / 2)).what) (sym (c.live_is x) ∙ h) in
      ap (λ (t : Bool). cond t (weight (part_of (edge_count g) x) (local_of (edge_count g) x / 2)) 0) p.0
      ∙ ones (part_of (edge_count g) x) (local_of (edge_count g) x / 2) (edge_of (node_item nodes (part_of (edge_count g) x) (local_of (edge_count g) x / 2)).what) (real-edge (node_item nodes (part_of (edge_count g) x) (local_of (edge_count g) x / 2)).what p.1)

  -- a dart of the block is in the map
  pub into-in : (y : ℕ) → y < 2 * edge_count g → c.into y < 2 * (edge_count g * length nodes)
  into-in = c.renumbering.darts

  -- its node is one
  pub into-node : (y : ℕ) → y < 2 * edge_count g → part_of (edge_count g) (c.into y) < length nodes
  into-node y l = part-below (edge_count g) (length nodes) (c.into y) (into-in y l)

  -- it is not used
  pub into-unused : (y : ℕ) → y < 2 * edge_count g → is_used c.links.links (c.into y) ≡ false
  into-unused y l = false_from_ne_true (is_used c.links.links (c.into y)) (λ t.
      let w = c.links.only (part_of (edge_count g) (c.into y)) (local_of (edge_count g) (c.into y)) (into-node y l) (c.item_in y l) (ap (is_used c.links.links) (coded-local (edge_count g) (c.into y)) ∙ t) in
      true≢false (ap is_real (sym (c.stands y l) ∙ w.1)))

  -- where links are heavy
  module _ (heavy : LinksAreHeavy nodes family weight) where
    -- a link's sums in the map of all skeletons
    light : (d e : ℕ) → AreOfLink g nodes (d, e) → IsLinkOf (edge_count g * length nodes) (united (edge_count g) (stepped nodes family)) (place_in g nodes) (ends_in g nodes r) (begins_in g nodes r) d e
        → IsLight (edge_count g * length nodes) (united (edge_count g) (stepped nodes family)) (dart_weight (edge_count g) nodes weight) d e
    light d e (k, j, i, h, q, p, lk, lj, mi, mh, to, from) link = record {
      two = (
        two-faces size whole (united (edge_count g) (stepped_back nodes family)) (whole-map g nodes b family systems) whole-flat d (link.darts.0) (link.company.0) (link.no_bridges.0),
        two-faces size whole (united (edge_count g) (stepped_back nodes family)) (whole-map g nodes b family systems) whole-flat e (link.darts.1) (link.other_company.0) (link.no_bridges.1),
      );
      first = subst (λ n. face_sum size whole weights n ≤ weights d + weights e) (sym q) (there (2 * i) (2 * h) (half i) (half h) (even i ∙ sym (even h)));
      first_twin = subst (λ n. face_sum size whole weights n ≤ weights d + weights e) (sym (ap twin q ∙ sym (coded-twin (edge_count g) k (2 * i)))) (there (twin (2 * i)) (twin (2 * h)) (twin-edge (2 * i) ∙ half i) (twin-edge (2 * h) ∙ half h) (odd i ∙ sym (odd h)));
      second = subst (λ n. face_sum size whole weights n ≤ weights d + weights e) (sym p) (here (2 * h) (2 * i) (half h) (half i) (even h ∙ sym (even i)));
      second_twin = subst (λ n. face_sum size whole weights n ≤ weights d + weights e) (sym (ap twin p ∙ sym (coded-twin (edge_count g) j (2 * h)))) (here (twin (2 * h)) (twin (2 * i)) (twin-edge (2 * h) ∙ half h) (twin-edge (2 * i) ∙ half i) (odd h ∙ sym (odd i)));
    }
      where
        weights : ℕ → ℕ
        weights = dart_weight (edge_count g) nodes weight

        half : (n : ℕ) → (2 * n) / 2 ≡ n
        half n = omega arith

        at_d : weights d ≡ weight k i
        at_d = ap weights q ∙ weight-coded g nodes b family systems k lk weight (2 * i) (subst (λ n. n < length (node_at nodes k).items) (sym (half i)) mi) ∙ ap (weight k) (half i)

        at_e : weights e ≡ weight j h
        at_e = ap weights p ∙ weight-coded g nodes b family systems j lj weight (2 * h) (subst (λ n. n < length (node_at nodes j).items) (sym (half h)) mh) ∙ ap (weight j) (half h)

        dart_k : (z : ℕ) → z / 2 ≡ i → z < 2 * edge_count (skeleton_graph nodes k)
        dart_k z o = item-dart g nodes b k lk z (subst (λ n. n < length (node_at nodes k).items) (sym o) mi)

        dart_j : (z : ℕ) → z / 2 ≡ h → z < 2 * edge_count (skeleton_graph nodes j)
        dart_j z o = item-dart g nodes b j lj z (subst (λ n. n < length (node_at nodes j).items) (sym o) mh)

        even : (n : ℕ) → (2 * n) % 2 ≡ 0
        even n = omega arith

        odd : (n : ℕ) → twin (2 * n) % 2 ≡ 1
        odd n = elim (twin-cases (2 * n)) [ inl a ↦ omega (arith, a.0, a.1) | inr a ↦ absurd (omega (arith, a.0, even n)) ]

        there : (z y : ℕ) → z / 2 ≡ i → y / 2 ≡ h → z % 2 ≡ y % 2 → face_sum (edge_count g * length nodes) (united (edge_count g) (stepped nodes family)) (dart_weight (edge_count g) nodes weight) (coded (edge_count g) k z) ≤ weights d + weights e
        there z y o u v = let a = heavy k z j y (record { first = (lk, dart_k z o); second = (lj, dart_j y u); to = ap (λ n. (node_item nodes k n).what) o ∙ to; from = ap (λ n. (node_item nodes j n).what) u ∙ from; end = v }) in
            omega (arith, a, skeleton-sum g nodes b family systems k lk weight z (dart_k z o), at_d, at_e, ap (weight k) o, ap (weight j) u)

        here : (z y : ℕ) → z / 2 ≡ h → y / 2 ≡ i → z % 2 ≡ y % 2 → face_sum (edge_count g * length nodes) (united (edge_count g) (stepped nodes family)) (dart_weight (edge_count g) nodes weight) (coded (edge_count g) j z) ≤ weights d + weights e
        here z y o u v = let a = heavy j z k y (record { first = (lj, dart_j z o); second = (lk, dart_k y u); to = ap (λ n. (node_item nodes j n).what) o ∙ from; from = ap (λ n. (node_item nodes k n).what) u ∙ to; end = v }) in
            omega (arith, a, skeleton-sum g nodes b family systems j lj weight z (dart_j z o), at_d, at_e, ap (weight j) o, ap (weight k) u)

    -- and so for all links
    pub all-light : (links : List (ℕ × ℕ)) → All (AreOfLink g nodes) links → AreLinksOf (edge_count g * length nodes) (united (edge_count g) (stepped nodes family)) (place_in g nodes) (ends_in g nodes r) (begins_in g nodes r) (part_of (edge_count g)) links
        → AreLight (edge_count g * length nodes) (united (edge_count g) (stepped nodes family)) (dart_weight (edge_count g) nodes weight) links
    all-light [] a o = tt
    all-light (link ∷ links) a o = (light link.0 link.1 (All-head (AreOfLink g nodes) link links a) o.0, all-light links (All-tail (AreOfLink g nodes) link links a) o.4)

    -- a face of the block is no longer than the weight of the face of the skeleton from which it comes
    pub no-longer_than : (y : ℕ) → y < 2 * edge_count g → face_length g r y ≤ skeleton_weight nodes family weight (part_of (edge_count g) (c.into y)) (local_of (edge_count g) (c.into y))
    no-longer_than y l = omega (arith, few, fall, same)
      where
        weights : ℕ → ℕ
        weights = dart_weight (edge_count g) nodes weight

        k : ℕ
        k = part_of (edge_count g) (c.into y)

        z : ℕ
        z = local_of (edge_count g) (c.into y)

        few : face_length g r y ≤ face_sum (edge_count g * length nodes) (all_glued c.links.links (united (edge_count g) (stepped nodes family))) weights (c.into y)
        few = face-at_most (edge_count g) (dart_after g r) size (all_glued c.links.links whole) c.live c.into c.back block-inside weights (λ x i h. live-one x h) y l

        fall : face_sum (edge_count g * length nodes) (all_glued c.links.links (united (edge_count g) (stepped nodes family))) weights (c.into y) ≤ face_sum (edge_count g * length nodes) (united (edge_count g) (stepped nodes family)) weights (c.into y)
        fall = sums-fall size whole (united (edge_count g) (stepped_back nodes family)) (whole-map g nodes b family systems) (place_in g nodes) (whole-places g nodes b family systems) (ends_in g nodes r) (begins_in g nodes r) (part_of (edge_count g))
            (whole-part g nodes b family systems) (λ x i. part-twin (edge_count g) x) (whole-follows g nodes b family systems r system follows) weights (weight-twin (edge_count g) nodes weight) c.links.links c.links.are
            (all-light c.links.links c.links.pairs c.links.are) (c.into y) (into-in y l) (into-unused y l)

        same : skeleton_weight nodes family weight k z ≡ face_sum (edge_count g * length nodes) (united (edge_count g) (stepped nodes family)) weights (c.into y)
        same = skeleton-sum g nodes b family systems k (into-node y l) weight z (item-dart g nodes b k (into-node y l) z (c.item_in y l))
            ∙ ap (face_sum (edge_count g * length nodes) (united (edge_count g) (stepped nodes family)) weights) (coded-local (edge_count g) (c.into y))

-- the law
pub faces-no_longer : FacesAreNoLonger
faces-no_longer g nodes family r weight most b systems system follows plane ones heavy none d l =
    let c = carried g nodes b family systems r system follows in
    let node : part_of (edge_count g) (c.into d) < length nodes = into-node g nodes b family systems r system follows plane weight ones d l in
    let a = no-longer_than g nodes b family systems r system follows plane weight ones heavy d l in
    let m = none (part_of (edge_count g) (c.into d)) (local_of (edge_count g) (c.into d)) (node, item-dart g nodes b (part_of (edge_count g) (c.into d)) node (local_of (edge_count g) (c.into d)) (c.item_in d l)) in
    omega (arith, a, m)
