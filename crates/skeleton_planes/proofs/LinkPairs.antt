-- The two items of a link, as a pair of edges that can be glued.
use Rattle.std.proofs.Common.{◌≡◌, ◌≢◌, ℕ, ◌*◌, ◌/◌, ◌<◌, true, not, List, length, sym, ap, ap₂, ◌∙◌, subst, arith, lt-ltb}
use Rattle.std.proofs.lemmas.Bool.{and_from, and_parts}
use Rattle.multigraph.specs.Graph.{Multigraph, edge_count}
use Rattle.rotations.specs.Rotation.{order_at, IsRotationSystem}
use Rattle.rotations.proofs.Membership.{member-edge}
use Rattle.dart_maps.specs.Map.{twin}
use Rattle.dart_maps.proofs.Darts.{twin-edge}
use Rattle.faces.proofs.DartLemmas.{order-member, order-distinct, member-incident}
use Rattle.pair_split.specs.Tutte.{Node, components, node_at, node_item}
use Rattle.pair_split.specs.declared.components.What.TheVariants.{Link}
use Rattle.pair_split.proofs.Groups.{side-other, in_group-link}
use Rattle.skeletons.specs.Items.{IsBlockTree}
use Rattle.skeletons.specs.Families.{AreSkeletonSystems}
use Rattle.skeletons.proofs.NodeItems.{stands-of, item-edge}
use Rattle.skeleton_runs.proofs.NodeFits.{vertex-fits}
use Rattle.skeleton_planes.proofs.LinkLists.{IsLinkOf}
use Rattle.skeleton_planes.proofs.Numbering.{coded, united}
use Rattle.skeleton_planes.proofs.RunTests.{ends_run, begins_run, end_of, holds, is_dart, ends_with, begins_behind}
use Rattle.skeleton_planes.proofs.Coded.{part-coded, local-coded, coded-below, coded-twin}
use Rattle.skeleton_planes.proofs.Complements.{begins-ends}
use Rattle.skeleton_planes.proofs.SkeletonDarts.{end-vertex}
use Rattle.skeleton_planes.proofs.Whole.{stepped, dart-fits, place_in, ends_in, begins_in}
use Rattle.skeleton_planes.proofs.Linked.{end-of_item, twin-end, link-company, link-no_bridge}

-- the darts of the two items of a link at one vertex: where the edges of the one begin, those of the other end
pub pair-meets : (g : Multigraph) (nodes : List Node) (b : IsBlockTree g nodes) (r : List (List ℕ)) → IsRotationSystem g r → (k j y z : ℕ) → k < length nodes → j < length nodes
    → z / 2 < length (node_at nodes k).items → y / 2 < length (node_at nodes j).items → (node_item nodes k (z / 2)).what ≡ Link j → (node_item nodes j (y / 2)).what ≡ Link k
    → end_of nodes k z ≡ end_of nodes j y → (c : ℕ) → begins_behind nodes r k z c ≡ true → ends_with nodes r j y c ≡ true
pair-meets g nodes b r system k j y z lk lj mz my wz wy e c h =
    let f = item-edge g nodes b.tree j (end_of nodes j y) (y / 2) my (end-of_item nodes j y) in
    let fits : end_of nodes j y < g.vertex_count = vertex-fits g nodes b.tree b.graph j (end_of nodes j y) (end-vertex g nodes b j lj y my) in
    and_from (is_dart nodes j y) (ends_run (order_at r (end_of nodes j y)) (holds nodes j y) c) (lt-ltb (y / 2) (length (node_at nodes j).items) my)
    (begins-ends (order_at r (end_of nodes j y)) (holds nodes k z) (holds nodes j y) (order-distinct g r (end_of nodes j y) system fits)
    (λ x n. in_group-link g (components nodes) b.tree.split k j x (node_item nodes k (z / 2)).what wz
    ∙ side-other g (components nodes) b.tree.split k j x (z / 2, stands-of g nodes b.tree k (z / 2) (Link j) mz wz) (member-edge g (end_of nodes j y) x (member-incident g r (end_of nodes j y) x system fits n))
    ∙ ap not (sym (in_group-link g (components nodes) b.tree.split j k x (node_item nodes j (y / 2)).what wy)))
    f.0 (order-member g r (end_of nodes j y) f.0 system fits f.1 f.2) f.3 c
    (subst (λ v. begins_run (order_at r v) (holds nodes k z) c ≡ true) e (and_parts (is_dart nodes k z) (begins_run (order_at r (end_of nodes k z)) (holds nodes k z) c) h).1))

-- darts of the whole, by their skeletons
module _ (g : Multigraph) (nodes : List Node) (b : IsBlockTree g nodes) (family : List (List (List ℕ))) (systems : AreSkeletonSystems nodes family) (r : List (List ℕ)) where
  -- a dart of an item of a node: what the whole says of it is what the skeleton says
  module _ (k i z : ℕ) (l : k < length nodes) (m : i < length (node_at nodes k).items) (o : z / 2 ≡ i) where
    -- it has room
    fits : z < 2 * edge_count g
    fits = dart-fits g nodes b family systems k z l (subst (λ n. n < length (node_at nodes k).items) (sym o) m)

    -- it is a dart of the whole
    code-in : coded (edge_count g) k z < 2 * (edge_count g * length nodes)
    code-in = coded-below (edge_count g) (length nodes) k z l fits

    -- the vertex that it leaves
    place-coded : place_in g nodes (coded (edge_count g) k z) ≡ end_of nodes k z
    place-coded = ap₂ (end_of nodes) (part-coded (edge_count g) k z fits) (local-coded (edge_count g) k z fits)

    -- where its edges end
    ends-coded : (c : ℕ) → ends_in g nodes r (coded (edge_count g) k z) c ≡ ends_with nodes r k z c
    ends-coded c = ap₂ (λ a x. ends_with nodes r a x c) (part-coded (edge_count g) k z fits) (local-coded (edge_count g) k z fits)

    -- and where they begin
    begins-coded : (c : ℕ) → begins_in g nodes r (coded (edge_count g) k z) c ≡ begins_behind nodes r k z c
    begins-coded c = ap₂ (λ a x. begins_behind nodes r a x c) (part-coded (edge_count g) k z fits) (local-coded (edge_count g) k z fits)

    -- a link has company there
    company-coded : (j : ℕ) → (node_item nodes k i).what ≡ Link j → united (edge_count g) (stepped nodes family) (coded (edge_count g) k z) ≢ coded (edge_count g) k z
    company-coded j w = link-company g nodes b family systems k l z j (subst (λ n. n < length (node_at nodes k).items) (sym o) m) (ap (λ n. (node_item nodes k n).what) o ∙ w)

  -- where the edges of a dart of the one item begin those of a dart of the other at the same vertex end
  meets : IsRotationSystem g r → (k j i h y z : ℕ) → (lk : k < length nodes) → (lj : j < length nodes) → (mi : i < length (node_at nodes k).items) → (mh : h < length (node_at nodes j).items) → (node_item nodes k i).what ≡ Link j → (node_item nodes j h).what ≡ Link k
      → (z / 2 ≡ i) → (y / 2 ≡ h) → end_of nodes k z ≡ end_of nodes j y → (c : ℕ) → begins_in g nodes r (coded (edge_count g) k z) c ≡ true → ends_in g nodes r (coded (edge_count g) j y) c ≡ true
  meets system k j i h y z lk lj mi mh wi wh oz oy p c t = ends-coded j h y lj mh oy c
      ∙ pair-meets g nodes b r system k j y z lk lj (subst (λ n. n < length (node_at nodes k).items) (sym oz) mi) (subst (λ n. n < length (node_at nodes j).items) (sym oy) mh) (ap (λ n. (node_item nodes k n).what) oz ∙ wi) (ap (λ n. (node_item nodes j n).what) oy ∙ wh) p c
      (sym (begins-coded k i z lk mi oz c) ∙ t)

-- two items that are a link and the link back, with the same ends
module _ (g : Multigraph) (nodes : List Node) (b : IsBlockTree g nodes) (family : List (List (List ℕ))) (systems : AreSkeletonSystems nodes family) (r : List (List ℕ)) (system : IsRotationSystem g r) (k j i h : ℕ) (lk : k < length nodes) (lj : j < length nodes)
    (mi : i < length (node_at nodes k).items) (mh : h < length (node_at nodes j).items) (wi : (node_item nodes k i).what ≡ Link j) (wh : (node_item nodes j h).what ≡ Link k) (sa : (node_item nodes k i).a ≡ (node_item nodes j h).a) (sb : (node_item nodes k i).b ≡ (node_item nodes j h).b) where
  -- a number doubled and halved
  half : (n : ℕ) → (2 * n) / 2 ≡ n
  half n = omega arith

  -- also at the twin
  half-twin : (n : ℕ) → twin (2 * n) / 2 ≡ n
  half-twin n = twin-edge (2 * n) ∙ half n

  -- the ends
  first-end : end_of nodes k (2 * i) ≡ end_of nodes j (2 * h)
  first-end = (twin-end nodes k i).0 ∙ sa ∙ sym (twin-end nodes j h).0

  -- the others
  second-end : end_of nodes k (twin (2 * i)) ≡ end_of nodes j (twin (2 * h))
  second-end = (twin-end nodes k i).1 ∙ sb ∙ sym (twin-end nodes j h).1

  -- the twins are codes
  twin-d : twin (coded (edge_count g) k (2 * i)) ≡ coded (edge_count g) k (twin (2 * i))
  twin-d = sym (coded-twin (edge_count g) k (2 * i))

  -- the second
  twin-e : twin (coded (edge_count g) j (2 * h)) ≡ coded (edge_count g) j (twin (2 * h))
  twin-e = sym (coded-twin (edge_count g) j (2 * h))

  -- the pair can be glued
  pub link-pair : IsLinkOf (edge_count g * length nodes) (united (edge_count g) (stepped nodes family)) (place_in g nodes) (ends_in g nodes r) (begins_in g nodes r) (coded (edge_count g) k (2 * i)) (coded (edge_count g) j (2 * h))
  link-pair = record {
    darts = (code-in g nodes b family systems r k i (2 * i) lk mi (half i), code-in g nodes b family systems r j h (2 * h) lj mh (half h));
    places = place-coded g nodes b family systems r k i (2 * i) lk mi (half i) ∙ first-end ∙ sym (place-coded g nodes b family systems r j h (2 * h) lj mh (half h));
    twin_places = ap (place_in g nodes) twin-d ∙ place-coded g nodes b family systems r k i (twin (2 * i)) lk mi (half-twin i) ∙ second-end ∙ sym (ap (place_in g nodes) twin-e ∙ place-coded g nodes b family systems r j h (twin (2 * h)) lj mh (half-twin h));
    two_places = λ q. less (node_item nodes k i).a (node_item nodes k i).b (b.tree.in_order.ends_rise k i mi)
        (sym (twin-end nodes k i).0 ∙ sym (place-coded g nodes b family systems r k i (2 * i) lk mi (half i)) ∙ q ∙ ap (place_in g nodes) twin-d ∙ place-coded g nodes b family systems r k i (twin (2 * i)) lk mi (half-twin i) ∙ (twin-end nodes k i).1);
    company = (company-coded g nodes b family systems r k i (2 * i) lk mi (half i) j wi, subst (λ x. united (edge_count g) (stepped nodes family) x ≢ x) (sym twin-d) (company-coded g nodes b family systems r k i (twin (2 * i)) lk mi (half-twin i) j wi));
    other_company = (company-coded g nodes b family systems r j h (2 * h) lj mh (half h) k wh, subst (λ x. united (edge_count g) (stepped nodes family) x ≢ x) (sym twin-e) (company-coded g nodes b family systems r j h (twin (2 * h)) lj mh (half-twin h) k wh));
    no_bridges = (
      link-no_bridge g nodes b family systems k lk (2 * i) j (subst (λ n. n < length (node_at nodes k).items) (sym (half i)) mi) (ap (λ n. (node_item nodes k n).what) (half i) ∙ wi),
      link-no_bridge g nodes b family systems j lj (2 * h) k (subst (λ n. n < length (node_at nodes j).items) (sym (half h)) mh) (ap (λ n. (node_item nodes j n).what) (half h) ∙ wh),
    );
    first_meets = meets g nodes b family systems r system k j i h (2 * h) (2 * i) lk lj mi mh wi wh (half i) (half h) first-end;
    second_meets = meets g nodes b family systems r system j k h i (2 * i) (2 * h) lj lk mh mi wh wi (half h) (half i) (sym first-end);
    first_twin_meets = λ c t. subst (λ x. ends_in g nodes r x c ≡ true) (sym twin-e) (meets g nodes b family systems r system k j i h (twin (2 * h)) (twin (2 * i)) lk lj mi mh wi wh (half-twin i) (half-twin h) second-end c (subst (λ x. begins_in g nodes r x c ≡ true) twin-d t));
    second_twin_meets = λ c t. subst (λ x. ends_in g nodes r x c ≡ true) (sym twin-d) (meets g nodes b family systems r system j k h i (twin (2 * i)) (twin (2 * h)) lj lk mh mi wh wi (half-twin h) (half-twin i) (sym second-end) c (subst (λ x. begins_in g nodes r x c ≡ true) twin-e t));
  }
    where
      less : (x y : ℕ) → x < y → x ≡ y → ⊥
      less x y l q = omega (arith, l, q)
