-- A rotation system of a block that follows a family is the map that comes of gluing the skeletons along all links; so it is
-- plane exactly where each member of the family is.
use Rattle.std.proofs.Common.{◌≡◌, ℕ, ◌*◌, ◌/◌, ◌<◌, ◌≤◌, ◌⊎◌, Bool, true, false, ◌&&◌, ◌==◌, cond, ltb, List, length, inl, inr, refl, sym, ap, ap₂, ◌∙◌, subst, arith, eq-eqb, eqb-true, lt-ltb, ltb-true, le_refl}
use Rattle.std.proofs.lemmas.Bool.{cases_Bool, cases_eq, cases_lt, both_ways, ne_eqb, and_from, and_parts, or_cases, false_from_ne_true, true≢false}
use Rattle.permutations.specs.Cyclic.{successor}
use Rattle.permutations.proofs.Permutations.{permutes-one-to-one}
use Rattle.multigraph.specs.Graph.{Multigraph, edge_count, ends_of, is_end}
use Rattle.multigraph.proofs.OtherEnd.{is_end-cases}
use Rattle.rotations.specs.Rotation.{order_at, IsRotationSystem}
use Rattle.dart_maps.specs.Map.{twin}
use Rattle.dart_maps.specs.Renumbering.{IsRenumbering}
use Rattle.dart_maps.proofs.Darts.{twin-edge, twin-below, twin-twin, edge-twin, twin-other}
use Rattle.dart_maps.proofs.Renumber.{renumber-plane, renumber-plane-back}
use Rattle.faces.specs.Euler.{tail, dart_from, IsPlane}
use Rattle.faces.specs.Maps.{dart_after, dart_before}
use Rattle.faces.proofs.DartLemmas.{dart-edge, tail-end, dart_from-edge, dart_from-below, dart_from-tail, dart_from-of_dart}
use Rattle.faces.proofs.MapSteps.{after-tail, after-edge, map-permutes}
use Rattle.faces.proofs.MapVertices.{tail-order}
use Rattle.faces.proofs.MapCounts.{plane-map, map-plane}
use Rattle.pair_split.specs.Split.{piece_ends, item_at, LinksTo, StandsFor}
use Rattle.pair_split.specs.Tutte.{Node, components, node_at, node_item, has_in_group}
use Rattle.pair_split.specs.declared.components.What.{What}
use Rattle.pair_split.specs.declared.components.What.TheVariants.{Real, Link}
use Rattle.pair_split.proofs.Links.{stands-in}
use Rattle.pair_split.proofs.Groups.{what-cases, same-end, same-end_back}
use Rattle.pair_split.proofs.Subtrees.{link-in}
use Rattle.skeletons.specs.Items.{ends_item, IsBlockTree}
use Rattle.skeletons.specs.Families.{skeleton_graph, system_at, AreSkeletonSystems, FollowsFamily}
use Rattle.skeletons.specs.Laws.{PlaneWhereMembersAre}
use Rattle.skeletons.proofs.NodeItems.{node-in, stands-of, item-of, ends-at}
use Rattle.skeleton_runs.proofs.SkeletonGraph.{skeleton-graph}
use Rattle.skeleton_planes.proofs.LinkLists.{all_glued, is_used, IsStage}
use Rattle.skeleton_planes.proofs.Numbering.{coded, part_of, local_of, united}
use Rattle.skeleton_planes.proofs.RunTests.{ends_run, begins_run, end_of, holds, is_dart}
use Rattle.skeleton_planes.proofs.Coded.{part-coded, local-coded, coded-local, coded-below, coded-twin, part-below, part-twin, local-twin}
use Rattle.skeleton_planes.proofs.Complements.{ends-from, begins-parts}
use Rattle.skeleton_planes.proofs.Stages.{all-stages, used-twin}
use Rattle.skeleton_planes.proofs.Whole.{stepped, stepped_back, dart-fits, place_in, ends_in, begins_in, whole-map, whole-plane, whole-plane-back, whole-part, whole-places, whole-follows, stepped-out}
use Rattle.skeleton_planes.proofs.Linked.{end-of_item, twin-end}
use Rattle.skeleton_planes.proofs.TreeLinks.{Built, built}

-- whether what an item stands for is an edge of the block
abbrev pub is_real : What → Bool
is_real (Real e) = true
is_real (Link j) = false

-- the edge, where it is one
abbrev pub edge_of : What → ℕ
edge_of (Real e) = e
edge_of (Link j) = 0

-- it is that edge
pub real-edge : (w : What) → is_real w ≡ true → w ≡ Real (edge_of w)
real-edge (Real e) h = refl
real-edge (Link j) h = absurd (true≢false (sym h))

-- the dart of item i of node k that leaves v
abbrev pub item_dart : List Node → ℕ → ℕ → ℕ → ℕ
item_dart nodes k i v = cond ((node_item nodes k i).a == v) (2 * i) (twin (2 * i))

-- it is of that item
pub item_dart-half : (nodes : List Node) (k i v : ℕ) → item_dart nodes k i v / 2 ≡ i
item_dart-half nodes k i v = elim (cases_Bool ((node_item nodes k i).a == v)) [
  | inl h ↦ ap (λ (t : Bool). cond t (2 * i) (twin (2 * i)) / 2) h ∙ half i
  | inr h ↦ ap (λ (t : Bool). cond t (2 * i) (twin (2 * i)) / 2) h ∙ twin-edge (2 * i) ∙ half i
]
  where
    half : (n : ℕ) → (2 * n) / 2 ≡ n
    half n = omega arith

-- and leaves v, where the item has this end
pub item_dart-end : (nodes : List Node) (k i v : ℕ) → ends_item v (node_item nodes k i) ≡ true → end_of nodes k (item_dart nodes k i v) ≡ v
item_dart-end nodes k i v e = elim (cases_Bool ((node_item nodes k i).a == v)) [
  | inl h ↦ ap (λ (t : Bool). end_of nodes k (cond t (2 * i) (twin (2 * i)))) h ∙ (twin-end nodes k i).0 ∙ eqb-true (node_item nodes k i).a v h
  | inr h ↦ ap (λ (t : Bool). end_of nodes k (cond t (2 * i) (twin (2 * i)))) h ∙ (twin-end nodes k i).1 ∙ eqb-true (node_item nodes k i).b v (elim (or_cases ((node_item nodes k i).a == v) ((node_item nodes k i).b == v) e) [ inl o ↦ absurd (both_ways ((node_item nodes k i).a == v) h o) | inr o ↦ o ])
]

-- a rotation system of a block that follows a family, as what comes of gluing the skeletons' map along all links: the links,
-- what is known of the glued map, which of its darts are live (those of edges of the block), and the dart of the glued map for
-- each dart of the block, and back. Its item stands for the edge of the dart, and it leaves the same vertex; each dart of a link
-- is used
pub record IsCarried (g : Multigraph) (nodes : List Node) (b : IsBlockTree g nodes) (family : List (List (List ℕ))) (systems : AreSkeletonSystems nodes family) (r : List (List ℕ)) (system : IsRotationSystem g r) : Type 0 where
  pub links : Built g nodes b family systems r system (length nodes)
  pub before : ℕ → ℕ
  pub stage : IsStage (edge_count g * length nodes) (united (edge_count g) (stepped nodes family)) (place_in g nodes) (ends_in g nodes r) (begins_in g nodes r) (part_of (edge_count g)) links.links (all_glued links.links (united (edge_count g) (stepped nodes family))) before
  pub live : ℕ → Bool
  pub into : ℕ → ℕ
  pub back : ℕ → ℕ
  pub renumbering : IsRenumbering (edge_count g) (dart_after g r) (edge_count g * length nodes) (all_glued links.links (united (edge_count g) (stepped nodes family))) live into back
  pub live_is : (x : ℕ) → live x ≡ (is_dart nodes (part_of (edge_count g) x) (local_of (edge_count g) x) && is_real (node_item nodes (part_of (edge_count g) x) (local_of (edge_count g) x / 2)).what)
  pub item_in : (y : ℕ) → y < 2 * edge_count g → local_of (edge_count g) (into y) / 2 < length (node_at nodes (part_of (edge_count g) (into y))).items
  pub stands : (y : ℕ) → y < 2 * edge_count g → (node_item nodes (part_of (edge_count g) (into y)) (local_of (edge_count g) (into y) / 2)).what ≡ Real (y / 2)
  pub place : (y : ℕ) → y < 2 * edge_count g → place_in g nodes (into y) ≡ tail g y
  pub link_used : (x : ℕ) → x < 2 * (edge_count g * length nodes) → (j : ℕ) → local_of (edge_count g) x / 2 < length (node_at nodes (part_of (edge_count g) x)).items → (node_item nodes (part_of (edge_count g) x) (local_of (edge_count g) x / 2)).what ≡ Link j → is_used links.links x ≡ true

-- of the two ends of an edge, those that are not a third end are one
other-one : (g : Multigraph) (e u w t : ℕ) → is_end g u e ≡ true → is_end g w e ≡ true → is_end g t e ≡ true → (w ≡ u → ⊥) → (t ≡ u → ⊥) → w ≡ t
other-one g e u w t iu iw it nw nt = pick (is_end-cases g u e iu) (is_end-cases g w e iw) (is_end-cases g t e it)
  where
    pick : ((ends_of g e).0 ≡ u) ⊎ ((ends_of g e).1 ≡ u) → ((ends_of g e).0 ≡ w) ⊎ ((ends_of g e).1 ≡ w) → ((ends_of g e).0 ≡ t) ⊎ ((ends_of g e).1 ≡ t) → w ≡ t
    pick (inl a) (inl c) d = absurd (nw (sym c ∙ a))
    pick (inl a) (inr c) (inl d) = absurd (nt (sym d ∙ a))
    pick (inl a) (inr c) (inr d) = sym c ∙ d
    pick (inr a) (inl c) (inl d) = sym c ∙ d
    pick (inr a) (inl c) (inr d) = absurd (nt (sym d ∙ a))
    pick (inr a) (inr c) d = absurd (nw (sym c ∙ a))

-- a rotation system of a block that follows a family
module _ (g : Multigraph) (nodes : List Node) (b : IsBlockTree g nodes) (family : List (List (List ℕ))) (systems : AreSkeletonSystems nodes family) (r : List (List ℕ)) (system : IsRotationSystem g r) (follows : FollowsFamily nodes family r) where
  -- room
  abbrev width : ℕ
  width = edge_count g

  -- how many edges the whole has
  abbrev size : ℕ
  size = edge_count g * length nodes

  -- all links
  links : Built g nodes b family systems r system (length nodes)
  links = built g nodes b family systems r system (length nodes) (le_refl (length nodes))

  -- the whole glued along them
  abbrev final : ℕ → ℕ
  final = all_glued links.links (united (edge_count g) (stepped nodes family))

  -- what is known of it
  stage : (before : ℕ → ℕ) × IsStage (edge_count g * length nodes) (united (edge_count g) (stepped nodes family)) (place_in g nodes) (ends_in g nodes r) (begins_in g nodes r) (part_of (edge_count g)) links.links (all_glued links.links (united (edge_count g) (stepped nodes family))) before
  stage = all-stages size (united width (stepped nodes family)) (united width (stepped_back nodes family)) (whole-map g nodes b family systems) (place_in g nodes) (whole-places g nodes b family systems) (ends_in g nodes r) (begins_in g nodes r) (part_of width)
      (whole-part g nodes b family systems) (λ x l. part-twin width x) (whole-follows g nodes b family systems r system follows) links.links links.are

  -- what the item of a dart stands for
  abbrev what : ℕ → What
  what x = (node_item nodes (part_of width x) (local_of width x / 2)).what

  -- whether a dart is that of an edge of the block
  abbrev live : ℕ → Bool
  live x = is_dart nodes (part_of width x) (local_of width x) && is_real (what x)

  -- a dart of an edge: its item
  live-item : (x : ℕ) → live x ≡ true → (local_of width x / 2 < length (node_at nodes (part_of width x)).items) × (what x ≡ Real (edge_of (what x)))
  live-item x h = let p = and_parts (is_dart nodes (part_of width x) (local_of width x)) (is_real (what x)) h in
      (ltb-true (local_of width x / 2) (length (node_at nodes (part_of width x)).items) p.0, real-edge (what x) p.1)

  -- which stands for that edge
  live-stands : (x : ℕ) → live x ≡ true → StandsFor (components nodes) (part_of width x) (local_of width x / 2) (Real (edge_of (what x)))
  live-stands x h = let w = live-item x h in stands-of g nodes b.tree (part_of width x) (local_of width x / 2) (Real (edge_of (what x))) w.0 w.1

  -- the edge is one of the block
  live-edge : (x : ℕ) → live x ≡ true → edge_of (what x) < edge_count g
  live-edge x h = (b.tree.split.covers.edges (edge_of (what x)) (part_of width x) (local_of width x / 2) (live-stands x h)).0

  -- an end of its item is an end of the edge
  live-end : (x v : ℕ) → live x ≡ true → ends_item v (node_item nodes (part_of width x) (local_of width x / 2)) ≡ true → is_end g v (edge_of (what x)) ≡ true
  live-end x v h i = same-end_back (piece_ends (item_at (components nodes) (part_of width x) (local_of width x / 2))) (ends_of g (edge_of (what x))) v
      (b.tree.split.covers.edges (edge_of (what x)) (part_of width x) (local_of width x / 2) (live-stands x h)).1
      (ends-at g nodes b.tree (part_of width x) (local_of width x / 2) v (live-item x h).0 ∙ i)

  -- the vertex that a dart leaves is an end of its edge
  live-place : (x : ℕ) → live x ≡ true → is_end g (place_in g nodes x) (edge_of (what x)) ≡ true
  live-place x h = live-end x (place_in g nodes x) h (end-of_item nodes (part_of width x) (local_of width x))

  -- the two darts of an item leave different vertices
  two-ends : (k z : ℕ) → z / 2 < length (node_at nodes k).items → end_of nodes k z ≡ end_of nodes k (twin z) → ⊥
  two-ends k z m e = elim (edge-twin z (2 * (z / 2)) (half z)) [
    | inl i ↦ less (node_item nodes k (z / 2)).a (node_item nodes k (z / 2)).b (b.tree.in_order.ends_rise k (z / 2) m)
        (sym (twin-end nodes k (z / 2)).0 ∙ ap (end_of nodes k) (sym i) ∙ e ∙ ap (λ u. end_of nodes k (twin u)) i ∙ (twin-end nodes k (z / 2)).1)
    | inr i ↦ less (node_item nodes k (z / 2)).a (node_item nodes k (z / 2)).b (b.tree.in_order.ends_rise k (z / 2) m)
        (sym (twin-end nodes k (z / 2)).0 ∙ ap (end_of nodes k) (sym (ap twin i ∙ twin-twin (2 * (z / 2)))) ∙ sym e ∙ ap (end_of nodes k) i ∙ (twin-end nodes k (z / 2)).1)
  ]
    where
      half : (z : ℕ) → z / 2 ≡ (2 * (z / 2)) / 2
      half z = omega arith

      less : (x y : ℕ) → x < y → x ≡ y → ⊥
      less x y l q = omega (arith, l, q)

  -- darts of one edge that leave one vertex are one
  live-one : (x y : ℕ) → live x ≡ true → live y ≡ true → edge_of (what x) ≡ edge_of (what y) → place_in g nodes x ≡ place_in g nodes y → x ≡ y
  live-one x y hx hy e p = sym (coded-local width x) ∙ elim (edge-twin (local_of width x) (local_of width y) same.1) [
    | inl i ↦ ap₂ (coded width) same.0 i
    | inr i ↦ absurd (two-ends (part_of width x) (local_of width x) (live-item x hx).0
        (p ∙ ap₂ (end_of nodes) (sym same.0) (sym (ap twin i ∙ twin-twin (local_of width y)))))
  ] ∙ coded-local width y
    where
      same : (part_of width x ≡ part_of width y) × (local_of width x / 2 ≡ local_of width y / 2)
      same = b.tree.split.covers.once (edge_of (what x)) (part_of width x) (local_of width x / 2) (part_of width y) (local_of width y / 2) (live-stands x hx)
          (subst (λ n. StandsFor (components nodes) (part_of width y) (local_of width y / 2) (Real n)) (sym e) (live-stands y hy))

  -- the item that stands for an edge, and none for other numbers
  home_by : (e : ℕ) → (e < edge_count g) ⊎ (edge_count g ≤ e) → ℕ × ℕ
  home_by e (inl l) = let w = b.tree.split.covers.present e l in (w.0, w.1)
  home_by e (inr n) = (0, 0)

  -- it does
  home_by-stands : (e : ℕ) → e < edge_count g → (c : (e < edge_count g) ⊎ (edge_count g ≤ e)) → StandsFor (components nodes) (home_by e c).0 (home_by e c).1 (Real e)
  unfolding home_by
  home_by-stands e l (inl m) = (b.tree.split.covers.present e m).2
  home_by-stands e l (inr n) = absurd (omega (arith, l, n))

  -- the item that stands for an edge
  home : ℕ → ℕ × ℕ
  home e = home_by e (cases_lt e (edge_count g))

  -- it does
  home-stands : (e : ℕ) → e < edge_count g → StandsFor (components nodes) (home e).0 (home e).1 (Real e)
  unfolding home
  home-stands e l = home_by-stands e l (cases_lt e (edge_count g))

  -- its node
  home-node : (e : ℕ) → e < edge_count g → (home e).0 < length nodes
  home-node e l = node-in g nodes b.tree (home e).0 (stands-in (components nodes) (home e).0 (home e).1 (Real e) (home-stands e l))

  -- its place there
  home-item : (e : ℕ) → e < edge_count g → ((home e).1 < length (node_at nodes (home e).0).items) × ((node_item nodes (home e).0 (home e).1).what ≡ Real e)
  home-item e l = item-of g nodes b.tree (home e).0 (home e).1 (Real e) (home-stands e l)

  -- a dart of the block in the whole
  into : ℕ → ℕ
  into y = coded width (home (y / 2)).0 (item_dart nodes (home (y / 2)).0 (home (y / 2)).1 (tail g y))

  -- a dart of the whole in the block
  back : ℕ → ℕ
  back x = dart_from g (place_in g nodes x) (edge_of (what x))

  -- a dart of the block
  module _ (y : ℕ) (l : y < 2 * edge_count g) where
    -- its edge
    abbrev e : ℕ
    e = y / 2

    -- is one
    le : y / 2 < edge_count g
    le = dart-edge g y l

    -- the node of its item, its item, and its dart there
    abbrev k : ℕ
    k = (home (y / 2)).0

    -- the item
    abbrev i : ℕ
    i = (home (y / 2)).1

    -- the dart
    abbrev z : ℕ
    z = item_dart nodes (home (y / 2)).0 (home (y / 2)).1 (tail g y)

    -- it is of the item
    half : z / 2 ≡ i
    half = item_dart-half nodes k i (tail g y)

    -- which is one of the node
    item-in : z / 2 < length (node_at nodes k).items
    item-in = subst (λ n. n < length (node_at nodes k).items) (sym half) (home-item e le).0

    -- so it has room
    fits : z < 2 * edge_count g
    fits = dart-fits g nodes b family systems k z (home-node e le) item-in

    -- the part and the number of the dart in the whole
    into-part : part_of width (into y) ≡ k
    unfolding into
    into-part = part-coded width k z fits

    -- the number
    into-local : local_of width (into y) ≡ z
    unfolding into
    into-local = local-coded width k z fits

    -- it is a dart
    into-below : into y < 2 * (edge_count g * length nodes)
    unfolding into
    into-below = coded-below width (length nodes) k z (home-node e le) fits

    -- its item stands for the edge
    into-what : what (into y) ≡ Real (y / 2)
    into-what = ap₂ (λ a x. (node_item nodes a (x / 2)).what) into-part into-local ∙ ap (λ n. (node_item nodes k n).what) half ∙ (home-item e le).1

    -- its edge is the dart's
    into-edge : edge_of (what (into y)) ≡ y / 2
    into-edge = ap edge_of into-what

    -- it is live
    into-live : live (into y) ≡ true
    into-live = and_from (is_dart nodes (part_of width (into y)) (local_of width (into y))) (is_real (what (into y)))
        (ap₂ (λ a x. is_dart nodes a x) into-part into-local ∙ lt-ltb (z / 2) (length (node_at nodes k).items) item-in) (ap is_real into-what)

    -- the item has the vertex that the dart leaves as an end
    into-ends : ends_item (tail g y) (node_item nodes k i) ≡ true
    into-ends = sym (ends-at g nodes b.tree k i (tail g y) (home-item e le).0)
        ∙ same-end (piece_ends (item_at (components nodes) k i)) (ends_of g e) (tail g y) (b.tree.split.covers.edges e k i (home-stands e le)).1 (tail-end g y)

    -- it leaves the same vertex
    into-place : place_in g nodes (into y) ≡ tail g y
    into-place = ap₂ (λ a x. end_of nodes a x) into-part into-local ∙ item_dart-end nodes k i (tail g y) into-ends

    -- and is taken back
    into-back : back (into y) ≡ y
    unfolding back
    into-back = ap₂ (dart_from g) into-place into-edge ∙ dart_from-of_dart g y b.graph l

    -- it isn't used
    into-unused : is_used links.links (into y) ≡ false
    unfolding into
    into-unused = false_from_ne_true (is_used links.links (into y)) (λ t. let w = links.only k z (home-node e le) item-in t in
        absurd (true≢false (sym (ap is_real (sym w.1 ∙ ap (λ n. (node_item nodes k n).what) half ∙ (home-item e le).1)))))

  -- the dart of the block for a dart of the whole
  back-edge : (x : ℕ) → live x ≡ true → back x / 2 ≡ edge_of (what x)
  unfolding back
  back-edge x h = dart_from-edge g (place_in g nodes x) (edge_of (what x))

  -- leaves the same vertex
  back-tail : (x : ℕ) → live x ≡ true → tail g (back x) ≡ place_in g nodes x
  unfolding back
  back-tail x h = dart_from-tail g (place_in g nodes x) (edge_of (what x)) (live-place x h)

  -- is a dart
  back-below : (x : ℕ) → live x ≡ true → back x < 2 * edge_count g
  unfolding back
  back-below x h = dart_from-below g (place_in g nodes x) (edge_of (what x)) (live-edge x h)

  -- and is taken back
  back-into : (x : ℕ) → live x ≡ true → into (back x) ≡ x
  back-into x h = live-one (into (back x)) x (into-live (back x) (back-below x h)) h (into-edge (back x) (back-below x h) ∙ back-edge x h) (into-place (back x) (back-below x h) ∙ back-tail x h)

  -- twins are live together
  live-twin : (x : ℕ) → live (twin x) ≡ live x
  live-twin x = ap₂ (λ a n. ltb n (length (node_at nodes a).items) && is_real (node_item nodes a n).what) (part-twin width x) (ap (λ u. u / 2) (local-twin width x) ∙ twin-edge (local_of width x))

  -- and stand for one thing
  what-twin : (x : ℕ) → what (twin x) ≡ what x
  what-twin x = ap₂ (λ a n. (node_item nodes a n).what) (part-twin width x) (ap (λ u. u / 2) (local-twin width x) ∙ twin-edge (local_of width x))

  -- the twin of a dart, in the whole
  into-twin : (y : ℕ) → y < 2 * edge_count g → into (twin y) ≡ twin (into y)
  into-twin y l = live-one (into (twin y)) (twin (into y)) (into-live (twin y) lt) alive (into-edge (twin y) lt ∙ twin-edge y ∙ sym (ap edge_of (what-twin (into y)) ∙ into-edge y l))
      (into-place (twin y) lt ∙ other-one g (y / 2) (tail g y) (tail g (twin y)) (place_in g nodes (twin (into y))) (tail-end g y)
      (subst (λ n. is_end g (tail g (twin y)) n ≡ true) (twin-edge y) (tail-end g (twin y)))
      (subst (λ n. is_end g (place_in g nodes (twin (into y))) n ≡ true) (ap edge_of (what-twin (into y)) ∙ into-edge y l) (live-place (twin (into y)) alive))
      tails places)
    where
      lt : twin y < 2 * edge_count g
      lt = twin-below (edge_count g) y l

      alive : live (twin (into y)) ≡ true
      alive = live-twin (into y) ∙ into-live y l

      tails : tail g (twin y) ≡ tail g y → ⊥
      tails q = twin-other y (sym (dart_from-of_dart g (twin y) b.graph lt) ∙ ap₂ (dart_from g) q (twin-edge y) ∙ dart_from-of_dart g y b.graph l)

      places : place_in g nodes (twin (into y)) ≡ tail g y → ⊥
      places q = two-ends (part_of width (into y)) (local_of width (into y)) (live-item (into y) (into-live y l)).0
          (into-place y l ∙ sym q ∙ ap₂ (end_of nodes) (part-twin width (into y)) (local-twin width (into y)))

  -- an item that is a link is used
  link-used : (x : ℕ) → x < 2 * (edge_count g * length nodes) → (j : ℕ) → local_of width x / 2 < length (node_at nodes (part_of width x)).items → what x ≡ Link j → is_used links.links x ≡ true
  link-used x l j m w = elim (edge-twin (local_of width x) (2 * (local_of width x / 2)) (half (local_of width x))) [
    | inl i ↦ ap (is_used links.links) (sym (coded-local width x) ∙ ap (coded width (part_of width x)) i) ∙ all
    | inr i ↦ ap (is_used links.links) (sym (coded-local width x) ∙ ap (coded width (part_of width x)) i ∙ coded-twin width (part_of width x) (2 * (local_of width x / 2))) ∙ used-twin links.links (coded width (part_of width x) (2 * (local_of width x / 2))) ∙ all
  ]
    where
      half : (z : ℕ) → z / 2 ≡ (2 * (z / 2)) / 2
      half z = omega arith

      link : LinksTo (components nodes) (part_of width x) j
      link = (local_of width x / 2, stands-of g nodes b.tree (part_of width x) (local_of width x / 2) (Link j) m w)

      here : part_of width x < length nodes
      here = part-below width (length nodes) x l

      all : is_used links.links (coded width (part_of width x) (2 * (local_of width x / 2))) ≡ true
      all = links.all (part_of width x) (local_of width x / 2) j here m w (elim (b.tree.split.linked.tree.linked (part_of width x) j link) [
        | inl i ↦ inl (i.0, i.1, here)
        | inr i ↦ inr (i.0, i.1, node-in g nodes b.tree j (link-in (components nodes) b.tree.split.linked (part_of width x) j link))
      ])

  -- darts of no edge of the block are alone in the end
  dead-alone : (x : ℕ) → x < 2 * (edge_count g * length nodes) → live x ≡ false → final x ≡ x
  dead-alone x l h = elim (cases_lt (local_of width x / 2) (length (node_at nodes (part_of width x)).items)) [
    | inr m ↦ stage.1.still x l (ap (coded width (part_of width x)) (stepped-out g nodes b family systems (part_of width x) (local_of width x) (part-below width (length nodes) x l) m) ∙ coded-local width x)
    | inl m ↦ elim (what-cases (what x)) [
      | inl w ↦ absurd (both_ways (live x) h (and_from (is_dart nodes (part_of width x) (local_of width x)) (is_real (what x)) (lt-ltb (local_of width x / 2) (length (node_at nodes (part_of width x)).items) m) (ap is_real w.1)))
      | inr w ↦ stage.1.alone x l (link-used x l w.0 m w.1)
    ]
  ]

  -- a dart of the block, and what follows it in the end
  module _ (y : ℕ) (l : y < 2 * edge_count g) where
    -- the dart in the whole
    abbrev x : ℕ
    x = into y

    -- it is one
    lx : into y < 2 * (edge_count g * length nodes)
    lx = into-below y l

    -- the dart that follows it
    abbrev then : ℕ
    then = final (into y)

    -- is one
    lt : final (into y) < 2 * (edge_count g * length nodes)
    lt = stage.1.is_map.forth (into y) lx

    -- the edges round the vertex
    abbrev round : List ℕ
    round = order_at r (tail g y)

    -- the edges for which the dart stands end with its edge
    edge-ends : ends_in g nodes r (into y) (y / 2) ≡ true
    edge-ends = and_from (is_dart nodes (part_of width x) (local_of width x)) (ends_run (order_at r (place_in g nodes x)) (holds nodes (part_of width x) (local_of width x)) (y / 2))
        (lt-ltb (local_of width x / 2) (length (node_at nodes (part_of width x)).items) (live-item x (into-live y l)).0)
        (subst (λ v. ends_run (order_at r v) (holds nodes (part_of width x) (local_of width x)) (y / 2) ≡ true) (sym (into-place y l))
        (ends-from round (holds nodes (part_of width x) (local_of width x)) (y / 2) (tail-order g r y b.graph system l) (holds-edge (y / 2) ∙ eq-eqb (y / 2) (y / 2) refl) (elim (cases_eq (successor round (y / 2)) (y / 2)) [
          | inl i ↦ inr i
          | inr i ↦ inl (holds-edge (successor round (y / 2)) ∙ ne_eqb (y / 2) (successor round (y / 2)) (λ q. i (sym q)))
        ])))
      where
        holds-edge : (c : ℕ) → holds nodes (part_of width x) (local_of width x) c ≡ (y / 2 == c)
        holds-edge c = ap (has_in_group (components nodes) (part_of width x) c) (into-what y l)

    -- so behind it begin those of what follows
    edge-begins : begins_in g nodes r (final (into y)) (y / 2) ≡ true
    edge-begins = stage.1.follows (into y) lx (into-unused y l) (y / 2) edge-ends

    -- at the same vertex
    then-place : place_in g nodes (final (into y)) ≡ tail g y
    then-place = stage.1.places (into y) lx ∙ into-place y l

    -- it is a dart of an item
    then-dart : local_of width (final (into y)) / 2 < length (node_at nodes (part_of width (final (into y)))).items
    then-dart = ltb-true (local_of width then / 2) (length (node_at nodes (part_of width then)).items)
        (and_parts (is_dart nodes (part_of width then) (local_of width then)) (begins_run (order_at r (place_in g nodes then)) (holds nodes (part_of width then) (local_of width then)) (y / 2)) edge-begins).0

    -- which has the next edge in its group
    then-holds : holds nodes (part_of width (final (into y))) (local_of width (final (into y))) (successor (order_at r (tail g y)) (y / 2)) ≡ true
    then-holds = subst (λ v. holds nodes (part_of width then) (local_of width then) (successor (order_at r v) (y / 2)) ≡ true) then-place
        (begins-parts (order_at r (place_in g nodes then)) (holds nodes (part_of width then) (local_of width then)) (y / 2)
        (and_parts (is_dart nodes (part_of width then) (local_of width then)) (begins_run (order_at r (place_in g nodes then)) (holds nodes (part_of width then) (local_of width then)) (y / 2)) edge-begins).1).1

    -- it is no link
    then-real : (e : ℕ) × (what (final (into y)) ≡ Real e)
    then-real = elim (what-cases (what then)) [
      | inl w ↦ w
      | inr w ↦ let u : is_used links.links then ≡ true = link-used then lt w.0 then-dart w.1 in
          absurd (both_ways (is_used links.links x) (into-unused y l) (subst (λ z. is_used links.links z ≡ true)
          (permutes-one-to-one (2 * size) final stage.0 stage.1.is_map then x lt lx (stage.1.alone then lt u)) u))
    ]

    -- so it is the next edge
    then-edge : edge_of (what (final (into y))) ≡ successor (order_at r (tail g y)) (y / 2)
    then-edge = ap edge_of then-real.1 ∙ eqb-true then-real.0 (successor round (y / 2)) (sym (ap (has_in_group (components nodes) (part_of width then) (successor round (y / 2))) then-real.1) ∙ then-holds)

    -- and live
    then-live : live (final (into y)) ≡ true
    then-live = and_from (is_dart nodes (part_of width then) (local_of width then)) (is_real (what then)) (lt-ltb (local_of width then / 2) (length (node_at nodes (part_of width then)).items) then-dart) (ap is_real then-real.1)

    -- the step of the rotation system is that of the glued map
    step-same : into (dart_after g r y) ≡ final (into y)
    step-same = live-one (into (dart_after g r y)) then (into-live (dart_after g r y) la) then-live
        (into-edge (dart_after g r y) la ∙ after-edge g r y ∙ sym then-edge) (into-place (dart_after g r y) la ∙ after-tail g r y b.graph system l ∙ sym then-place)
      where
        la : dart_after g r y < 2 * edge_count g
        la = (map-permutes g r b.graph system).forth y l

  -- the rotation system's map is the glued map under other numbers
  renumbering : IsRenumbering (edge_count g) (dart_after g r) (edge_count g * length nodes) (all_glued links.links (united (edge_count g) (stepped nodes family))) live into back
  renumbering = record {
    whole_edges = λ x l. live-twin x;
    others_alone = dead-alone;
    darts = into-below;
    lives = into-live;
    darts_back = λ x l h. back-below x h;
    into_back = λ x l h. back-into x h;
    back_into = into-back;
    twins = into-twin;
    steps = step-same;
  }

  -- plane where each member is
  pub follows-plane : ((k : ℕ) → k < length nodes → IsPlane (skeleton_graph nodes k) (system_at family k)) → IsPlane g r
  follows-plane p = map-plane g r b.graph system (renumber-plane-back (edge_count g) (dart_after g r) (dart_before g r) (map-permutes g r b.graph system) size final stage.0 stage.1.is_map live into back renumbering
      (stage.1.plane (whole-plane g nodes b family systems (λ k l. plane-map (skeleton_graph nodes k) (system_at family k) (skeleton-graph g nodes b k l) (systems.systems k l) (p k l)))))

  -- and each member where it is plane
  pub follows-plane_back : IsPlane g r → (k : ℕ) → k < length nodes → IsPlane (skeleton_graph nodes k) (system_at family k)
  follows-plane_back p k l = map-plane (skeleton_graph nodes k) (system_at family k) (skeleton-graph g nodes b k l) (systems.systems k l)
      (whole-plane-back g nodes b family systems (stage.1.plane_back (renumber-plane (edge_count g) (dart_after g r) (dart_before g r) (map-permutes g r b.graph system) size final stage.0 stage.1.is_map live into back renumbering
      (plane-map g r b.graph system p))) k l)

  -- that map, and the numbers of its darts in the block, for whoever needs more of it than that it is plane
  pub carried : IsCarried g nodes b family systems r system
  carried = record {
    links = links;
    before = stage.0;
    stage = stage.1;
    live = live;
    into = into;
    back = back;
    renumbering = renumbering;
    live_is = λ x. refl;
    item_in = λ y l. subst (λ (k : ℕ). local_of width (into y) / 2 < length (node_at nodes k).items) (sym (into-part y l)) (subst (λ (z : ℕ). z / 2 < length (node_at nodes (home (y / 2)).0).items) (sym (into-local y l)) (item-in y l));
    stands = into-what;
    place = into-place;
    link_used = link-used;
  }

-- a rotation system that follows a family is plane exactly where each member is
pub plane-members : PlaneWhereMembersAre
plane-members g nodes family r b systems system follows = (follows-plane_back g nodes b family systems r system follows, follows-plane g nodes b family systems r system follows)
