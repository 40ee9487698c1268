-- The two items of a link can be glued: they go between the same vertices, stand for all edges between them, have company
-- at both, and are no bridges.
use Rattle.std.proofs.Common.{◌≡◌, ◌≢◌, ℕ, ◌+◌, ◌*◌, ◌/◌, ◌%◌, ◌<◌, ◌≤◌, Bool, true, not, ◌&&◌, ◌||◌, ◌==◌, cond, List, length, inl, inr, refl, sym, ap, ◌∙◌, subst, arith, eq-eqb, eqb-true}
use Rattle.std.proofs.lemmas.Bool.{cases_Bool, cases_eq, both_ways, ne_eqb, and_from, and_parts, or_cases, not-true, not_from_false}
use Rattle.permutations.specs.Members.{is_member, is_distinct, place_of}
use Rattle.permutations.specs.Cyclic.{successor}
use Rattle.permutations.proofs.Orbits.{orbit-test}
use Rattle.multigraph.specs.Graph.{Multigraph, edge_count}
use Rattle.rotations.specs.Rotation.{order_at}
use Rattle.dart_maps.specs.Map.{twin}
use Rattle.dart_maps.proofs.Darts.{twin-edge, edge-twin, twin-even}
use Rattle.faces.specs.Euler.{tail}
use Rattle.faces.specs.Maps.{dart_after}
use Rattle.faces.proofs.DartLemmas.{order-distinct}
use Rattle.faces.proofs.MapVertices.{tail-vertex}
use Rattle.faces.proofs.MapSteps.{tail-in}
use Rattle.pair_split.specs.Family.{Entry, has_end, on_side, off_side, is_common, IsTight}
use Rattle.pair_split.specs.Split.{item_at, items_of}
use Rattle.pair_split.specs.Tutte.{Node, components, node_at, node_item}
use Rattle.pair_split.specs.declared.components.What.TheVariants.{Link}
use Rattle.pair_split.proofs.GraphFamily.{one_block-tight}
use Rattle.pair_split.proofs.Sides.{Touching, one-from_entry, common-inside, common-outside}
use Rattle.pair_split.proofs.SkeletonFamily.{named, skeleton_family, item-entry, entry-item, skeleton-tight}
use Rattle.skeletons.specs.Items.{ends_item, IsBlockTree}
use Rattle.skeletons.specs.Families.{skeleton_graph, system_at, AreSkeletonSystems}
use Rattle.skeletons.proofs.NodeItems.{comp-in, piece-in, item-in, ends-at, group-is, edge-item, edge-end, outside-edge}
use Rattle.skeleton_runs.proofs.SkeletonGraph.{skeleton-graph}
use Rattle.skeleton_planes.specs.Bridges.{IsNoBridge}
use Rattle.skeleton_planes.proofs.Numbering.{coded, local_of, united}
use Rattle.skeleton_planes.proofs.RunTests.{end_of}
use Rattle.skeleton_planes.proofs.Coded.{local-coded, coded-below, coded-twin}
use Rattle.skeleton_planes.proofs.Complements.{follows-itself}
use Rattle.skeleton_planes.proofs.Spread.{alike, alike-true, alike-from}
use Rattle.skeleton_planes.proofs.SkeletonDarts.{item-dart, dart-item, end-vertex, tail-place, step-item, step-next, own-item}
use Rattle.skeleton_planes.proofs.Whole.{stepped, dart-fits, whole-coded}

-- each end of an item is left by one of its darts
pub dart-at : (nodes : List Node) (k q v : ℕ) → ends_item v (node_item nodes k q) ≡ true → (z : ℕ) × (z / 2 ≡ q) × (end_of nodes k z ≡ v)
dart-at nodes k q v h = elim (or_cases ((node_item nodes k q).a == v) ((node_item nodes k q).b == v) h) [
  | inl i ↦ (2 * q, omega arith, even (2 * q) (omega arith) (omega arith) (eqb-true (node_item nodes k q).a v i))
  | inr i ↦ (2 * q + 1, omega arith, odd (2 * q + 1) (omega arith) (omega arith) (eqb-true (node_item nodes k q).b v i))
]
  where
    even : (z : ℕ) → z % 2 ≡ 0 → z / 2 ≡ q → (node_item nodes k q).a ≡ v → end_of nodes k z ≡ v
    even z p e i = ap (λ (t : Bool). cond t (node_item nodes k (z / 2)).a (node_item nodes k (z / 2)).b) (eq-eqb (z % 2) 0 p) ∙ ap (λ n. (node_item nodes k n).a) e ∙ i

    odd : (z : ℕ) → z % 2 ≡ 1 → z / 2 ≡ q → (node_item nodes k q).b ≡ v → end_of nodes k z ≡ v
    odd z p e i = ap (λ (t : Bool). cond t (node_item nodes k (z / 2)).a (node_item nodes k (z / 2)).b) (ne_eqb (z % 2) 0 (λ o. omega (arith, p, o))) ∙ ap (λ n. (node_item nodes k n).b) e ∙ i

-- and a dart leaves an end of its item
pub end-of_item : (nodes : List Node) (k z : ℕ) → ends_item (end_of nodes k z) (node_item nodes k (z / 2)) ≡ true
end-of_item nodes k z = elim (cases_Bool (z % 2 == 0)) [
  | inl h ↦ ap (λ (t : Bool). ends_item (cond t (node_item nodes k (z / 2)).a (node_item nodes k (z / 2)).b) (node_item nodes k (z / 2))) h ∙ first (node_item nodes k (z / 2)).a (node_item nodes k (z / 2)).b
  | inr h ↦ ap (λ (t : Bool). ends_item (cond t (node_item nodes k (z / 2)).a (node_item nodes k (z / 2)).b) (node_item nodes k (z / 2))) h ∙ second (node_item nodes k (z / 2)).a (node_item nodes k (z / 2)).b
]
  where
    first : (x y : ℕ) → ((x == x) || (y == x)) ≡ true
    first x y = rw (eq-eqb x x refl) refl

    second : (x y : ℕ) → ((x == y) || (y == y)) ≡ true
    second x y = rw (eq-eqb y y refl) (or-true (x == y))
      where
        or-true : (t : Bool) → (t || true) ≡ true
        or-true t = grind (arith, cases_Bool t)

-- the twin's end, where the dart is the first of its edge
pub twin-end : (nodes : List Node) (k i : ℕ) → (end_of nodes k (2 * i) ≡ (node_item nodes k i).a) × (end_of nodes k (twin (2 * i)) ≡ (node_item nodes k i).b)
twin-end nodes k i = (even (2 * i) (omega arith) (omega arith), odd (twin (2 * i)) (let e : twin (2 * i) ≡ 2 * i + 1 = twin-even (2 * i) (omega arith) in omega (arith, e)) (let e : twin (2 * i) ≡ 2 * i + 1 = twin-even (2 * i) (omega arith) in omega (arith, e)))
  where
    even : (z : ℕ) → z % 2 ≡ 0 → z / 2 ≡ i → end_of nodes k z ≡ (node_item nodes k i).a
    even z p e = ap (λ (t : Bool). cond t (node_item nodes k (z / 2)).a (node_item nodes k (z / 2)).b) (eq-eqb (z % 2) 0 p) ∙ ap (λ n. (node_item nodes k n).a) e

    odd : (z : ℕ) → z % 2 ≡ 1 → z / 2 ≡ i → end_of nodes k z ≡ (node_item nodes k i).b
    odd z p e = ap (λ (t : Bool). cond t (node_item nodes k (z / 2)).a (node_item nodes k (z / 2)).b) (ne_eqb (z % 2) 0 (λ o. omega (arith, p, o))) ∙ ap (λ n. (node_item nodes k n).b) e

-- a link of a node of the tree of a block
module _ (g : Multigraph) (nodes : List Node) (b : IsBlockTree g nodes) (family : List (List (List ℕ))) (systems : AreSkeletonSystems nodes family) (k : ℕ) (l : k < length nodes) (z j : ℕ) (m : z / 2 < length (node_at nodes k).items) (link : (node_item nodes k (z / 2)).what ≡ Link j) where
  -- the step of the skeleton
  abbrev step : ℕ → ℕ
  step = dart_after (skeleton_graph nodes k) (system_at family k)

  -- the step of the whole
  abbrev whole : ℕ → ℕ
  whole = united (edge_count g) (stepped nodes family)

  -- the vertex that the dart leaves
  abbrev v : ℕ
  v = end_of nodes k z

  -- another item with this end, and its dart there
  pub other-item : (y : ℕ) × (y / 2 < length (node_at nodes k).items) × (end_of nodes k y ≡ end_of nodes k z) × (y / 2 ≢ z / 2)
  other-item = let e = outside-edge g nodes b.tree k (z / 2) j v m link (end-vertex g nodes b k l z m) in
      let q = edge-item g nodes b.tree k e.0 l e.1 in
      let d = dart-at nodes k q.0 v (edge-end g nodes b.tree k v q.0 e.0 (end-vertex g nodes b k l z m) q.1 e.1 e.2 q.2) in
      (d.0, subst (λ n. n < length (node_at nodes k).items) (sym d.1) q.1, d.2, λ o. e.3 (group-is g nodes b.tree k q.0 e.0 q.1 e.1 q.2 ∙ ap (λ n. (node_item nodes k n).key) (sym d.1 ∙ o)))

  -- so the dart is not alone
  pub link-company : united (edge_count g) (stepped nodes family) (coded (edge_count g) k z) ≢ coded (edge_count g) k z
  link-company h = other-item.3 (follows-itself (order_at (system_at family k) (place_of (node_at nodes k).vertices v)) (z / 2) distinct mine same (other-item.0 / 2) others)
    where
      stays : step z ≡ z
      stays = sym (local-coded (edge_count g) k (step z) (dart-fits g nodes b family systems k (step z) l (step-item g nodes b k l (system_at family k) (systems.systems k l) z m)))
          ∙ ap (local_of (edge_count g)) (sym (whole-coded g nodes b family systems k z l m) ∙ h) ∙ local-coded (edge_count g) k z (dart-fits g nodes b family systems k z l m)

      same : successor (order_at (system_at family k) (place_of (node_at nodes k).vertices v)) (z / 2) ≡ z / 2
      same = sym (step-next g nodes b k l (system_at family k) (systems.systems k l) z m) ∙ ap (λ x. x / 2) stays

      mine : is_member (z / 2) (order_at (system_at family k) (place_of (node_at nodes k).vertices v)) ≡ true
      mine = own-item g nodes b k l (system_at family k) (systems.systems k l) z m

      others : is_member (other-item.0 / 2) (order_at (system_at family k) (place_of (node_at nodes k).vertices v)) ≡ true
      others = subst (λ u. is_member (other-item.0 / 2) (order_at (system_at family k) (place_of (node_at nodes k).vertices u)) ≡ true) other-item.2 (own-item g nodes b k l (system_at family k) (systems.systems k l) other-item.0 other-item.1)

      distinct : is_distinct (order_at (system_at family k) (place_of (node_at nodes k).vertices v)) ≡ true
      distinct = subst (λ p. is_distinct (order_at (system_at family k) p) ≡ true) (tail-place g nodes b k l z m)
          (order-distinct (skeleton_graph nodes k) (system_at family k) (tail (skeleton_graph nodes k) z) (systems.systems k l) (tail-in (skeleton_graph nodes k) z (skeleton-graph g nodes b k l) (item-dart g nodes b k l z m)))

  -- a test with one value at each vertex of the whole, and along each edge but this dart's
  module _ (a : ℕ → Bool) (next : (x : ℕ) → x < 2 * (edge_count g * length nodes) → a (whole x) ≡ a x) (across : (x : ℕ) → x < 2 * (edge_count g * length nodes) → x ≢ coded (edge_count g) k z → x ≢ twin (coded (edge_count g) k z) → a (twin x) ≡ a x) where
    -- the test on the darts of the skeleton
    abbrev here : ℕ → Bool
    here y = a (coded (edge_count g) k y)

    -- a code
    code-in : (y : ℕ) → y / 2 < length (node_at nodes k).items → coded (edge_count g) k y < 2 * (edge_count g * length nodes)
    code-in y n = coded-below (edge_count g) (length nodes) k y l (dart-fits g nodes b family systems k y l n)

    -- codes of darts of different items differ
    code-differs : (y x : ℕ) → y / 2 < length (node_at nodes k).items → x / 2 < length (node_at nodes k).items → y / 2 ≢ x / 2 → coded (edge_count g) k y ≢ coded (edge_count g) k x
    code-differs y x n o d e = d (ap (λ u. u / 2) (sym (local-coded (edge_count g) k y (dart-fits g nodes b family systems k y l n)) ∙ ap (local_of (edge_count g)) e ∙ local-coded (edge_count g) k x (dart-fits g nodes b family systems k x l o)))

    -- it has one value at each vertex
    here-vertex : (x y : ℕ) → x / 2 < length (node_at nodes k).items → y / 2 < length (node_at nodes k).items → end_of nodes k x ≡ end_of nodes k y → here x ≡ here y
    here-vertex x y n o e = orbit-test (2 * edge_count (skeleton_graph nodes k)) step here
        (λ u i. let w : u / 2 < length (node_at nodes k).items = dart-item g nodes b k l u i in ap a (sym (whole-coded g nodes b family systems k u l w)) ∙ next (coded (edge_count g) k u) (code-in u w)) x y
        (tail-vertex (skeleton_graph nodes k) (system_at family k) (skeleton-graph g nodes b k l) (systems.systems k l) x y (item-dart g nodes b k l x n) (item-dart g nodes b k l y o)
        (tail-place g nodes b k l x n ∙ ap (place_of (node_at nodes k).vertices) e ∙ sym (tail-place g nodes b k l y o)))

    -- and along each item but the link
    here-twin : (y : ℕ) → y / 2 < length (node_at nodes k).items → y / 2 ≢ z / 2 → here (twin y) ≡ here y
    here-twin y n d = ap a (coded-twin (edge_count g) k y) ∙ across (coded (edge_count g) k y) (code-in y n) (code-differs y z n m d)
        (λ e. code-differs y (twin z) n (subst (λ u. u < length (node_at nodes k).items) (sym (twin-edge z)) m) (λ o. d (o ∙ twin-edge z)) (e ∙ sym (coded-twin (edge_count g) k z)))

    -- so at both darts of it
    here-item : (y x : ℕ) → y / 2 < length (node_at nodes k).items → y / 2 ≢ z / 2 → x / 2 ≡ y / 2 → here x ≡ here y
    here-item y x n d e = elim (edge-twin x y e) [ inl i ↦ ap here i | inr i ↦ ap here i ∙ here-twin y n d ]

    -- the items other than the link that have the value of the dart
    abbrev near : ℕ → Bool
    near n = not (n == z / 2) && alike (here (2 * n)) (here z)

    -- the skeleton as a family
    abbrev entries : List Entry
    entries = skeleton_family (components nodes) k

    -- an item that is no other than the link and has not this value is the link
    half : (n : ℕ) → (2 * n) / 2 ≡ n
    half n = omega arith

    near-from : (y : ℕ) → y / 2 < length (node_at nodes k).items → y / 2 ≢ z / 2 → here y ≡ here z → near (y / 2) ≡ true
    near-from y n d e = and_from (not (y / 2 == z / 2)) (alike (here (2 * (y / 2))) (here z)) (not_from_false (y / 2 == z / 2) (ne_eqb (y / 2) (z / 2) d))
        (alike-from (here (2 * (y / 2))) (here z) (here-item y (2 * (y / 2)) n d (half (y / 2)) ∙ e))

    near-parts : (n : ℕ) → near n ≡ true → (n ≢ z / 2) × (here (2 * n) ≡ here z)
    near-parts n h = let p = and_parts (not (n == z / 2)) (alike (here (2 * n)) (here z)) h in
        (λ e. both_ways (n == z / 2) (not-true (n == z / 2) p.0) (eq-eqb n (z / 2) e), alike-true (here (2 * n)) (here z) p.1)

    -- where the values at the link's two ends differ, the near items and the others have only the one vertex in common
    only-end : (here (twin z) ≡ here z → ⊥) → (x : ℕ) → is_common entries near x ≡ true → x ≡ v
    only-end differ x h = elim (cases_eq f.0 (z / 2)) [
      | inl i ↦ elim (edge-twin df.0 z (df.1 ∙ i)) [
        | inl o ↦ sym df.2 ∙ ap (end_of nodes k) o
        | inr o ↦ absurd (differ (ap here (sym o) ∙ value))
      ]
      | inr i ↦ absurd (both_ways (near f.0) (not-true (near f.0) far) (subst (λ n. near n ≡ true) df.1 (near-from df.0 df-in (λ o. i (sym df.1 ∙ o)) value)))
    ]
      where
        one : Touching entries near x
        one = common-inside entries near x h

        two : Touching entries (λ n. not (near n)) x
        two = common-outside entries near x h

        e : (i : ℕ) × (i < length (items_of (components nodes) k)) × (one.entry ≡ named i (item_at (components nodes) k i))
        e = entry-item g (components nodes) b.tree.split k (comp-in g nodes b.tree k l) one.entry one.within

        f : (i : ℕ) × (i < length (items_of (components nodes) k)) × (two.entry ≡ named i (item_at (components nodes) k i))
        f = entry-item g (components nodes) b.tree.split k (comp-in g nodes b.tree k l) two.entry two.within

        e-in : e.0 < length (node_at nodes k).items
        e-in = item-in g nodes b.tree k e.0 e.1

        f-in : f.0 < length (node_at nodes k).items
        f-in = item-in g nodes b.tree k f.0 f.1

        de : (z : ℕ) × (z / 2 ≡ e.0) × (end_of nodes k z ≡ x)
        de = dart-at nodes k e.0 x (sym (ends-at g nodes b.tree k e.0 x e-in) ∙ ap (has_end x) (sym e.2) ∙ one.end)

        df : (z : ℕ) × (z / 2 ≡ f.0) × (end_of nodes k z ≡ x)
        df = dart-at nodes k f.0 x (sym (ends-at g nodes b.tree k f.0 x f-in) ∙ ap (has_end x) (sym f.2) ∙ two.end)

        de-in : de.0 / 2 < length (node_at nodes k).items
        de-in = subst (λ n. n < length (node_at nodes k).items) (sym de.1) e-in

        df-in : df.0 / 2 < length (node_at nodes k).items
        df-in = subst (λ n. n < length (node_at nodes k).items) (sym df.1) f-in

        is_near : (e.0 ≢ z / 2) × (here (2 * e.0) ≡ here z)
        is_near = near-parts e.0 (ap (λ (w : Entry). near w.name) (sym e.2) ∙ one.side)

        far : not (near f.0) ≡ true
        far = ap (λ (w : Entry). not (near w.name)) (sym f.2) ∙ two.side

        value : here df.0 ≡ here z
        value = here-vertex df.0 de.0 df-in de-in (df.2 ∙ sym de.2) ∙ here-item (2 * e.0) de.0 (subst (λ n. n < length (node_at nodes k).items) (sym (half e.0)) e-in) (λ o. is_near.0 (sym (half e.0) ∙ o)) (de.1 ∙ sym (half e.0)) ∙ is_near.1

    -- so the link is no bridge
    pub link-value : a (coded (edge_count g) k z) ≡ a (twin (coded (edge_count g) k z))
    link-value = elim (cases_Bool (alike (here (twin z)) (here z))) [
      | inl h ↦ sym (alike-true (here (twin z)) (here z) h) ∙ ap a (coded-twin (edge_count g) k z)
      | inr h ↦ let differ : here (twin z) ≡ here z → ⊥ = λ e. both_ways (alike (here (twin z)) (here z)) h (alike-from (here (twin z)) (here z) e) in
          let w = tight near inside outside in absurd (w.2 (only-end differ w.0 w.3 ∙ sym (only-end differ w.1 w.4)))
    ]
      where
        tight : IsTight entries
        tight = skeleton-tight g (components nodes) b.tree.split k (comp-in g nodes b.tree k l) (one_block-tight g b.block)

        inside : 1 ≤ length (on_side near entries)
        inside = one-from_entry entries near (record {
          entry = named (other-item.0 / 2) (item_at (components nodes) k (other-item.0 / 2));
          within = item-entry g (components nodes) b.tree.split k (comp-in g nodes b.tree k l) (other-item.0 / 2) (piece-in g nodes b.tree k (other-item.0 / 2) other-item.1);
          side = near-from other-item.0 other-item.1 other-item.3 (here-vertex other-item.0 z other-item.1 m other-item.2);
        })

        outside : 1 ≤ length (off_side near entries)
        outside = one-from_entry entries (λ n. not (near n)) (record {
          entry = named (z / 2) (item_at (components nodes) k (z / 2));
          within = item-entry g (components nodes) b.tree.split k (comp-in g nodes b.tree k l) (z / 2) (piece-in g nodes b.tree k (z / 2) m);
          side = ap (λ (t : Bool). not (not t && alike (here (2 * (z / 2))) (here z))) (eq-eqb (z / 2) (z / 2) refl);
        })

  -- the dart is of no bridge
  pub link-no_bridge : IsNoBridge (edge_count g * length nodes) (united (edge_count g) (stepped nodes family)) (coded (edge_count g) k z)
  link-no_bridge a next across = link-value a next across
