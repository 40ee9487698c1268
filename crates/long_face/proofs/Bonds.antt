-- The faces of a bond, by its choice: where a key follows another at the lesser pole, two darts of the two items are a face.
use Rattle.std.proofs.Common.{◌≡◌, ◌≢◌, ℕ, ◌+◌, ◌*◌, ◌/◌, ◌<◌, ◌≤◌, ◌⊎◌, Bool, true, not, ◌&&◌, ◌||◌, ◌==◌, List, length, map, inl, inr, refl, sym, ap, ap₂, ◌∙◌, subst, arith, eq-eqb, eqb-true}
use Rattle.std.proofs.lemmas.Bool.{ne_eqb, and_from, or_cases, or_left, or_right, not_from_false}
use Rattle.permutations.specs.Cyclic.{successor}
use Rattle.permutations.specs.Members.{is_member, place_of}
use Rattle.permutations.specs.Permutation.{Permutes, orbit_links}
use Rattle.permutations.specs.Relation.{IsEquivalence, connected}
use Rattle.permutations.proofs.Relation.{same-tests}
use Rattle.permutations.proofs.Orbits.{orbit-equivalence, orbit-step, orbit-kept}
use Rattle.permutations.proofs.NormalForm.{from_least-successor}
use Rattle.permutations.proofs.Places.{place-at, place-below, first-at}
use Rattle.permutations.proofs.Successor.{successor-member}
use Rattle.multigraph.specs.Graph.{Multigraph, edge_count}
use Rattle.rotations.specs.Rotation.{order_at, IsRotationSystem}
use Rattle.dart_maps.specs.Map.{twin, face, IsMap}
use Rattle.dart_maps.proofs.Darts.{twin-twin, twin-edge, edge-twin, face-permutes}
use Rattle.faces.specs.Euler.{dart_count, IsPlane}
use Rattle.faces.specs.Maps.{dart_after, dart_before}
use Rattle.faces.proofs.MapLists.{successor-map}
use Rattle.faces.proofs.MapSteps.{map-permutes}
use Rattle.pair_split.specs.Skeleton.{HasPoles}
use Rattle.pair_split.specs.Split.{skeleton}
use Rattle.pair_split.specs.Tutte.{Node, components, node_at, node_item}
use Rattle.pair_split.specs.declared.components.Kind.TheVariants.{P}
use Rattle.skeletons.specs.Items.{has_vertex, least_vertex, IsBlockTree}
use Rattle.skeletons.specs.Families.{skeleton_graph}
use Rattle.skeletons.specs.Moves.{IsNodeOfKind}
use Rattle.skeletons.proofs.NodeItems.{keys-once}
use Rattle.skeletons.proofs.Vertices.{least-has, vertices-once}
use Rattle.skeletons.proofs.Places.{round-item, item-round, keys-round_once}
use Rattle.skeleton_runs.proofs.SkeletonGraph.{skeleton-graph, place-once}
use Rattle.skeleton_planes.proofs.RunTests.{end_of}
use Rattle.skeleton_planes.proofs.Linked.{twin-end}
use Rattle.skeleton_planes.proofs.SkeletonDarts.{item-dart, step-next, step-end}
use Rattle.skeleton_planes.proofs.BondSkeleton.{item-ends, plane-back, differ}
use Rattle.skeleton_planes.proofs.OneSystem.{kind-of, lesser-place}
use Rattle.skeleton_choices.proofs.Rounds.{skeleton_round}
use Rattle.skeleton_choices.proofs.Plane.{u-has}
use Rattle.skeleton_faces.specs.Faces.{on_one_face, face_weight}
use Rattle.skeleton_faces.proofs.FaceSums.{sum_of, sum_of-one}
use Rattle.skeleton_faces.proofs.EachFamily.{sum_of-pair}

-- what a number reaches that two steps lead back to
pair-orbit : (n : ℕ) (f g : ℕ → ℕ) → Permutes n f g → (z y : ℕ) → f (f z) ≡ z → connected (orbit_links n f) z y ≡ true → ((y == z) || (y == f z)) ≡ true
pair-orbit n f g b z y e t = sym (orbit-kept n f g b (λ x. (x == z) || (x == f z)) step z y t) ∙ or_left (z == z) (z == f z) (eq-eqb z z refl)
  where
    step : (x : ℕ) → x < n → ((x == z) || (x == f z)) ≡ true → ((f x == z) || (f x == f z)) ≡ true
    step x l h = elim (or_cases (x == z) (x == f z) h) [
      | inl i ↦ or_right (f x == z) (f x == f z) (eq-eqb (f x) (f z) (ap f (eqb-true x z i)))
      | inr i ↦ or_left (f x == z) (f x == f z) (eq-eqb (f x) z (ap f (eqb-true x (f z) i) ∙ e))
    ]

-- the sum over two numbers
pub sum-two : (n : ℕ) (s : ℕ → Bool) (w : ℕ → ℕ) (p q : ℕ) → p < n → q < n → p ≢ q → ((y : ℕ) → y < n → s y ≡ ((y == p) || (y == q))) → sum_of n s w ≡ w p + w q
sum-two n s w p q lp lq two is = omega (arith, above, below, rest)
  where
    sp : s p ≡ true
    sp = is p lp ∙ or_left (p == p) (p == q) (eq-eqb p p refl)

    sq : s q ≡ true
    sq = is q lq ∙ or_right (q == p) (q == q) (eq-eqb q q refl)

    above : sum_of n s w ≤ w p + w q
    above = sum_of-pair n s w p q lp lq (λ y l t. elim (or_cases (y == p) (y == q) (sym (is y l) ∙ t)) [ inl i ↦ inl (eqb-true y p i) | inr i ↦ inr (eqb-true y q i) ])

    below : sum_of n (λ y. s y && not (y == p)) w + w p ≡ sum_of n s w
    below = sum_of-one n s w p lp sp

    rest : sum_of n (λ y. (s y && not (y == p)) && not (y == q)) w + w q ≡ sum_of n (λ y. s y && not (y == p)) w
    rest = sum_of-one n (λ y. s y && not (y == p)) w q lq (and_from (s q) (not (q == p)) sq (not_from_false (q == p) (ne_eqb q p (λ e. two (sym e)))))

-- a bond, with a plane rotation system of its skeleton
module _ (g : Multigraph) (nodes : List Node) (b : IsBlockTree g nodes) (k : ℕ) (is : IsNodeOfKind nodes k P) (s : List (List ℕ)) (system : IsRotationSystem (skeleton_graph nodes k) s) (plane : IsPlane (skeleton_graph nodes k) s) where
  -- its node
  l : k < length nodes
  l = is.0

  -- its skeleton
  abbrev graph : Multigraph
  graph = skeleton_graph nodes k

  -- its vertices
  abbrev vertices : List ℕ
  vertices = (node_at nodes k).vertices

  -- how many items it has
  abbrev number : ℕ
  number = length (node_at nodes k).items

  -- the key of an item
  abbrev key : ℕ → ℕ
  key i = (node_item nodes k i).key

  -- the lesser pole
  abbrev lesser : ℕ
  lesser = (node_item nodes k 0).a

  -- all items join two poles
  poles : HasPoles (skeleton (components nodes) k)
  poles = (kind-of g nodes b k P is).two

  -- the step around a vertex
  abbrev step : ℕ → ℕ
  step = dart_after (skeleton_graph nodes k) s

  map-of : IsMap (edge_count (skeleton_graph nodes k)) (dart_after (skeleton_graph nodes k) s) (dart_before (skeleton_graph nodes k) s)
  map-of = map-permutes graph s (skeleton-graph g nodes b k l) system

  half : (n : ℕ) → (2 * n) / 2 ≡ n
  half n = omega arith

  -- the least vertex is the lesser pole
  least-is : (node_item nodes k 0).a ≡ least_vertex nodes k
  least-is = place-once vertices lesser (least_vertex nodes k) (u-has g nodes b k is) (least-has g nodes b k l) (lesser-place g nodes b k l poles ∙ sym first-place)
    where
      some : 0 < length (node_at nodes k).vertices
      some = let p = place-below vertices (least_vertex nodes k) (least-has g nodes b k l) in omega (arith, p)

      first-place : place_of (node_at nodes k).vertices (least_vertex nodes k) ≡ 0
      first-place = subst (λ x. place_of vertices x ≡ 0) (first-at vertices) (place-at vertices 0 (vertices-once g nodes b k l) some)

  -- the items around it
  abbrev around : List ℕ
  around = order_at s (place_of (node_at nodes k).vertices (node_item nodes k 0).a)

  has : has_vertex nodes k (node_item nodes k 0).a ≡ true
  has = u-has g nodes b k is

  -- where a key follows another, so does the item
  item-next : (keys : List ℕ) → skeleton_round g nodes b.tree k is.0 s (least_vertex nodes k) ≡ keys → (a c : ℕ) → a < length (node_at nodes k).items → c < length (node_at nodes k).items
      → successor keys (node_item nodes k a).key ≡ (node_item nodes k c).key → successor around a ≡ c
  item-next keys e a c la lc h = keys-once g nodes b.tree k (successor around a) c (round-item g nodes b.tree k l s lesser (successor around a) system has (successor-member around a among)).0 lc
      (sym (successor-map key around a (λ z m q. keys-once g nodes b.tree k z a (round-item g nodes b.tree k l s lesser z system has m).0 la q))
      ∙ sym (from_least-successor (map key around) (key a) (keys-round_once g nodes b.tree k l s lesser system has))
      ∙ ap (λ (z : List ℕ). successor z (key a)) (ap (skeleton_round g nodes b.tree k l s) least-is ∙ e) ∙ h)
    where
      among : is_member a around ≡ true
      among = item-round g nodes b.tree k l s lesser a system has la (or_left ((node_item nodes k a).a == lesser) ((node_item nodes k a).b == lesser) (eq-eqb (node_item nodes k a).a lesser (item-ends g nodes b k l poles a la).0))

  -- and so does the dart
  pub bond-next : (keys : List ℕ) → skeleton_round g nodes b.tree k is.0 s (least_vertex nodes k) ≡ keys → (a c : ℕ) → a < length (node_at nodes k).items → c < length (node_at nodes k).items
      → successor keys (node_item nodes k a).key ≡ (node_item nodes k c).key → dart_after (skeleton_graph nodes k) s (2 * a) ≡ 2 * c
  bond-next keys e a c la lc h = elim (edge-twin (step (2 * a)) (2 * c) (edge ∙ sym (half c))) [
    | inl q ↦ q
    | inr q ↦ absurd (wrong (sym (item-ends g nodes b k l poles a la).0 ∙ sym (twin-end nodes k a).0 ∙ sym (step-end g nodes b k l s system (2 * a) ma) ∙ ap (end_of nodes k) q ∙ (twin-end nodes k c).1 ∙ (item-ends g nodes b k l poles c lc).1))
  ]
    where
      ma : (2 * a) / 2 < length (node_at nodes k).items
      ma = subst (λ n. n < number) (sym (half a)) la

      edge : dart_after (skeleton_graph nodes k) s (2 * a) / 2 ≡ c
      edge = step-next g nodes b k l s system (2 * a) ma
          ∙ ap₂ (λ v i. successor (order_at s (place_of vertices v)) i) ((twin-end nodes k a).0 ∙ (item-ends g nodes b k l poles a la).0) (half a)
          ∙ item-next keys e a c la lc h

      wrong : (node_item nodes k 0).a ≡ (node_item nodes k 0).b → ⊥
      wrong q = let d = differ g nodes b k l poles in omega (arith, q, d)

  -- two such items
  module _ (a c : ℕ) (la : a < length (node_at nodes k).items) (lc : c < length (node_at nodes k).items) (next : dart_after (skeleton_graph nodes k) s (2 * a) ≡ 2 * c) where
    -- the dart of the first that arrives at the lesser pole
    abbrev start : ℕ
    start = twin (2 * a)

    start-in : twin (2 * a) < dart_count (skeleton_graph nodes k)
    start-in = item-dart g nodes b k l start (subst (λ n. n < number) (sym (twin-edge (2 * a) ∙ half a)) la)

    end-in : 2 * c < dart_count (skeleton_graph nodes k)
    end-in = item-dart g nodes b k l (2 * c) (subst (λ n. n < number) (sym (half c)) lc)

    -- the dart of the second follows it along the face
    along : face (dart_after (skeleton_graph nodes k) s) (twin (2 * a)) ≡ 2 * c
    along = ap step (twin-twin (2 * a)) ∙ next

    alike : IsEquivalence (on_one_face (skeleton_graph nodes k) s)
    alike = orbit-equivalence (2 * edge_count graph) (face step)

    -- they are on one face
    both : on_one_face (skeleton_graph nodes k) s (twin (2 * a)) (2 * c) ≡ true
    both = subst (λ z. on_one_face graph s start z ≡ true) along (orbit-step (2 * edge_count graph) (face step) start start-in)

    -- and no other dart
    from-start : (x : ℕ) → on_one_face (skeleton_graph nodes k) s (twin (2 * a)) x ≡ ((x == twin (2 * a)) || (x == 2 * c))
    from-start x = same-tests (on_one_face graph s start x) ((x == start) || (x == 2 * c))
        (λ t. subst (λ z. ((x == start) || (x == z)) ≡ true) along (pair-orbit (2 * edge_count graph) (face step) (λ d. twin (dart_before graph s d)) (face-permutes (edge_count graph) step (dart_before graph s) map-of) start x
        (plane-back g nodes b k l poles s system plane start start-in) t))
        (λ t. elim (or_cases (x == start) (x == 2 * c) t) [
          | inl i ↦ subst (λ z. on_one_face graph s start z ≡ true) (sym (eqb-true x start i)) (alike.reflexive start)
          | inr i ↦ subst (λ z. on_one_face graph s start z ≡ true) (sym (eqb-true x (2 * c) i)) both
        ])

    -- nor is there from the second
    pub bond-face : (d x : ℕ) → (d ≡ twin (2 * a)) ⊎ (d ≡ 2 * c) → on_one_face (skeleton_graph nodes k) s d x ≡ ((x == twin (2 * a)) || (x == 2 * c))
    bond-face d x (inl e) = ap (λ z. on_one_face graph s z x) e ∙ from-start x
    bond-face d x (inr e) = ap (λ z. on_one_face graph s z x) e ∙ same-tests (on_one_face graph s (2 * c) x) (on_one_face graph s start x) (λ t. alike.transitive start (2 * c) x both t) (λ t. alike.transitive (2 * c) start x (alike.symmetric start (2 * c) both) t) ∙ from-start x

    -- the face weighs what the two items do
    pub bond-sum : (w : ℕ → ℕ) → a ≢ c → (d : ℕ) → (d ≡ twin (2 * a)) ⊎ (d ≡ 2 * c) → face_weight (skeleton_graph nodes k) s w d ≡ w a + w c
    bond-sum w two d e = sum-two (dart_count graph) (on_one_face graph s d) (λ y. w (y / 2)) start (2 * c) start-in end-in (λ q. two (sym (twin-edge (2 * a) ∙ half a) ∙ ap (λ z. z / 2) q ∙ half c)) (λ y n. bond-face d y e)
        ∙ ap₂ (λ x y. w x + w y) (twin-edge (2 * a) ∙ half a) (half c)
