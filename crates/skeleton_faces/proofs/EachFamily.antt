-- The weights of the faces of a skeleton in all its plane rotation systems: those of polygons and small nodes have one, those of
-- triconnected skeletons two, mirror images, in which the faces are the same; each face of a bond is a pair of items.
use Rattle.std.proofs.Common.{◌≡◌, ◌≢◌, ℕ, ◌+◌, ◌*◌, ◌/◌, ◌%◌, ◌<◌, ◌≤◌, ◌⊎◌, Bool, true, false, not, ◌&&◌, ◌||◌, ◌==◌, List, length, zero, suc, inl, inr, refl, sym, ap, ◌∙◌, subst, arith, eq-eqb, eqb-true}
use Rattle.std.proofs.lemmas.Bool.{cases_Bool, cases_eq, or_cases, or_left, or_right}
use Rattle.std.proofs.lemmas.List.{length-map}
use Rattle.permutations.specs.Permutation.{Permutes, orbit_links}
use Rattle.permutations.specs.Relation.{connected}
use Rattle.permutations.specs.Members.{place_of}
use Rattle.permutations.proofs.Relation.{same-tests}
use Rattle.permutations.proofs.Orbits.{orbit-equivalence, orbit-step, orbit-least, orbit-kept, orbit-ext}
use Rattle.permutations.proofs.Renaming.{equivalence-through}
use Rattle.permutations.proofs.Permutations.{permutes-inverse}
use Rattle.multigraph.specs.Graph.{Multigraph, IsGraph, edge_count}
use Rattle.rotations.specs.Rotation.{IsRotationSystem}
use Rattle.rotations.specs.Runs.{mirror_image}
use Rattle.dart_maps.specs.Map.{twin, face, IsMap, same_face}
use Rattle.dart_maps.proofs.Darts.{twin-below, twin-twin, twin-edge, edge-twin, face-permutes}
use Rattle.faces.specs.Euler.{tail, IsPlane}
use Rattle.faces.specs.Maps.{dart_after, dart_before}
use Rattle.faces.proofs.MapSteps.{map-permutes, after-tail}
use Rattle.faces.proofs.MapMirror.{mirror-after}
use Rattle.faces.proofs.MapVertices.{tail-vertex}
use Rattle.pair_split.specs.Skeleton.{HasPoles}
use Rattle.pair_split.specs.Split.{skeleton, items_of, piece_ends}
use Rattle.pair_split.specs.Tutte.{Node, components, node_at, node_item, piece_of}
use Rattle.pair_split.specs.declared.components.Kind.{Kind}
use Rattle.pair_split.specs.declared.components.Kind.TheVariants.{S, P, R, B}
use Rattle.pair_split.proofs.NodeParts.{node-pieces}
use Rattle.skeletons.specs.Items.{IsBlockTree}
use Rattle.skeletons.specs.Families.{skeleton_graph}
use Rattle.skeletons.specs.Moves.{IsNodeOfKind}
use Rattle.skeleton_runs.proofs.SkeletonGraph.{skeleton-graph, skeleton-triconnected}
use Rattle.planarity.proofs.TwoSystems.{two-systems}
use Rattle.skeleton_planes.proofs.SkeletonDarts.{item-dart, tail-place, step-item}
use Rattle.skeleton_planes.proofs.BondSkeleton.{item-ends, plane-back, places-differ}
use Rattle.skeleton_planes.proofs.Linked.{twin-end}
use Rattle.skeleton_planes.proofs.OneSystem.{kind-of, polygon-law, small-law}
use Rattle.skeleton_faces.specs.Faces.{face_weight}
use Rattle.skeleton_faces.proofs.FaceSums.{sum_of, sum_of-ext, sum_of-injection, sum_of-either, sum_of-one}

-- the faces of the inverse map are those of the map, seen from the other side
pub back-face : (m : ℕ) (f g : ℕ → ℕ) → IsMap m f g → (x y : ℕ) → same_face m g x y ≡ same_face m f (twin x) (twin y)
back-face m f g b x y = same-tests (same_face m g x y) (same_face m f (twin x) (twin y)) (forth f g b x y)
    (λ t. subst (λ u. same_face m g u y ≡ true) (twin-twin x) (subst (λ u. same_face m g (twin (twin x)) u ≡ true) (twin-twin y) (forth g f (permutes-inverse (2 * m) f g b) (twin x) (twin y) t)))
  where
    forth : (f g : ℕ → ℕ) → IsMap m f g → (x y : ℕ) → same_face m g x y ≡ true → same_face m f (twin x) (twin y) ≡ true
    forth f g b = orbit-least (2 * m) (face g) (λ u v. same_face m f (twin u) (twin v)) (equivalence-through (same_face m f) twin (orbit-equivalence (2 * m) (face f)))
        (λ d l. let n : g (twin d) < 2 * m = b.back (twin d) (twin-below m d l) in
        (orbit-equivalence (2 * m) (face f)).symmetric (twin (g (twin d))) (twin d)
        (subst (λ z. same_face m f (twin (g (twin d))) z ≡ true) (ap f (twin-twin (g (twin d))) ∙ b.forth_back (twin d) (twin-below m d l)) (orbit-step (2 * m) (face f) (twin (g (twin d))) (twin-below m (g (twin d)) n))))

-- so the mirror image has the same weights
pub mirror-weight : (g : Multigraph) (r : List (List ℕ)) → IsGraph g → IsRotationSystem g r → (w : ℕ → ℕ) (d : ℕ) → face_weight g (mirror_image r) w d ≡ face_weight g r w (twin d)
mirror-weight g r ok system w d = both
    (sum_of-injection (2 * edge_count g) (2 * edge_count g) there here (λ y. w (y / 2)) (λ y. w (y / 2)) twin (λ y l t. twin-below (edge_count g) y l) (λ y l t. sym (same y) ∙ t) (λ y l t. level y) (λ u v l k s t q. sym (twin-twin u) ∙ ap twin q ∙ twin-twin v))
    (sum_of-injection (2 * edge_count g) (2 * edge_count g) here there (λ y. w (y / 2)) (λ y. w (y / 2)) twin (λ y l t. twin-below (edge_count g) y l)
    (λ y l t. same (twin y) ∙ ap (same_face (edge_count g) (dart_after g r) (twin d)) (twin-twin y) ∙ t) (λ y l t. level y) (λ u v l k s t q. sym (twin-twin u) ∙ ap twin q ∙ twin-twin v))
  where
    there : ℕ → Bool
    there = same_face (edge_count g) (dart_after g (mirror_image r)) d

    here : ℕ → Bool
    here = same_face (edge_count g) (dart_after g r) (twin d)

    same : (y : ℕ) → same_face (edge_count g) (dart_after g (mirror_image r)) d y ≡ same_face (edge_count g) (dart_after g r) (twin d) (twin y)
    same y = orbit-ext (2 * edge_count g) (face (dart_after g (mirror_image r))) (face (dart_before g r)) (λ x l. mirror-after g r ok system (twin x) (twin-below (edge_count g) x l)) d y
        ∙ back-face (edge_count g) (dart_after g r) (dart_before g r) (map-permutes g r ok system) d y

    level : (y : ℕ) → w (y / 2) ≤ w (twin y / 2)
    level y = subst (λ n. w (y / 2) ≤ w n) (sym (twin-edge y)) (omega arith)

    both : {a c : ℕ} → a ≤ c → c ≤ a → a ≡ c
    both p q = omega (arith, p, q)

-- the sum over one number
pub sum_of-single : (n p : ℕ) (w : ℕ → ℕ) → p < n → sum_of n (λ y. y == p) w ≡ w p
sum_of-single n p w l = omega (arith, sum_of-one n (λ y. y == p) w p l (eq-eqb p p refl), none)
  where
    apart : (a : Bool) → (a && not a) ≡ false
    apart a = grind (arith, cases_Bool a)

    nothing : (n : ℕ) → sum_of n (λ y. false) w ≡ 0
    nothing zero = refl
    nothing (suc n) = omega (arith, nothing n)

    none : sum_of n (λ y. (y == p) && not (y == p)) w ≡ 0
    none = sum_of-ext n (λ y. (y == p) && not (y == p)) (λ y. false) w (λ y k. apart (y == p)) ∙ nothing n

-- the sum over two numbers at most
pub sum_of-pair : (n : ℕ) (s : ℕ → Bool) (w : ℕ → ℕ) (p q : ℕ) → p < n → q < n → ((y : ℕ) → y < n → s y ≡ true → (y ≡ p) ⊎ (y ≡ q)) → sum_of n s w ≤ w p + w q
sum_of-pair n s w p q lp lq h = omega (arith, sum_of-either n s (λ y. y == p) (λ y. y == q) w (λ y l t. elim (h y l t) [ inl i ↦ inl (eq-eqb y p i) | inr i ↦ inr (eq-eqb y q i) ]), sum_of-single n p w lp, sum_of-single n q w lq)

-- what a fixed number reaches
fixed-orbit : (n : ℕ) (f g : ℕ → ℕ) → Permutes n f g → (z y : ℕ) → f z ≡ z → connected (orbit_links n f) z y ≡ true → y ≡ z
fixed-orbit n f g b z y e t = eqb-true y z (sym (orbit-kept n f g b (λ x. x == z) (λ x l h. eq-eqb (f x) z (ap f (eqb-true x z h) ∙ e)) z y t) ∙ eq-eqb z z refl)

-- what a number reaches that two steps lead back to
pair-orbit : (n : ℕ) (f g : ℕ → ℕ) → Permutes n f g → (z y : ℕ) → f (f z) ≡ z → connected (orbit_links n f) z y ≡ true → (y ≡ z) ⊎ (y ≡ f z)
pair-orbit n f g b z y e t = tell (or_cases (y == z) (y == f z) (sym (orbit-kept n f g b (λ x. (x == z) || (x == f z)) step z y t) ∙ or_left (z == z) (z == f z) (eq-eqb z z refl)))
  where
    tell : ((y == z) ≡ true) ⊎ ((y == f z) ≡ true) → (y ≡ z) ⊎ (y ≡ f z)
    tell (inl i) = inl (eqb-true y z i)
    tell (inr i) = inr (eqb-true y (f z) i)

    step : (x : ℕ) → x < n → ((x == z) || (x == f z)) ≡ true → ((f x == z) || (f x == f z)) ≡ true
    step x l h = elim (or_cases (x == z) (x == f z) h) [
      | inl i ↦ or_right (f x == z) (f x == f z) (eq-eqb (f x) (f z) (ap f (eqb-true x z i)))
      | inr i ↦ or_left (f x == z) (f x == f z) (eq-eqb (f x) z (ap f (eqb-true x (f z) i) ∙ e))
    ]

-- a bond
module _ (g : Multigraph) (nodes : List Node) (b : IsBlockTree g nodes) (k : ℕ) (is : IsNodeOfKind nodes k P) where
  -- its node
  l : k < length nodes
  l = is.0

  -- its skeleton
  abbrev graph : Multigraph
  graph = skeleton_graph nodes k

  -- how many items it has
  abbrev number : ℕ
  number = length (node_at nodes k).items

  -- all of them join two poles
  poles : HasPoles (skeleton (components nodes) k)
  poles = (kind-of g nodes b k P is).two

  -- they are three at least
  three : 3 ≤ length (node_at nodes k).items
  three = subst (λ n. 3 ≤ n) (length-map (items_of (components nodes) k) piece_ends ∙ ap length (node-pieces nodes k) ∙ length-map (node_at nodes k).items piece_of) (kind-of g nodes b k P is).three

  -- a plane rotation system of it
  module _ (s : List (List ℕ)) (system : IsRotationSystem (skeleton_graph nodes k) s) (plane : IsPlane (skeleton_graph nodes k) s) where
    -- the step around a vertex
    abbrev step : ℕ → ℕ
    step = dart_after (skeleton_graph nodes k) s

    -- its map
    map-of : IsMap (edge_count (skeleton_graph nodes k)) (dart_after (skeleton_graph nodes k) s) (dart_before (skeleton_graph nodes k) s)
    map-of = map-permutes graph s (skeleton-graph g nodes b k l) system

    -- the first dart of each item leaves the lesser pole
    first-tail : (i : ℕ) → i < length (node_at nodes k).items → tail (skeleton_graph nodes k) (2 * i) ≡ place_of (node_at nodes k).vertices (node_item nodes k 0).a
    first-tail i m = tail-place g nodes b k l (2 * i) (subst (λ n. n < number) (sym (half i)) m) ∙ ap (place_of (node_at nodes k).vertices) ((twin-end nodes k i).0 ∙ (item-ends g nodes b k l poles i m).0)
      where
        half : (n : ℕ) → (2 * n) / 2 ≡ n
        half n = omega arith

    -- and the other the greater
    second-tail : (i : ℕ) → i < length (node_at nodes k).items → tail (skeleton_graph nodes k) (twin (2 * i)) ≡ place_of (node_at nodes k).vertices (node_item nodes k 0).b
    second-tail i m = tail-place g nodes b k l (twin (2 * i)) (subst (λ n. n < number) (sym (twin-edge (2 * i) ∙ half i)) m) ∙ ap (place_of (node_at nodes k).vertices) ((twin-end nodes k i).1 ∙ (item-ends g nodes b k l poles i m).1)
      where
        half : (n : ℕ) → (2 * n) / 2 ≡ n
        half n = omega arith

    -- another item than a given one
    another : (i : ℕ) → (h : ℕ) × (h < length (node_at nodes k).items) × (h ≢ i)
    another i = elim (cases_eq i 0) [
      | inl e ↦ (1, omega (arith, three), λ q. omega (arith, e, q))
      | inr e ↦ (0, omega (arith, three), λ q. e (sym q))
    ]

    -- no dart is alone
    pub bond-moves : (z : ℕ) → z / 2 < length (node_at nodes k).items → dart_after (skeleton_graph nodes k) s z ≢ z
    bond-moves z m e = let o = another (z / 2) in elim (edge-twin z (2 * (z / 2)) (half (z / 2))) [
      | inl i ↦ o.2 (half (o.0) ∙ ap (λ x. x / 2) (fixed (2 * o.0) (fits (2 * o.0) (subst (λ n. n < number) (half o.0) o.1)) (ap (tail graph) i ∙ first-tail (z / 2) m ∙ sym (first-tail o.0 o.1))))
      | inr i ↦ o.2 (half (o.0) ∙ sym (twin-edge (2 * o.0)) ∙ ap (λ x. x / 2) (fixed (twin (2 * o.0)) (fits (twin (2 * o.0)) (subst (λ n. n < number) (half o.0 ∙ sym (twin-edge (2 * o.0))) o.1)) (ap (tail graph) i ∙ second-tail (z / 2) m ∙ sym (second-tail o.0 o.1))))
    ]
      where
        half : (n : ℕ) → n ≡ (2 * n) / 2
        half n = omega arith

        fits : (y : ℕ) → y / 2 < length (node_at nodes k).items → y < 2 * edge_count (skeleton_graph nodes k)
        fits y n = item-dart g nodes b k l y n

        fixed : (y : ℕ) → y < 2 * edge_count (skeleton_graph nodes k) → tail (skeleton_graph nodes k) z ≡ tail (skeleton_graph nodes k) y → y ≡ z
        fixed y n t = fixed-orbit (2 * edge_count graph) step (dart_before graph s) map-of z y e (tail-vertex graph s (skeleton-graph g nodes b k l) system z y (fits z m) n t)

    -- the other item of a dart's face
    abbrev pub partner : ℕ → ℕ
    partner z = dart_after (skeleton_graph nodes k) s (twin z) / 2

    -- it is one
    pub partner-in : (z : ℕ) → z / 2 < length (node_at nodes k).items → partner z < length (node_at nodes k).items
    partner-in z m = step-item g nodes b k l s system (twin z) (subst (λ n. n < number) (sym (twin-edge z)) m)

    -- and not the dart's own
    pub partner-other : (z : ℕ) → z / 2 < length (node_at nodes k).items → partner z ≢ z / 2
    partner-other z m e = elim (edge-twin (step (twin z)) (twin z) (e ∙ sym (twin-edge z))) [
      | inl i ↦ bond-moves (twin z) (subst (λ n. n < number) (sym (twin-edge z)) m) i
      | inr i ↦ loops (sym (after-tail graph s (twin z) (skeleton-graph g nodes b k l) system (twin-below (edge_count graph) z (item-dart g nodes b k l z m))) ∙ ap (tail graph) (i ∙ twin-twin z))
    ]
      where
        half : (n : ℕ) → n ≡ (2 * n) / 2
        half n = omega arith

        differ : (place_of (node_at nodes k).vertices (node_item nodes k 0).a ≡ place_of (node_at nodes k).vertices (node_item nodes k 0).b) → ⊥
        differ q = places-differ g nodes b k l poles (sym q)

        loops : tail (skeleton_graph nodes k) (twin z) ≡ tail (skeleton_graph nodes k) z → ⊥
        loops q = elim (edge-twin z (2 * (z / 2)) (half (z / 2))) [
          | inl i ↦ differ (sym (first-tail (z / 2) m) ∙ ap (tail graph) (sym i) ∙ sym q ∙ ap (λ x. tail graph (twin x)) i ∙ second-tail (z / 2) m)
          | inr i ↦ differ (sym (first-tail (z / 2) m) ∙ ap (tail graph) (sym (ap twin i ∙ twin-twin (2 * (z / 2)))) ∙ q ∙ ap (tail graph) i ∙ second-tail (z / 2) m)
        ]

    -- a face weighs at most its two items
    pub bond-weight : (w : ℕ → ℕ) (z : ℕ) → z / 2 < length (node_at nodes k).items → face_weight (skeleton_graph nodes k) s w z ≤ w (z / 2) + w (partner z)
    bond-weight w z m = sum_of-pair (2 * edge_count graph) (same_face (edge_count graph) step z) (λ y. w (y / 2)) z (step (twin z)) (item-dart g nodes b k l z m)
        (map-of.forth (twin z) (twin-below (edge_count graph) z (item-dart g nodes b k l z m)))
        (λ y n t. pair-orbit (2 * edge_count graph) (face step) (λ d. twin (dart_before graph s d)) (face-permutes (edge_count graph) step (dart_before graph s) map-of) z y
        (plane-back g nodes b k l poles s system plane z (item-dart g nodes b k l z m)) t)

-- two plane rotation systems of a skeleton that is no bond: a face of the one weighs what one of the other does, on one of the two sides of
-- the same edge
module _ (g : Multigraph) (nodes : List Node) (b : IsBlockTree g nodes) (k : ℕ) (l : k < length nodes) (s t : List (List ℕ)) (first : IsRotationSystem (skeleton_graph nodes k) s) (second : IsRotationSystem (skeleton_graph nodes k) t)
    (plane : IsPlane (skeleton_graph nodes k) s) (plane_too : IsPlane (skeleton_graph nodes k) t) where
  -- by kind
  same-weight : (kind : Kind) → (node_at nodes k).kind ≡ kind → kind ≢ P → (w : ℕ → ℕ) (d : ℕ)
      → (face_weight (skeleton_graph nodes k) t w d ≡ face_weight (skeleton_graph nodes k) s w d) ⊎ (face_weight (skeleton_graph nodes k) t w d ≡ face_weight (skeleton_graph nodes k) s w (twin d))
  same-weight S is n w d = inl (ap (λ x. face_weight (skeleton_graph nodes k) x w d) ((polygon-law g nodes b k (l, is) t second).1 s first))
  same-weight P is n w d = absurd (n refl)
  same-weight B is n w d = inl (ap (λ x. face_weight (skeleton_graph nodes k) x w d) ((small-law g nodes b k (l, is) t second).1 s first))
  same-weight R is n w d = let ok = skeleton-triconnected g nodes b k (l, is) in
      elim (two-systems (skeleton_graph nodes k) ok.0 ok.1 t s second first plane_too plane) [
        | inl e ↦ inl (ap (λ x. face_weight (skeleton_graph nodes k) x w d) e)
        | inr e ↦ inr (ap (λ x. face_weight (skeleton_graph nodes k) x w d) e ∙ mirror-weight (skeleton_graph nodes k) s (skeleton-graph g nodes b k l) first w d)
      ]

  -- whatever the kind
  pub other-weight : (node_at nodes k).kind ≢ P → (w : ℕ → ℕ) (d : ℕ)
      → (face_weight (skeleton_graph nodes k) t w d ≡ face_weight (skeleton_graph nodes k) s w d) ⊎ (face_weight (skeleton_graph nodes k) t w d ≡ face_weight (skeleton_graph nodes k) s w (twin d))
  other-weight n w d = same-weight (node_at nodes k).kind refl n w d
