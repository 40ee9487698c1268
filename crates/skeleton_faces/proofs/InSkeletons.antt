-- The faces of the skeletons in the map of all of them side by side.
use Rattle.std.proofs.Common.{◌≡◌, ℕ, ◌+◌, ◌*◌, ◌/◌, ◌<◌, ◌≤◌, Bool, true, false, ◌&&◌, ◌==◌, cond, ltb, List, length, inl, inr, sym, ap, ap₂, ◌∙◌, subst, arith, eq-eqb, eqb-true, lt-ltb, ltb-true, le-ltb}
use Rattle.std.proofs.lemmas.Bool.{cases_Bool, cases_lt, and_from, and_parts, both_ways}
use Rattle.permutations.proofs.Relation.{same-tests}
use Rattle.multigraph.specs.Graph.{Multigraph, edge_count}
use Rattle.dart_maps.specs.Map.{twin}
use Rattle.dart_maps.proofs.Darts.{twin-below, twin-twin, twin-edge}
use Rattle.faces.specs.Maps.{dart_after}
use Rattle.pair_split.specs.Tutte.{Node, node_at}
use Rattle.skeletons.specs.Items.{IsBlockTree}
use Rattle.skeletons.specs.Families.{skeleton_graph, system_at, AreSkeletonSystems}
use Rattle.skeleton_planes.proofs.Numbering.{coded, part_of, local_of, united}
use Rattle.skeleton_planes.proofs.RunTests.{is_dart}
use Rattle.skeleton_planes.proofs.Coded.{part-coded, local-coded, coded-local, coded-below, coded-twin, part-twin, local-twin}
use Rattle.skeleton_planes.proofs.SkeletonDarts.{dart-item, skeleton-map}
use Rattle.skeleton_planes.proofs.Whole.{stepped, dart-fits, whole-part, whole-local, whole-coded}
use Rattle.skeleton_faces.specs.Faces.{skeleton_weight}
use Rattle.skeleton_faces.proofs.FaceSums.{face_sum}
use Rattle.skeleton_faces.proofs.BlockFaces.{IsInside, inside-sum}

-- the weight of a dart of the map of all skeletons: that of its item, and nothing where there is none
abbrev pub dart_weight : ℕ → List Node → (ℕ → ℕ → ℕ) → ℕ → ℕ
dart_weight width nodes weight x = cond (is_dart nodes (part_of width x) (local_of width x)) (weight (part_of width x) (local_of width x / 2)) 0

-- a block with its tree and a family
module _ (g : Multigraph) (nodes : List Node) (b : IsBlockTree g nodes) (family : List (List (List ℕ))) (systems : AreSkeletonSystems nodes family) where
  -- room
  abbrev width : ℕ
  width = edge_count g

  -- node k
  module _ (k : ℕ) (l : k < length nodes) where
    -- how many darts its skeleton has
    abbrev darts : ℕ
    darts = 2 * edge_count (skeleton_graph nodes k)

    -- its darts in the whole
    abbrev lives : ℕ → Bool
    lives x = (part_of (edge_count g) x == k) && ltb (local_of (edge_count g) x) (2 * edge_count (skeleton_graph nodes k))

    -- a dart has room
    fits : (z : ℕ) → z < 2 * edge_count (skeleton_graph nodes k) → z < 2 * edge_count g
    fits z i = dart-fits g nodes b family systems k z l (dart-item g nodes b k l z i)

    -- a live dart
    lives-parts : (x : ℕ) → lives x ≡ true → (part_of (edge_count g) x ≡ k) × (local_of (edge_count g) x < 2 * edge_count (skeleton_graph nodes k))
    lives-parts x h = let p = and_parts (part_of width x == k) (ltb (local_of width x) darts) h in (eqb-true (part_of width x) k p.0, ltb-true (local_of width x) darts p.1)

    -- it is one
    lives-from : (x : ℕ) → part_of (edge_count g) x ≡ k → local_of (edge_count g) x < 2 * edge_count (skeleton_graph nodes k) → lives x ≡ true
    lives-from x p i = and_from (part_of width x == k) (ltb (local_of width x) darts) (eq-eqb (part_of width x) k p) (lt-ltb (local_of width x) darts i)

    -- what follows another dart is another
    lives-back : (x : ℕ) → x < 2 * (edge_count g * length nodes) → lives (united (edge_count g) (stepped nodes family) x) ≡ true → lives x ≡ true
    lives-back x i h = let p = lives-parts (united width (stepped nodes family) x) h in
        let here : part_of width x ≡ k = sym (whole-part g nodes b family systems x i) ∙ p.0 in
        elim (cases_lt (local_of width x) darts) [
          | inl j ↦ lives-from x here j
          | inr j ↦ absurd (none (local_of width x) darts j (subst (λ n. n < darts) (whole-local g nodes b family systems x i ∙ out here j) p.1))
        ]
      where
        none : (a c : ℕ) → c ≤ a → a < c → ⊥
        none a c u v = omega (arith, u, v)

        out : part_of (edge_count g) x ≡ k → 2 * edge_count (skeleton_graph nodes k) ≤ local_of (edge_count g) x → stepped nodes family (part_of (edge_count g) x) (local_of (edge_count g) x) ≡ local_of (edge_count g) x
        out q u = ap (λ n. stepped nodes family n (local_of width x)) q ∙ ap (λ (t : Bool). cond t (dart_after (skeleton_graph nodes k) (system_at family k) (local_of width x)) (local_of width x)) (le-ltb (local_of width x) darts u)

    -- the map of the skeleton within that of all
    pub skeleton-inside : IsInside (edge_count (skeleton_graph nodes k)) (dart_after (skeleton_graph nodes k) (system_at family k)) (edge_count g * length nodes) (united (edge_count g) (stepped nodes family))
        (λ x. (part_of (edge_count g) x == k) && ltb (local_of (edge_count g) x) (2 * edge_count (skeleton_graph nodes k))) (coded (edge_count g) k) (local_of (edge_count g))
    skeleton-inside = record {
      whole_edges = λ x i. ap₂ (λ a c. (a == k) && c) (part-twin width x) (ap (λ n. ltb n darts) (local-twin width x) ∙ same-tests (ltb (twin (local_of width x)) darts) (ltb (local_of width x) darts)
          (λ h. lt-ltb (local_of width x) darts (subst (λ n. n < darts) (twin-twin (local_of width x)) (twin-below (edge_count (skeleton_graph nodes k)) (twin (local_of width x)) (ltb-true (twin (local_of width x)) darts h))))
          (λ h. lt-ltb (twin (local_of width x)) darts (twin-below (edge_count (skeleton_graph nodes k)) (local_of width x) (ltb-true (local_of width x) darts h))));
      others = λ x i h. not-so (lives x) (lives (united width (stepped nodes family) x)) h (lives-back x i);
      darts = λ z i. coded-below width (length nodes) k z l (fits z i);
      lives = λ z i. lives-from (coded width k z) (part-coded width k z (fits z i)) (subst (λ n. n < darts) (sym (local-coded width k z (fits z i))) i);
      darts_back = λ x i h. (lives-parts x h).1;
      into_back = λ x i h. ap (λ n. coded width n (local_of width x)) (sym (lives-parts x h).0) ∙ coded-local width x;
      back_into = λ z i. local-coded width k z (fits z i);
      twins = λ z i. coded-twin width k z;
      steps = λ z i. sym (whole-coded g nodes b family systems k z l (dart-item g nodes b k l z i));
      stay = λ z i. (skeleton-map g nodes b k l (system_at family k) (systems.systems k l)).forth z i;
    }
      where
        not-so : (s t : Bool) → s ≡ false → (t ≡ true → s ≡ true) → t ≡ false
        not-so s t h f = elim (cases_Bool t) [ inl i ↦ absurd (both_ways s h (f i)) | inr i ↦ i ]

    -- the weight of a face of the skeleton, in the map of all
    pub skeleton-sum : (weight : ℕ → ℕ → ℕ) (z : ℕ) → z < 2 * edge_count (skeleton_graph nodes k)
        → skeleton_weight nodes family weight k z ≡ face_sum (edge_count g * length nodes) (united (edge_count g) (stepped nodes family)) (dart_weight (edge_count g) nodes weight) (coded (edge_count g) k z)
    skeleton-sum weight z i = inside-sum (edge_count (skeleton_graph nodes k)) (dart_after (skeleton_graph nodes k) (system_at family k)) (edge_count g * length nodes) (united width (stepped nodes family)) lives (coded width k) (local_of width)
        skeleton-inside (λ y. weight k (y / 2)) (dart_weight width nodes weight) (λ x j. sym (at x j)) z i
      where
        at : (x : ℕ) → x < 2 * edge_count (skeleton_graph nodes k) → dart_weight (edge_count g) nodes weight (coded (edge_count g) k x) ≡ weight k (x / 2)
        at x j = ap₂ (λ a c. cond (is_dart nodes a c) (weight a (c / 2)) 0) (part-coded width k x (fits x j)) (local-coded width k x (fits x j))
            ∙ ap (λ (t : Bool). cond t (weight k (x / 2)) 0) (lt-ltb (x / 2) (length (node_at nodes k).items) (dart-item g nodes b k l x j))

    -- the weight of a dart of an item
    pub weight-coded : (weight : ℕ → ℕ → ℕ) (z : ℕ) → z / 2 < length (node_at nodes k).items → dart_weight (edge_count g) nodes weight (coded (edge_count g) k z) ≡ weight k (z / 2)
    weight-coded weight z i = ap₂ (λ a c. cond (is_dart nodes a c) (weight a (c / 2)) 0) (part-coded width k z (dart-fits g nodes b family systems k z l i)) (local-coded width k z (dart-fits g nodes b family systems k z l i))
        ∙ ap (λ (t : Bool). cond t (weight k (z / 2)) 0) (lt-ltb (z / 2) (length (node_at nodes k).items) i)

-- twins weigh the same
pub weight-twin : (width : ℕ) (nodes : List Node) (weight : ℕ → ℕ → ℕ) (x : ℕ) → dart_weight width nodes weight (twin x) ≡ dart_weight width nodes weight x
weight-twin width nodes weight x = ap₂ (λ a n. cond (ltb n (length (node_at nodes a).items)) (weight a n) 0) (part-twin width x) (ap (λ u. u / 2) (local-twin width x) ∙ twin-edge (local_of width x))
