-- A face chosen in each of some nodes, by one dart of it: such faces fit together.
use Rattle.std.proofs.Common.{◌≡◌, ◌≢◌, ℕ, ◌+◌, ◌*◌, ◌/◌, ◌%◌, ◌<◌, ◌⊎◌, Bool, true, false, ◌&&◌, List, length, inl, inr, sym, ap, ◌∙◌, subst, arith}
use Rattle.std.proofs.lemmas.Bool.{cases_eq, both_ways, and_from, and_parts}
use Rattle.permutations.specs.Relation.{IsEquivalence}
use Rattle.permutations.proofs.Orbits.{orbit-equivalence}
use Rattle.permutations.proofs.Relation.{same-tests}
use Rattle.multigraph.specs.Graph.{Multigraph, edge_count}
use Rattle.dart_maps.specs.Map.{twin, face, same_face}
use Rattle.dart_maps.proofs.Darts.{twin-below, twin-edge, twin-twin, twin-cases, edge-twin}
use Rattle.faces.specs.Euler.{IsPlane}
use Rattle.faces.specs.Maps.{dart_after}
use Rattle.faces.proofs.MapCounts.{plane-map}
use Rattle.pair_split.specs.Tutte.{Node, node_at, node_item}
use Rattle.pair_split.specs.declared.components.What.{What}
use Rattle.pair_split.specs.declared.components.What.TheVariants.{Real, Link}
use Rattle.skeletons.specs.Items.{IsBlockTree}
use Rattle.skeletons.specs.Families.{skeleton_graph, system_at, AreSkeletonSystems}
use Rattle.skeletons.proofs.NodeItems.{stands-of}
use Rattle.skeleton_runs.proofs.SkeletonGraph.{skeleton-graph}
use Rattle.skeleton_planes.proofs.Numbering.{coded, local_of, united}
use Rattle.skeleton_planes.proofs.Coded.{coded-below, coded-twin}
use Rattle.skeleton_planes.proofs.SkeletonDarts.{dart-item}
use Rattle.skeleton_planes.proofs.Linked.{link-company, link-no_bridge}
use Rattle.skeleton_planes.proofs.Whole.{stepped, stepped_back, dart-fits, whole-map, whole-plane}
use Rattle.skeleton_faces.specs.Faces.{on_one_face, skeleton_weight, IsSkeletonDart, AreAcross}
use Rattle.skeleton_faces.specs.Demands.{AreDemands}
use Rattle.skeleton_faces.proofs.FaceSums.{face_sum-one}
use Rattle.skeleton_faces.proofs.TwoFaces.{two-faces}
use Rattle.skeleton_faces.proofs.BlockFaces.{numbered-face}
use Rattle.skeleton_faces.proofs.InSkeletons.{skeleton-inside}

-- a link leads to one node
same-far : (x y : ℕ) → Link x ≡ Link y → x ≡ y
same-far x y e = ap far e
  where
    far : What → ℕ
    far (Real n) = 0
    far (Link n) = n

-- twins of darts of one parity are of one parity
parity : {d e : ℕ} → ((d % 2 ≡ 0) × (twin d ≡ d + 1)) ⊎ ((d % 2 ≡ 1) × (twin d + 1 ≡ d)) → ((e % 2 ≡ 0) × (twin e ≡ e + 1)) ⊎ ((e % 2 ≡ 1) × (twin e + 1 ≡ e)) → d % 2 ≡ e % 2 → twin d % 2 ≡ twin e % 2
parity (inl a) (inl c) q = omega (arith, a.0, a.1, c.0, c.1)
parity (inl a) (inr c) q = absurd (omega (arith, a.0, c.0, q))
parity (inr a) (inl c) q = absurd (omega (arith, a.0, c.0, q))
parity (inr a) (inr c) q = omega (arith, a.0, a.1, c.0, c.1)

-- an edge and a side determine the dart
same-dart : (d e : ℕ) → d / 2 ≡ e / 2 → d % 2 ≡ e % 2 → d ≡ e
same-dart d e h p = omega (arith, h, p)

-- a face chosen in each of some nodes, by a dart of it: of each other node than the top the dart of a link to a node that is nearer to
-- the top. Of the other links each of which a dart is on the face leads to a node the face of which is chosen by the opposite dart of the link back
pub record AreChosen (nodes : List Node) (family : List (List (List ℕ))) (weight : ℕ → ℕ → ℕ) (top len : ℕ) (is_on : ℕ → Bool) (dart rank : ℕ → ℕ) : Type 0 where
  pub top_on : (top < length nodes) × (is_on top ≡ true)
  pub darts : (k : ℕ) → k < length nodes → is_on k ≡ true → IsSkeletonDart nodes k (dart k)
  pub at_top : skeleton_weight nodes family weight top (dart top) ≡ len
  pub down : (k x j e : ℕ) → AreAcross nodes k x j e → is_on k ≡ true → on_one_face (skeleton_graph nodes k) (system_at family k) (dart k) x ≡ true → (k ≡ top) ⊎ (x / 2 ≢ dart k / 2) → (is_on j ≡ true) × (dart j ≡ twin e) × (j ≢ top)
  pub up : (k : ℕ) → k < length nodes → is_on k ≡ true → k ≢ top → (j : ℕ) × (e : ℕ) × AreAcross nodes k (dart k) j e × (is_on j ≡ true) × (on_one_face (skeleton_graph nodes j) (system_at family j) (dart j) (twin e) ≡ true) × (rank j < rank k)
      × (skeleton_weight nodes family weight k (dart k) ≡ weight k (dart k / 2) + weight j (e / 2))

module _ (g : Multigraph) (nodes : List Node) (b : IsBlockTree g nodes) (family : List (List (List ℕ))) (systems : AreSkeletonSystems nodes family) (plane : (k : ℕ) → k < length nodes → IsPlane (skeleton_graph nodes k) (system_at family k)) where
  -- the two darts of a link are on two faces
  pub link-two : (k d j e : ℕ) → AreAcross nodes k d j e → on_one_face (skeleton_graph nodes k) (system_at family k) d (twin d) ≡ false
  link-two k d j e a =
      let l = a.first.0 in
      let m = dart-item g nodes b k l d (a.first.1) in
      let flat = whole-plane g nodes b family systems (λ k l. plane-map (skeleton_graph nodes k) (system_at family k) (skeleton-graph g nodes b k l) (systems.systems k l) (plane k l)) in
      numbered-face (edge_count (skeleton_graph nodes k)) (dart_after (skeleton_graph nodes k) (system_at family k)) size whole _ (coded width k) (local_of width) (skeleton-inside g nodes b family systems k l) d (twin d) (a.first.1) (twin-below (edge_count (skeleton_graph nodes k)) d (a.first.1))
      ∙ ap (same_face size whole (coded width k d)) (coded-twin width k d)
      ∙ two-faces size whole (united width (stepped_back nodes family)) (whole-map g nodes b family systems) flat (coded width k d) (coded-below width (length nodes) k d l (dart-fits g nodes b family systems k d l m))
      (link-company g nodes b family systems k l d j m a.to) (link-no_bridge g nodes b family systems k l d j m a.to)
    where
      width : ℕ
      width = edge_count g

      size : ℕ
      size = edge_count g * length nodes

      whole : ℕ → ℕ
      whole = united (edge_count g) (stepped nodes family)

  -- across a link, from the other side
  pub turned-across : (k d j e : ℕ) → AreAcross nodes k d j e → AreAcross nodes j (twin e) k (twin d)
  turned-across k d j e a = record {
    first = (a.second.0, twin-below (edge_count (skeleton_graph nodes j)) e (a.second.1));
    second = (a.first.0, twin-below (edge_count (skeleton_graph nodes k)) d (a.first.1));
    to = ap (λ x. (node_item nodes j x).what) (twin-edge e) ∙ a.from;
    from = ap (λ x. (node_item nodes k x).what) (twin-edge d) ∙ a.to;
    end = parity (twin-cases e) (twin-cases d) (sym a.end);
  }

  -- what is across a dart is one dart
  pub across-once : (k d j e i h : ℕ) → AreAcross nodes k d j e → AreAcross nodes k d i h → (j ≡ i) × (e ≡ h)
  across-once k d j e i h a c = let q : j ≡ i = same-far j i (sym a.to ∙ c.to) in (
    q,
    same-dart e h
        (b.tree.split.linked.once j k (e / 2) (h / 2) (stands-of g nodes b.tree j (e / 2) (Link k) (dart-item g nodes b j (a.second.0) e (a.second.1)) a.from)
        (stands-of g nodes b.tree j (h / 2) (Link k) (subst (λ n. h / 2 < length (node_at nodes n).items) (sym q) (dart-item g nodes b i (c.second.0) h (c.second.1))) (ap (λ n. (node_item nodes n (h / 2)).what) q ∙ c.from)))
        (sym a.end ∙ c.end),
  )

  -- faces chosen so
  module _ (weight : ℕ → ℕ → ℕ) (top len : ℕ) (is_on : ℕ → Bool) (dart rank : ℕ → ℕ) (c : AreChosen nodes family weight top len is_on dart rank) where
    -- the chosen darts
    abbrev pub chosen : ℕ → ℕ → Bool
    chosen k x = is_on k && on_one_face (skeleton_graph nodes k) (system_at family k) (dart k) x

    -- being on one face
    alike : (k : ℕ) → IsEquivalence (on_one_face (skeleton_graph nodes k) (system_at family k))
    alike k = orbit-equivalence (2 * edge_count (skeleton_graph nodes k)) (face (dart_after (skeleton_graph nodes k) (system_at family k)))

    own : (k : ℕ) → is_on k ≡ true → chosen k (dart k) ≡ true
    own k h = and_from (is_on k) (on_one_face (skeleton_graph nodes k) (system_at family k) (dart k) (dart k)) h ((alike k).reflexive (dart k))

    -- a chosen dart of a link is opposite a chosen dart of the link back
    forward : (k d j e : ℕ) → AreAcross nodes k d j e → chosen k d ≡ true → chosen j (twin e) ≡ true
    forward k d j e a h = elim (cases_eq k top) [
      | inl q ↦ below (inl q)
      | inr n ↦ elim (cases_eq (d / 2) (dart k / 2)) [ inl q ↦ above n q | inr m ↦ below (inr m) ]
    ]
      where
        parts : (is_on k ≡ true) × (on_one_face (skeleton_graph nodes k) (system_at family k) (dart k) d ≡ true)
        parts = and_parts (is_on k) (on_one_face (skeleton_graph nodes k) (system_at family k) (dart k) d) h

        below : (k ≡ top) ⊎ (d / 2 ≢ dart k / 2) → chosen j (twin e) ≡ true
        below v = let w = c.down k d j e a parts.0 parts.1 v in subst (λ z. chosen j z ≡ true) w.1 (own j w.0)

        above : k ≢ top → d / 2 ≡ dart k / 2 → chosen j (twin e) ≡ true
        above n q = let w = c.up k (a.first.0) parts.0 n in elim (edge-twin d (dart k) q) [
          | inl s ↦
              let o = across-once k d j e w.0 w.1 a (subst (λ z. AreAcross nodes k z w.0 w.1) (sym s) w.2) in
              subst (λ x. chosen x (twin e) ≡ true) (sym o.0) (subst (λ x. chosen w.0 (twin x) ≡ true) (sym o.1) (and_from (is_on w.0) (on_one_face (skeleton_graph nodes w.0) (system_at family w.0) (dart w.0) (twin w.1)) w.3 w.4))
          | inr s ↦ absurd (both_ways (on_one_face (skeleton_graph nodes k) (system_at family k) (dart k) (twin (dart k))) (link-two k (dart k) w.0 w.1 w.2) (subst (λ z. on_one_face (skeleton_graph nodes k) (system_at family k) (dart k) z ≡ true) s parts.1))
        ]

    -- the faces fit together
    pub demands : AreDemands nodes family weight top len is_on chosen dart rank
    demands = record {
      top_on = c.top_on;
      some = λ k l h. (dart k, c.darts k l h, own k h);
      node_on = λ k d s h. (and_parts (is_on k) (on_one_face (skeleton_graph nodes k) (system_at family k) (dart k) d) h).0;
      faces = λ k d e s t h. let p = and_parts (is_on k) (on_one_face (skeleton_graph nodes k) (system_at family k) (dart k) d) h in
          ap (λ (z : Bool). z && on_one_face (skeleton_graph nodes k) (system_at family k) (dart k) e) p.0
          ∙ same-tests (on_one_face (skeleton_graph nodes k) (system_at family k) (dart k) e) (on_one_face (skeleton_graph nodes k) (system_at family k) d e)
          (λ u. (alike k).transitive d (dart k) e ((alike k).symmetric (dart k) d p.1) u) (λ u. (alike k).transitive (dart k) d e p.1 u);
      across = λ k d j e a. same-tests (chosen k d) (chosen j (twin e)) (forward k d j e a) (λ h. subst (λ z. chosen k z ≡ true) (twin-twin d) (forward j (twin e) k (twin d) (turned-across k d j e a) h));
      at_top = λ d s h. sym (weighs top d h) ∙ c.at_top;
      upward = λ k l h n. let w = c.up k l h n in (w.0, w.1, w.2, own k h, w.5, λ d s o. sym (weighs k d o) ∙ w.6);
      only = λ k d j e a h. elim (cases_eq k top) [
        | inl q ↦ inr (opposite k d j e a h (inl q))
        | inr n ↦ elim (cases_eq (dart k / 2) (d / 2)) [ inl q ↦ inl (n, q) | inr m ↦ inr (opposite k d j e a h (inr (λ z. m (sym z)))) ]
      ];
    }
      where
        weighs : (k d : ℕ) → chosen k d ≡ true → skeleton_weight nodes family weight k (dart k) ≡ skeleton_weight nodes family weight k d
        weighs k d h = face_sum-one (edge_count (skeleton_graph nodes k)) (dart_after (skeleton_graph nodes k) (system_at family k)) (λ y. weight k (y / 2)) (dart k) d
            (and_parts (is_on k) (on_one_face (skeleton_graph nodes k) (system_at family k) (dart k) d) h).1

        opposite : (k d j e : ℕ) → AreAcross nodes k d j e → chosen k d ≡ true → (k ≡ top) ⊎ (d / 2 ≢ dart k / 2) → (j ≢ top) × (dart j / 2 ≡ e / 2)
        opposite k d j e a h v =
            let p = and_parts (is_on k) (on_one_face (skeleton_graph nodes k) (system_at family k) (dart k) d) h in
            let w = c.down k d j e a p.0 p.1 v in
            (w.2, ap (λ z. z / 2) w.1 ∙ twin-edge e)
