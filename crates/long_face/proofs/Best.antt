-- The heaviest face of a dart that is asked for weighs as much as the link and the link back.
use Rattle.std.proofs.Common.{◌≡◌, ◌≢◌, ℕ, ◌+◌, ◌*◌, ◌/◌, ◌<◌, ◌≤◌, ◌⊎◌, Bool, true, false, cond, List, length, inl, inr, refl, sym, ap, ◌∙◌, subst, arith}
use Rattle.std.proofs.lemmas.Bool.{cases_Bool, true≢false}
use Rattle.multigraph.specs.Graph.{Multigraph}
use Rattle.rotations.specs.Rotation.{IsRotationSystem}
use Rattle.rotations.specs.Runs.{mirror_image}
use Rattle.dart_maps.specs.Map.{twin}
use Rattle.dart_maps.proofs.Darts.{twin-edge, twin-twin, edge-twin}
use Rattle.faces.specs.Euler.{IsPlane, dart_count}
use Rattle.faces.proofs.MapMirror.{mirror-system}
use Rattle.pair_split.specs.Tutte.{Node, node_at}
use Rattle.pair_split.specs.declared.components.Kind.{Kind}
use Rattle.pair_split.specs.declared.components.Kind.TheVariants.{S, P, R, B}
use Rattle.skeletons.specs.Items.{IsBlockTree}
use Rattle.skeletons.specs.Families.{skeleton_graph, system_at, AreSkeletonSystems}
use Rattle.skeleton_runs.proofs.SkeletonGraph.{skeleton-graph}
use Rattle.skeleton_planes.proofs.SkeletonDarts.{dart-item, item-dart}
use Rattle.skeleton_planes.proofs.OneSystem.{polygon-law, small-law}
use Rattle.skeleton_faces.specs.Faces.{face_weight, skeleton_weight, IsSkeletonDart, AreAcross}
use Rattle.skeleton_faces.specs.Tables.{IsTable}
use Rattle.skeleton_faces.proofs.EachFamily.{mirror-weight}
use Rattle.long_face.specs.Wanted.{Want, wanted_weight}
use Rattle.long_face.specs.Settled.{IsBest}
use Rattle.long_face.specs.Heaviest.{IsHeaviest, IsGreatest}
use Rattle.long_face.proofs.Chosen.{turned-across}

-- of two kinds
abbrev is_bond : Kind → Bool
is_bond S = false
is_bond P = true
is_bond R = false
is_bond B = false

-- a bond is not triconnected
pub two-kinds : (kind : Kind) → kind ≡ P → kind ≡ R → ⊥
two-kinds kind e q = true≢false (sym (ap is_bond e) ∙ ap is_bond q)

module _ (g : Multigraph) (nodes : List Node) (b : IsBlockTree g nodes) (family : List (List (List ℕ))) (systems : AreSkeletonSystems nodes family) (plane : (k : ℕ) → k < length nodes → IsPlane (skeleton_graph nodes k) (system_at family k))
    (weight : ℕ → ℕ → ℕ) (most : ℕ) (table : IsTable nodes family weight most) where
  -- both faces of an edge of a polygon or a small node weigh the same
  flat : (k : ℕ) → k < length nodes → ((t : List (List ℕ)) → IsRotationSystem (skeleton_graph nodes k) t → system_at family k ≡ t) → (w : ℕ → ℕ) (d : ℕ) → face_weight (skeleton_graph nodes k) (system_at family k) w d ≡ face_weight (skeleton_graph nodes k) (system_at family k) w (twin d)
  flat k l one w d = ap (λ t. face_weight (skeleton_graph nodes k) t w d) (one (mirror_image (system_at family k)) (mirror-system (skeleton_graph nodes k) (system_at family k) (systems.systems k l)))
      ∙ mirror-weight (skeleton_graph nodes k) (system_at family k) (skeleton-graph g nodes b k l) (systems.systems k l) w d

  -- a node k and the node p across the link of dart x of p, with what is reached there
  module _ (p x k e : ℕ) (a : AreAcross nodes p x k e)
      (links : (node_at nodes k).kind ≢ P → (z : ℕ) × IsSkeletonDart nodes k z × (z / 2 ≡ e / 2) × (skeleton_weight nodes family weight k z ≡ weight k (e / 2) + weight p (x / 2)))
      (bond_links : (node_at nodes k).kind ≡ P → (h : ℕ) × (h < length (node_at nodes k).items) × (h ≢ e / 2) × (weight k h ≡ weight p (x / 2)))
      (w : Want) (sum : ℕ → ℕ) (sums : (d : ℕ) → d < dart_count (skeleton_graph nodes k) → sum d ≡ skeleton_weight nodes family weight k d)
      (o : IsHeaviest (node_at nodes k).kind (length (node_at nodes k).items) (weight k) sum (twin e) w) where
    -- the node
    l : k < length nodes
    l = a.second.0

    -- across from the node
    back : AreAcross nodes k (twin e) p (twin x)
    back = turned-across g nodes b family systems plane p x k e a

    -- the item of the dart
    item : w.dart / 2 ≡ e / 2
    item = ap (λ z. z / 2) o.same ∙ twin-edge e

    -- a dart of the link on the side of the node
    other-side : (d : ℕ) → (d ≡ twin e) ⊎ (d ≡ e) → (d < dart_count (skeleton_graph nodes k)) × ((node_at nodes k).kind ≢ P → skeleton_weight nodes family weight k d ≤ weight k (e / 2) + weight p (x / 2))
    other-side d (inl q) = (
      subst (λ z. z < dart_count (skeleton_graph nodes k)) (sym q) back.first.1,
      λ n. subst (λ z. skeleton_weight nodes family weight k z ≤ weight k (e / 2) + weight p (x / 2)) (sym q)
          (subst (λ z. skeleton_weight nodes family weight k (twin e) ≤ weight k z + weight p (x / 2)) (twin-edge e) (subst (λ z. skeleton_weight nodes family weight k (twin e) ≤ weight k (twin e / 2) + weight p z) (twin-edge x) (table.links k (twin e) p (twin x) back n))),
    )
    other-side d (inr q) = (
      subst (λ z. z < dart_count (skeleton_graph nodes k)) (sym q) a.second.1,
      λ n. subst (λ z. skeleton_weight nodes family weight k z ≤ weight k (e / 2) + weight p (x / 2)) (sym q)
          (table.links k e p x (record { first = a.second; second = a.first; to = a.from; from = a.to; end = sym a.end }) n),
    )

    -- the two darts
    two-darts : (z : ℕ) → z / 2 ≡ e / 2 → (z ≡ twin e) ⊎ (z ≡ e)
    two-darts z q = elim (edge-twin z e q) [ inl i ↦ inr i | inr i ↦ inl i ]

    -- the heavier one reaches the bound
    heavier : (d : ℕ) → (d ≡ twin e) ⊎ (d ≡ e) → (node_at nodes k).kind ≢ P → skeleton_weight nodes family weight k (twin e) ≤ skeleton_weight nodes family weight k d → skeleton_weight nodes family weight k e ≤ skeleton_weight nodes family weight k d
        → skeleton_weight nodes family weight k d ≡ weight k (e / 2) + weight p (x / 2)
    heavier d s n u v = let m = links n in
        elim (two-darts m.0 m.2) [
          | inl q ↦ omega (arith, (other-side d s).1 n, subst (λ z. skeleton_weight nodes family weight k z ≡ weight k (e / 2) + weight p (x / 2)) q m.3, u)
          | inr q ↦ omega (arith, (other-side d s).1 n, subst (λ z. skeleton_weight nodes family weight k z ≡ weight k (e / 2) + weight p (x / 2)) q m.3, v)
        ]

    -- both sides weigh the same
    level : (kind : Kind) → (node_at nodes k).kind ≡ kind → kind ≢ P → skeleton_weight nodes family weight k (twin e) ≡ skeleton_weight nodes family weight k e → skeleton_weight nodes family weight k w.dart ≡ weight k (e / 2) + weight p (x / 2)
    level kind q n s = ap (skeleton_weight nodes family weight k) o.same ∙ heavier (twin e) (inl refl) (λ i. n (sym q ∙ i)) (omega arith) (omega (arith, s))

    both : (one : (t : List (List ℕ)) → IsRotationSystem (skeleton_graph nodes k) t → system_at family k ≡ t) → skeleton_weight nodes family weight k (twin e) ≡ skeleton_weight nodes family weight k e
    both one = flat k l one (weight k) (twin e) ∙ ap (skeleton_weight nodes family weight k) (twin-twin e)

    weighs : (kind : Kind) → (node_at nodes k).kind ≡ kind → wanted_weight kind (skeleton_graph nodes k) (system_at family k) (weight k) w ≡ weight k (e / 2) + weight p (x / 2)
    weighs S q = level S q (λ i. true≢false (sym (ap is_bond i))) (both ((polygon-law g nodes b k (l, q) (system_at family k) (systems.systems k l)).1))
    weighs B q = level B q (λ i. true≢false (sym (ap is_bond i))) (both ((small-law g nodes b k (l, q) (system_at family k) (systems.systems k l)).1))
    weighs P q =
        let m = o.reached q in
        let h = bond_links q in
        let high : weight k (twin e / 2) + weight k h.0 ≤ weight k w.first + weight k w.second = o.bounds q h.0 h.1 (λ i. h.2 (i ∙ twin-edge e)) in
        let low : weight k m.0 ≤ weight p (twin x / 2) = table.bond_links k (twin e) p (twin x) back q m.0 m.1 m.2 in
        omega (arith, high, low, m.3, h.3, ap (weight k) (twin-edge e), ap (weight p) (twin-edge x))
    weighs R q =
        let n : (node_at nodes k).kind ≢ P = λ i. true≢false (sym (ap is_bond (sym q ∙ i))) in
        let s = o.sides q in
        elim (cases_Bool w.turned) [
          | inl t ↦
              let u : (sum (twin e) ≤ sum (twin (twin e))) × (sum (twin (twin e)) ≤ sum (twin (twin e))) = subst (λ (z : Bool). (sum (twin e) ≤ sum (cond z (twin (twin e)) (twin e))) × (sum (twin (twin e)) ≤ sum (cond z (twin (twin e)) (twin e)))) t s in
              let u0 : sum (twin e) ≤ sum e = subst (λ z. sum (twin e) ≤ sum z) (twin-twin e) u.0 in
              ap (λ (z : Bool). skeleton_weight nodes family weight k (cond z (twin w.dart) w.dart)) t ∙ ap (λ z. skeleton_weight nodes family weight k (twin z)) o.same ∙ ap (skeleton_weight nodes family weight k) (twin-twin e)
              ∙ heavier e (inr refl) n (omega (arith, u0, sums (twin e) (back.first.1), sums e (a.second.1))) (omega arith)
          | inr t ↦
              let u : (sum (twin e) ≤ sum (twin e)) × (sum (twin (twin e)) ≤ sum (twin e)) = subst (λ (z : Bool). (sum (twin e) ≤ sum (cond z (twin (twin e)) (twin e))) × (sum (twin (twin e)) ≤ sum (cond z (twin (twin e)) (twin e)))) t s in
              let u0 : sum e ≤ sum (twin e) = subst (λ z. sum z ≤ sum (twin e)) (twin-twin e) u.1 in
              ap (λ (z : Bool). skeleton_weight nodes family weight k (cond z (twin w.dart) w.dart)) t ∙ ap (skeleton_weight nodes family weight k) o.same
              ∙ heavier (twin e) (inl refl) n (omega arith) (omega (arith, u0, sums (twin e) (back.first.1), sums e (a.second.1)))
        ]

    -- so it is the best
    pub best-below : IsBest nodes family weight k w (weight k (w.dart / 2) + weight p (x / 2))
    best-below = record { pairs = o.pair; weighs = weighs (node_at nodes k).kind refl ∙ ap (λ z. weight k z + weight p (x / 2)) (sym item) }

  -- the top
  module _ (top : ℕ) (l : top < length nodes) (w : Want) (sum : ℕ → ℕ) (sums : (d : ℕ) → d < dart_count (skeleton_graph nodes top) → sum d ≡ skeleton_weight nodes family weight top d)
      (face : (node_at nodes top).kind ≢ P → (d : ℕ) × IsSkeletonDart nodes top d × (skeleton_weight nodes family weight top d ≡ most))
      (pair : (node_at nodes top).kind ≡ P → (i : ℕ) × (h : ℕ) × (i < length (node_at nodes top).items) × (h < length (node_at nodes top).items) × (i ≢ h) × (weight top i + weight top h ≡ most))
      (o : IsGreatest (node_at nodes top).kind (length (node_at nodes top).items) (weight top) sum w) where
    -- the dart exists
    pub top-dart : IsSkeletonDart nodes top w.dart
    top-dart = (l, item-dart g nodes b top l w.dart (half w.dart (length (node_at nodes top).items) o.dart_in))
      where
        half : (d n : ℕ) → d < 2 * n → d / 2 < n
        half d n m = omega (arith, m)

    -- its heaviest dart
    single : (node_at nodes top).kind ≢ P → skeleton_weight nodes family weight top w.dart ≡ most
    single n = let d = face n in
        omega (arith, o.heaviest n d.0 (few d.0 (dart-item g nodes b top l d.0 (d.1.1))), sums d.0 (d.1.1), sums w.dart (top-dart.1), d.2, table.faces top w.dart top-dart n)
      where
        few : (d : ℕ) → d / 2 < length (node_at nodes top).items → d < 2 * length (node_at nodes top).items
        few d m = omega (arith, m)

    most-weighs : (kind : Kind) → (node_at nodes top).kind ≡ kind → wanted_weight kind (skeleton_graph nodes top) (system_at family top) (weight top) w ≡ most
    most-weighs S q = single (λ i. true≢false (sym (ap is_bond (sym q ∙ i))))
    most-weighs B q = single (λ i. true≢false (sym (ap is_bond (sym q ∙ i))))
    most-weighs R q = ap (λ (z : Bool). skeleton_weight nodes family weight top (cond z (twin w.dart) w.dart)) o.flat ∙ single (λ i. true≢false (sym (ap is_bond (sym q ∙ i))))
    most-weighs P q = let m = pair q in let u = o.pair q in
        let low : weight top m.0 + weight top m.1 ≤ weight top w.first + weight top w.second = o.pairs q m.0 m.1 m.2 m.3 m.4 in
        let high : weight top w.first + weight top w.second ≤ most = table.bonds top w.first w.second l q u.first_in u.second_in u.two in
        omega (arith, low, high, m.5)

    pub best-top : IsBest nodes family weight top w most
    best-top = record { pairs = o.pair; weighs = most-weighs (node_at nodes top).kind refl }
