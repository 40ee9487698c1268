-- Weights that bound the faces in one family of plane rotation systems of the skeletons bound them in all.
use Rattle.std.proofs.Common.{◌≡◌, ◌≢◌, ℕ, ◌+◌, ◌*◌, ◌/◌, ◌%◌, ◌<◌, ◌≤◌, ◌⊎◌, Bool, true, false, List, length, inl, inr, refl, sym, ap, ◌∙◌, subst, arith}
use Rattle.std.proofs.lemmas.Bool.{true≢false}
use Rattle.multigraph.specs.Graph.{Multigraph, edge_count}
use Rattle.dart_maps.specs.Map.{twin}
use Rattle.dart_maps.proofs.Darts.{twin-below, twin-edge, twin-cases}
use Rattle.faces.specs.Euler.{IsPlane}
use Rattle.pair_split.specs.Tutte.{Node, node_at, node_item}
use Rattle.pair_split.specs.declared.components.Kind.{Kind}
use Rattle.pair_split.specs.declared.components.Kind.TheVariants.{S, P, R, B}
use Rattle.skeletons.specs.Items.{IsBlockTree}
use Rattle.skeletons.specs.Families.{skeleton_graph, system_at, AreSkeletonSystems}
use Rattle.skeleton_planes.proofs.SkeletonDarts.{dart-item}
use Rattle.skeleton_choices.proofs.Plane.{Parts, parts}
use Rattle.skeleton_faces.specs.Faces.{skeleton_weight, LinksAreHeavy, NoneIsHeavier}
use Rattle.skeleton_faces.specs.Tables.{IsTable}
use Rattle.skeleton_faces.specs.Laws.{NoSystemHasLonger}
use Rattle.skeleton_faces.proofs.EachFamily.{other-weight, bond-weight, partner, partner-in, partner-other}
use Rattle.skeleton_faces.proofs.NoLonger.{faces-no_longer}

-- whether a kind is that of bonds
abbrev is_bond : Kind → Bool
is_bond S = false
is_bond P = true
is_bond R = false
is_bond B = false

-- a node is a bond or not
bond-or : (kind : Kind) → (kind ≡ P) ⊎ (kind ≢ P)
bond-or S = inr (λ e. true≢false (sym (ap is_bond e)))
bond-or P = inl refl
bond-or R = inr (λ e. true≢false (sym (ap is_bond e)))
bond-or B = inr (λ e. true≢false (sym (ap is_bond e)))

-- twins of darts of one parity are of one parity
parity : {d e : ℕ} → ((d % 2 ≡ 0) × (twin d ≡ d + 1)) ⊎ ((d % 2 ≡ 1) × (twin d + 1 ≡ d)) → ((e % 2 ≡ 0) × (twin e ≡ e + 1)) ⊎ ((e % 2 ≡ 1) × (twin e + 1 ≡ e)) → d % 2 ≡ e % 2 → twin d % 2 ≡ twin e % 2
parity (inl a) (inl c) q = omega (arith, a.0, a.1, c.0, c.1)
parity (inl a) (inr c) q = absurd (omega (arith, a.0, c.0, q))
parity (inr a) (inl c) q = absurd (omega (arith, a.0, c.0, q))
parity (inr a) (inr c) q = omega (arith, a.0, a.1, c.0, c.1)

-- a block with its tree, and two plane families
module _ (g : Multigraph) (nodes : List Node) (b : IsBlockTree g nodes) (family other : List (List (List ℕ))) (systems : AreSkeletonSystems nodes family) (others : AreSkeletonSystems nodes other)
    (plane : (k : ℕ) → k < length nodes → IsPlane (skeleton_graph nodes k) (system_at family k)) (plane_too : (k : ℕ) → k < length nodes → IsPlane (skeleton_graph nodes k) (system_at other k))
    (weight : ℕ → ℕ → ℕ) (most : ℕ) (table : IsTable nodes family weight most) where
  -- links are heavy in the other family too
  pub other-heavy : LinksAreHeavy nodes other weight
  other-heavy k d j e a = elim (bond-or (node_at nodes k).kind) [
    | inl is ↦ let m = dart-item g nodes b k (a.first.0) d (a.first.1) in
        let w = bond-weight g nodes b k (a.first.0, is) (system_at other k) (others.systems k (a.first.0)) (plane_too k (a.first.0)) (weight k) d m in
        let p = table.bond_links k d j e a is (partner g nodes b k (a.first.0, is) (system_at other k) (others.systems k (a.first.0)) (plane_too k (a.first.0)) d)
        (partner-in g nodes b k (a.first.0, is) (system_at other k) (others.systems k (a.first.0)) (plane_too k (a.first.0)) d m)
        (partner-other g nodes b k (a.first.0, is) (system_at other k) (others.systems k (a.first.0)) (plane_too k (a.first.0)) d m) in
        omega (arith, w, p)
    | inr n ↦ elim (other-weight g nodes b k (a.first.0) (system_at family k) (system_at other k) (systems.systems k (a.first.0)) (others.systems k (a.first.0)) (plane k (a.first.0)) (plane_too k (a.first.0)) n (weight k) d) [
      | inl q ↦ subst (λ x. x ≤ weight k (d / 2) + weight j (e / 2)) (sym q) (table.links k d j e a n)
      | inr q ↦ subst (λ x. x ≤ weight k (d / 2) + weight j (e / 2)) (sym q) (subst (λ x. skeleton_weight nodes family weight k (twin d) ≤ weight k x + weight j (e / 2)) (twin-edge d)
          (subst (λ x. skeleton_weight nodes family weight k (twin d) ≤ weight k (twin d / 2) + weight j x) (twin-edge e)
          (table.links k (twin d) j (twin e) (record {
            first = (a.first.0, twin-below (edge_count (skeleton_graph nodes k)) d (a.first.1));
            second = (a.second.0, twin-below (edge_count (skeleton_graph nodes j)) e (a.second.1));
            to = ap (λ x. (node_item nodes k x).what) (twin-edge d) ∙ a.to;
            from = ap (λ x. (node_item nodes j x).what) (twin-edge e) ∙ a.from;
            end = parity (twin-cases d) (twin-cases e) a.end;
          }) n)))
    ]
  ]

  -- and no face is heavier
  pub other-most : NoneIsHeavier nodes other weight most
  other-most k d a = elim (bond-or (node_at nodes k).kind) [
    | inl is ↦ let m = dart-item g nodes b k (a.0) d (a.1) in
        let w = bond-weight g nodes b k (a.0, is) (system_at other k) (others.systems k (a.0)) (plane_too k (a.0)) (weight k) d m in
        let p = table.bonds k (d / 2) (partner g nodes b k (a.0, is) (system_at other k) (others.systems k (a.0)) (plane_too k (a.0)) d) (a.0) is m
        (partner-in g nodes b k (a.0, is) (system_at other k) (others.systems k (a.0)) (plane_too k (a.0)) d m)
        (λ q. partner-other g nodes b k (a.0, is) (system_at other k) (others.systems k (a.0)) (plane_too k (a.0)) d m (sym q)) in
        omega (arith, w, p)
    | inr n ↦ elim (other-weight g nodes b k (a.0) (system_at family k) (system_at other k) (systems.systems k (a.0)) (others.systems k (a.0)) (plane k (a.0)) (plane_too k (a.0)) n (weight k) d) [
      | inl q ↦ subst (λ x. x ≤ most) (sym q) (table.faces k d a n)
      | inr q ↦ subst (λ x. x ≤ most) (sym q) (table.faces k (twin d) (a.0, twin-below (edge_count (skeleton_graph nodes k)) d (a.1)) n)
    ]
  ]

-- the law
pub none-longer : NoSystemHasLonger
none-longer g nodes family weight most b systems plane ones table q p d l =
    let t : Parts g nodes b q = parts g nodes b q p in
    faces-no_longer g nodes t.family q weight most b t.systems p.system t.follows t.plane ones
    (other-heavy g nodes b family t.family systems t.systems plane t.plane weight most table)
    (other-most g nodes b family t.family systems t.systems plane t.plane weight most table) d l
