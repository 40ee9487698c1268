-- A triconnected graph has at most two plane rotation systems: one and its mirror image.
use Rattle.std.proofs.Common.{◌≡◌, ◌≢◌, ℕ, zero, suc, ◌<◌, ◌≤◌, ◌⊎◌, inl, inr, Bool, true, false, List, refl, sym, ap, ◌∙◌, subst, arith}
use Rattle.std.proofs.lemmas.Bool.{and_parts, cases_eq}
use Rattle.permutations.specs.Count.{count}
use Rattle.permutations.proofs.Search.{some-witness}
use Rattle.permutations.proofs.Count.{last-passing}
use Rattle.multigraph.specs.Graph.{Multigraph, IsGraph, edge_count, is_end, other_end}
use Rattle.multigraph.proofs.OtherEnd.{other_end-is_end}
use Rattle.rotations.specs.Rotation.{IsRotationSystem}
use Rattle.graph_theory.specs.Triconnected.{IsTriconnected}
use Rattle.graph_theory.proofs.Triconnected.{four-vertices}
use Rattle.contractions.specs.Contraction.{are_adjacent, is_common_neighbour, common_count, is_private, ContractibleEdge, IsContraction}
use Rattle.contractions.specs.Contracted.{contracted, contracted_edge, contracted_vertex}
use Rattle.contractions.proofs.Neighbours.{incident-three}
use Rattle.graph_theory.proofs.Ends.{other-other}
use Rattle.contractions.proofs.Joined.{joined-from, private-parts, simple-same}
use Rattle.contractions.proofs.Contracted.{graph-contracted}
use Rattle.contractions.proofs.ContractedTriconnected.{triconnected-contracted}
use Rattle.contractions.proofs.ContractionMade.{contracted-is}
use Rattle.contractions.proofs.ContractibleEdges.{contractible_exists}
use Rattle.contractions.proofs.PrivateNeighbours.{OrientedEdge, oriented}
use Rattle.faces.specs.Euler.{IsPlane, IsPlaneSystem}
use Rattle.rotations.specs.Runs.{mirror_image}
use Rattle.faces.proofs.MapMirror.{mirror-system, mirror-image-twice, mirror-image-plane, mirror-image-differs}
use Rattle.planarity.specs.Expansion.{IsContractedSystem}
use Rattle.planarity.proofs.CommonNeighbours.{TwoEqual, common-two}
use Rattle.planarity.proofs.ContractedSystem.{contracted-exists, contracted-plane}
use Rattle.planarity.proofs.ContractedUnique.{contracted-tells}
use Rattle.planarity.proofs.FourVertices.{four_vertices-two}

-- of three numbers that pass, two are equal: then at most two pass
few-counted : (n : ℕ) (p : ℕ → Bool) → ((a b c : ℕ) → p a ≡ true → p b ≡ true → p c ≡ true → TwoEqual a b c) → count n p ≤ 2
few-counted n p two = by_size (count n p) refl
  where
    three : 3 ≤ count n p → ⊥
    three l =
        let c = last-passing n p (omega (arith, l)) in
        let b = last-passing c.0 p (omega (arith, l, c.3)) in
        let a = last-passing b.0 p (omega (arith, l, c.3, b.3)) in
        elim (two a.0 b.0 c.0 a.2 b.2 c.2) [
          | inl q ↦ omega (arith, q, a.1)
          | inr q ↦ elim q [ inl z ↦ omega (arith, z, a.1, b.1) | inr z ↦ omega (arith, z, b.1) ]
        ]

    by_size : (k : ℕ) → count n p ≡ k → count n p ≤ 2
    by_size zero q = omega (arith, q)
    by_size (suc zero) q = omega (arith, q)
    by_size (suc (suc zero)) q = omega (arith, q)
    by_size (suc (suc (suc k))) q = absurd (three (omega (arith, q)))

-- where there is a plane rotation system, the ends of an edge that may be contracted have at most two common neighbours
pub few-common : (g : Multigraph) → IsGraph g → IsTriconnected g → (r : List (List ℕ)) → IsRotationSystem g r → IsPlane g r → (c : ContractibleEdge g) → common_count g c.first c.second ≤ 2
few-common g ok tri r s plane c = few-counted g.vertex_count (is_common_neighbour g c.first c.second) (λ u v w hu hv hw.
    let a = and_parts (are_adjacent g c.first u) (are_adjacent g c.second u) hu in
    let b = and_parts (are_adjacent g c.first v) (are_adjacent g c.second v) hv in
    let d = and_parts (are_adjacent g c.first w) (are_adjacent g c.second w) hw in
    common-two g (contracted g c.edge c.first c.second) c.edge c.first c.second (contracted_edge g c.edge c.first c.second) (contracted_vertex c.first c.second) ok
    (contracted-is g ok c.edge c.first c.second c.edge_in c.first_end c.second_end) r s plane tri.simple c.contractible u v w a.0 a.1 b.0 b.1 d.0 d.1)

-- a graph of at least five vertices, where the graph with an edge contracted has at most two plane rotation systems
module _ (g : Multigraph) (ok : IsGraph g) (tri : IsTriconnected g) (o : OrientedEdge g)
    (before : (p q : List (List ℕ)) → IsRotationSystem (contracted g o.edge o.first o.second) p → IsRotationSystem (contracted g o.edge o.first o.second) q → IsPlane (contracted g o.edge o.first o.second) p → IsPlane (contracted g o.edge o.first o.second) q → (p ≡ q) ⊎ (p ≡ mirror_image q)) where
  abbrev h : Multigraph
  h = contracted g o.edge o.first o.second

  abbrev edge : ℕ → ℕ
  edge = contracted_edge g o.edge o.first o.second

  con : IsContraction g h o.edge o.first o.second edge (contracted_vertex o.first o.second)
  con = contracted-is g ok o.edge o.first o.second o.edge_in o.first_end o.second_end

  okh : IsGraph h
  okh = graph-contracted g h ok tri.simple o.edge o.first o.second edge (contracted_vertex o.first o.second) con

  -- the rotation system of the contracted graph
  record Smaller (r : List (List ℕ)) : Type 0 where
    pub small : List (List ℕ)
    pub system : IsRotationSystem h small
    pub comes : IsContractedSystem g h o.edge o.first o.second edge r small
    pub plane : IsPlane h small

  smaller : (r : List (List ℕ)) → IsRotationSystem g r → IsPlane g r → Smaller r
  smaller r s plane =
      let w = contracted-exists g h o.edge o.first o.second edge (contracted_vertex o.first o.second) ok okh con r s in
      record { small = w.0; system = w.1; comes = w.2; plane = contracted-plane g h o.edge o.first o.second edge (contracted_vertex o.first o.second) ok okh con r s plane w.0 w.1 w.2 }

  -- what is the same there is the same here
  tells : (r q : List (List ℕ)) → IsRotationSystem g r → IsRotationSystem g q → IsPlane g r → IsPlane g q → (a : Smaller r) → (b : Smaller q) → a.small ≡ b.small → r ≡ q
  tells r q s t plane plane_too a b e =
      let f = some-witness (edge_count g) (is_private g o.edge o.first o.second) o.private in
      let p = private-parts g o.edge o.first o.second f.0 f.2 in
      contracted-tells g h o.edge o.first o.second edge (contracted_vertex o.first o.second) ok okh tri o.contractible con (other_end g f.0 o.second) (not_first f.0 p.2 p.1 f.1 p.0)
      (joined-from g f.0 o.second f.1 p.0) p.2 r q a.small s t plane plane_too a.comes (subst (IsContractedSystem g h o.edge o.first o.second edge q) (sym e) b.comes)
    where
      not_first : (f : ℕ) → are_adjacent g o.first (other_end g f o.second) ≡ false → f ≢ o.edge → f < edge_count g → is_end g o.second f ≡ true → other_end g f o.second ≢ o.first
      not_first f n d l i q = d (simple-same g tri.simple f o.edge o.second l o.edge_in i (subst (λ v. is_end g v o.edge ≡ true) o.second_end (other_end-is_end g o.edge o.first))
          (q ∙ sym (subst (λ v. other_end g o.edge v ≡ o.first) o.second_end (other-other g o.edge o.first o.first_end))))

  two-larger : (r q : List (List ℕ)) → IsRotationSystem g r → IsRotationSystem g q → IsPlane g r → IsPlane g q → (r ≡ q) ⊎ (r ≡ mirror_image q)
  two-larger r q s t plane plane_too = compare (smaller r s plane) (smaller q t plane_too) (smaller (mirror_image r) sm pm)
    where
      sm : IsRotationSystem g (mirror_image r)
      sm = mirror-system g r s

      pm : IsPlane g (mirror_image r)
      pm = mirror-image-plane g r ok s plane

      compare : Smaller r → Smaller q → Smaller (mirror_image r) → (r ≡ q) ⊎ (r ≡ mirror_image q)
      compare a b c = elim (before a.small b.small a.system b.system a.plane b.plane) [
        | inl e ↦ inl (tells r q s t plane plane_too a b e)
        | inr e ↦ elim (before c.small b.small c.system b.system c.plane b.plane) [
          | inl f ↦ inr (sym (mirror-image-twice g r s) ∙ ap mirror_image (tells (mirror_image r) q sm t pm plane_too c b f))
          | inr f ↦ absurd (mirror-image-differs g r s 0 (omega (arith, four-vertices g tri)) (incident-three g ok tri 0 (omega (arith, four-vertices g tri))) (tells (mirror_image r) r sm s pm plane c a (f ∙ sym e)))
        ]
      ]

-- two plane rotation systems of a triconnected graph are equal, or mirror images
pub two-systems : (g : Multigraph) → IsGraph g → IsTriconnected g → (r q : List (List ℕ)) → IsRotationSystem g r → IsRotationSystem g q → IsPlane g r → IsPlane g q → (r ≡ q) ⊎ (r ≡ mirror_image q)
two-systems g ok tri r q s t plane plane_too = go (suc g.vertex_count) g (omega arith) ok tri r q s t plane plane_too
  where
    go : (fuel : ℕ) (g : Multigraph) → g.vertex_count < fuel → IsGraph g → IsTriconnected g → (r q : List (List ℕ)) → IsRotationSystem g r → IsRotationSystem g q → IsPlane g r → IsPlane g q → (r ≡ q) ⊎ (r ≡ mirror_image q)
    go zero g l ok tri r q s t plane plane_too = absurd (omega (arith, l))
    go (suc fuel) g l ok tri r q s t plane plane_too = elim (cases_eq g.vertex_count 4) [
      | inl e ↦ four_vertices-two g ok tri e r q s t plane plane_too
      | inr n ↦ larger (omega (arith, n, four-vertices g tri)) (oriented g ok tri (omega (arith, n, four-vertices g tri)) (contractible_exists g ok tri) (few-common g ok tri r s plane (contractible_exists g ok tri))) (go fuel)
    ]
      where
        larger : 5 ≤ g.vertex_count → (o : OrientedEdge g)
            → ((k : Multigraph) → k.vertex_count < fuel → IsGraph k → IsTriconnected k → (p q : List (List ℕ)) → IsRotationSystem k p → IsRotationSystem k q → IsPlane k p → IsPlane k q → (p ≡ q) ⊎ (p ≡ mirror_image q))
            → (r ≡ q) ⊎ (r ≡ mirror_image q)
        larger five o before =
            let con = contracted-is g ok o.edge o.first o.second o.edge_in o.first_end o.second_end in
            two-larger g ok tri o
            (before (contracted g o.edge o.first o.second) (omega (arith, con.fewer, l)) (graph-contracted g (contracted g o.edge o.first o.second) ok tri.simple o.edge o.first o.second (contracted_edge g o.edge o.first o.second) (contracted_vertex o.first o.second) con)
            (triconnected-contracted g (contracted g o.edge o.first o.second) ok tri o.edge o.first o.second (contracted_edge g o.edge o.first o.second) (contracted_vertex o.first o.second) con five o.contractible))
            r q s t plane plane_too

-- the mirror image of a plane rotation system is another one
pub mirror-another : (g : Multigraph) → IsGraph g → IsTriconnected g → (r : List (List ℕ)) → IsRotationSystem g r → IsPlane g r → IsPlaneSystem g (mirror_image r) × (mirror_image r ≢ r)
mirror-another g ok tri r s plane = (record { system = mirror-system g r s; plane = mirror-image-plane g r ok s plane }, mirror-image-differs g r s 0 (omega (arith, four-vertices g tri)) (incident-three g ok tri 0 (omega (arith, four-vertices g tri))))
