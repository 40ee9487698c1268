-- A triconnected graph has a plane rotation system, or a subdivision of K5 or K3,3.
use Rattle.std.proofs.Common.{◌≡◌, ℕ, zero, suc, ◌<◌, ◌≤◌, ◌⊎◌, inl, inr, true, List, refl, arith}
use Rattle.std.proofs.lemmas.Bool.{cases_eq, or_right}
use Rattle.permutations.proofs.Search.{some-witness}
use Rattle.multigraph.specs.Graph.{Multigraph, IsGraph, edge_count, is_end, other_end}
use Rattle.multigraph.proofs.OtherEnd.{end-in}
use Rattle.rotations.specs.Rotation.{order_at}
use Rattle.graph_theory.specs.Triconnected.{IsTriconnected}
use Rattle.graph_theory.proofs.Triconnected.{four-vertices}
use Rattle.contractions.specs.Contraction.{are_adjacent, common_count, is_private, ContractibleEdge, IsContraction}
use Rattle.contractions.specs.Contracted.{contracted, contracted_edge, contracted_vertex}
use Rattle.contractions.proofs.Contracted.{graph-contracted}
use Rattle.contractions.proofs.ContractedTriconnected.{triconnected-contracted}
use Rattle.contractions.proofs.ContractionMade.{contracted-is}
use Rattle.contractions.proofs.ContractibleEdges.{contractible_exists}
use Rattle.contractions.proofs.PrivateNeighbours.{OrientedEdge, oriented}
use Rattle.kuratowski.specs.Subdivision.{IsWritten}
use Rattle.kuratowski.specs.declared.subdivision.Pattern.{Pattern}
use Rattle.kuratowski.proofs.WrittenForm.{written_form}
use Rattle.faces.specs.Euler.{IsPlaneSystem}
use Rattle.planarity.specs.Alternation.{StandTogether}
use Rattle.planarity.specs.Circle.{leads_near}
use Rattle.planarity.proofs.ExpandedPlane.{expanded-system}
use Rattle.planarity.proofs.ExpandedRuns.{runs-together}
use Rattle.planarity.proofs.LiftCases.{HasSubdivision, lift-subdivision}
use Rattle.planarity.proofs.FoundCommon.{common-subdivision}
use Rattle.planarity.proofs.FoundTurn.{turn-cases}
use Rattle.planarity.proofs.FourVertices.{four_vertices-plane}

-- a plane rotation system of the graph
abbrev HasPlane : Multigraph → Type 0
HasPlane g = (r : List (List ℕ)) × IsPlaneSystem g r

-- a subdivision of the graph with an edge contracted
lifts : (g : Multigraph) → IsGraph g → IsTriconnected g → (e x y : ℕ) → e < edge_count g → is_end g x e ≡ true → other_end g e x ≡ y → HasSubdivision (contracted g e x y) → HasSubdivision g
lifts g ok tri e x y l i o s =
    let con = contracted-is g ok e x y l i o in
    lift-subdivision g (contracted g e x y) e x y (contracted_edge g e x y) (contracted_vertex x y) ok (graph-contracted g (contracted g e x y) ok tri.simple e x y (contracted_edge g e x y) (contracted_vertex x y) con) con s.kind s.branch s.paths s.is

-- a plane rotation system of the graph with an edge contracted, the second end of which has a private neighbour
turns : (g : Multigraph) → IsGraph g → IsTriconnected g → 5 ≤ g.vertex_count → (o : OrientedEdge g) → HasPlane (contracted g o.edge o.first o.second) → HasPlane g ⊎ HasSubdivision g
turns g ok tri five o t =
    elim (turn-cases g h o.edge o.first o.second edge vertex ok okh con tri.simple t.0 t.1.system t.1.plane trih tri f.0 f.1 f.2) [ inl w ↦ inl (expands w) | inr s ↦ inr s ]
  where
    h : Multigraph
    h = contracted g o.edge o.first o.second

    edge : ℕ → ℕ
    edge = contracted_edge g o.edge o.first o.second

    vertex : ℕ → ℕ
    vertex = contracted_vertex o.first o.second

    con : IsContraction g h o.edge o.first o.second edge vertex
    con = contracted-is g ok o.edge o.first o.second o.edge_in o.first_end o.second_end

    okh : IsGraph h
    okh = graph-contracted g h ok tri.simple o.edge o.first o.second edge vertex con

    trih : IsTriconnected h
    trih = triconnected-contracted g h ok tri o.edge o.first o.second edge vertex con five o.contractible

    f : (f : ℕ) × (f < edge_count g) × (is_private g o.edge o.first o.second f ≡ true)
    f = some-witness (edge_count g) (is_private g o.edge o.first o.second) o.private

    expands : StandTogether (λ i. is_end g o.first (edge i)) (leads_near g o.first o.second edge) (order_at t.0 (vertex o.first)) → HasPlane g
    expands w =
        let runs = runs-together g h o.edge o.first o.second edge vertex ok okh con tri.simple t.0 t.1.system (leads_near g o.first o.second edge)
        (λ i l u v. or_right (is_end g o.second (edge i)) (are_adjacent g o.second (other_end g (edge i) o.first)) v) (end-in g o.first o.edge ok o.edge_in o.first_end) w in
        let r = expanded-system g h o.edge o.first o.second edge vertex ok okh con tri.simple t.0 t.1.system t.1.plane _ _ runs in
        (r.0, record { system = r.1; plane = r.2 })

-- by induction on the number of vertices
pub plane-or_subdivision : (g : Multigraph) → IsGraph g → IsTriconnected g → HasPlane g ⊎ HasSubdivision g
plane-or_subdivision g ok tri = go (suc g.vertex_count) g (omega arith) ok tri
  where
    go : (fuel : ℕ) (g : Multigraph) → g.vertex_count < fuel → IsGraph g → IsTriconnected g → HasPlane g ⊎ HasSubdivision g
    go zero g l ok tri = absurd (omega (arith, l))
    go (suc fuel) g l ok tri = elim (cases_eq g.vertex_count 4) [
      | inl e ↦ inl (four_vertices-plane g ok tri e)
      | inr n ↦ larger (omega (arith, n, four-vertices g tri)) (contractible_exists g ok tri) (go fuel)
    ]
      where
        larger : 5 ≤ g.vertex_count → (c : ContractibleEdge g) → ((k : Multigraph) → k.vertex_count < fuel → IsGraph k → IsTriconnected k → HasPlane k ⊎ HasSubdivision k) → HasPlane g ⊎ HasSubdivision g
        larger five c before = split (common_count g c.first c.second) refl
          where
            few : common_count g c.first c.second ≤ 2 → HasPlane g ⊎ HasSubdivision g
            few b =
                let o = oriented g ok tri five c b in
                let con = contracted-is g ok o.edge o.first o.second o.edge_in o.first_end o.second_end in
                elim (before (contracted g o.edge o.first o.second) (omega (arith, con.fewer, l))
                (graph-contracted g (contracted g o.edge o.first o.second) ok tri.simple o.edge o.first o.second (contracted_edge g o.edge o.first o.second) (contracted_vertex o.first o.second) con)
                (triconnected-contracted g (contracted g o.edge o.first o.second) ok tri o.edge o.first o.second (contracted_edge g o.edge o.first o.second) (contracted_vertex o.first o.second) con five o.contractible)) [
                  | inl t ↦ turns g ok tri five o t
                  | inr s ↦ inr (lifts g ok tri o.edge o.first o.second o.edge_in o.first_end o.second_end s)
                ]

            many : 3 ≤ common_count g c.first c.second → HasPlane g ⊎ HasSubdivision g
            many b =
                let con = contracted-is g ok c.edge c.first c.second c.edge_in c.first_end c.second_end in
                let okh = graph-contracted g (contracted g c.edge c.first c.second) ok tri.simple c.edge c.first c.second (contracted_edge g c.edge c.first c.second) (contracted_vertex c.first c.second) con in
                let trih = triconnected-contracted g (contracted g c.edge c.first c.second) ok tri c.edge c.first c.second (contracted_edge g c.edge c.first c.second) (contracted_vertex c.first c.second) con five c.contractible in
                elim (before (contracted g c.edge c.first c.second) (omega (arith, con.fewer, l)) okh trih) [
                  | inl t ↦ inr (common-subdivision g (contracted g c.edge c.first c.second) c.edge c.first c.second (contracted_edge g c.edge c.first c.second) (contracted_vertex c.first c.second) ok okh con tri.simple t.0 t.1.system t.1.plane trih b)
                  | inr s ↦ inr (lifts g ok tri c.edge c.first c.second c.edge_in c.first_end c.second_end s)
                ]

            split : (k : ℕ) → common_count g c.first c.second ≡ k → HasPlane g ⊎ HasSubdivision g
            split zero e = few (omega (arith, e))
            split (suc zero) e = few (omega (arith, e))
            split (suc (suc zero)) e = few (omega (arith, e))
            split (suc (suc (suc k))) e = many (omega (arith, e))

-- with the subdivision in its written form
pub plane-or_written : (g : Multigraph) → IsGraph g → IsTriconnected g
    → ((r : List (List ℕ)) × IsPlaneSystem g r) ⊎ ((kind : Pattern) × (branch : List ℕ) × (paths : List (List ℕ)) × IsWritten g kind branch paths)
plane-or_written g ok tri = elim (plane-or_subdivision g ok tri) [
  | inl r ↦ inl r
  | inr s ↦ let w = written_form g s.kind s.branch s.paths s.is in inr (s.kind, w.0, w.1, w.2)
]
