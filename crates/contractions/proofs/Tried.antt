-- An edge that was tried with each third vertex, and edges tried one after the other.
use Rattle.std.proofs.Common.{◌≢◌, ℕ, ◌<◌, inl, inr, [], ◌∷◌, sym, ◌∙◌, subst}
use Rattle.std.proofs.lemmas.Bool.{cases_Bool, both_ways}
use Rattle.multigraph.specs.Graph.{Multigraph, IsGraph, edge_count, ends_of}
use Rattle.graph_theory.specs.Triconnected.{IsConnectedWithout, IsTriconnected}
use Rattle.contractions.specs.Contraction.{IsContractible, ContractibleEdge, is_connected_without, is_contractible}
use Rattle.contractions.proofs.Tests.{connected_without-from, contractible-fails, contractible-true, contractible-turned}
use Rattle.contractions.proofs.ContractibleEdges.{contractible_exists}
use Rattle.multigraph.proofs.OtherEnd.{other_end-cases, is_end-cases}

-- it is enough to try the vertices
pub tried-all : (g : Multigraph) → IsGraph g → IsTriconnected g → (x y : ℕ) → ((z : ℕ) → z < g.vertex_count → z ≢ x → z ≢ y → IsConnectedWithout g (x ∷ y ∷ z ∷ [])) → IsContractible g x y
tried-all g i t x y h = elim (cases_Bool (is_contractible g x y)) [
  | inl e ↦ contractible-true g i t x y e
  | inr e ↦
      let w = contractible-fails g x y e in
      absurd (both_ways (is_connected_without g (x ∷ y ∷ w.0 ∷ [])) w.4 (connected_without-from g (x ∷ y ∷ w.0 ∷ []) (h w.0 w.1 w.2 w.3)))
]

-- some edge may be contracted between its ends as they are written
pub some-contractible : (g : Multigraph) → IsGraph g → IsTriconnected g → ((f : ℕ) → f < edge_count g → IsContractible g (ends_of g f).0 (ends_of g f).1 → ⊥) → ⊥
some-contractible g i t h = elim (other_end-cases g c.edge c.first) [
  | inl p ↦ h c.edge c.edge_in (subst (λ u. IsContractible g u (ends_of g c.edge).1) (sym p.0) (subst (λ v. IsContractible g c.first v) (sym c.second_end ∙ p.1) c.contractible))
  | inr p ↦ elim (is_end-cases g c.first c.edge c.first_end) [
    | inl q ↦ absurd (p.0 q)
    | inr q ↦ h c.edge c.edge_in
        (subst (λ v. IsContractible g (ends_of g c.edge).0 v) (sym q) (subst (λ u. IsContractible g u c.first) (sym c.second_end ∙ p.1) (contractible-turned g c.first c.second c.contractible)))
  ]
]
  where
    c : ContractibleEdge g
    c = contractible_exists g i t
