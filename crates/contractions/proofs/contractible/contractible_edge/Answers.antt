use Rattle.std.proofs.Common.{ℕ, inl, inr, sym, subst, arith}
use Rattle.std.proofs.lemmas.Bool.{cases_eq, both_ways}
use Rattle.contractions.specs.Contraction.{IsContractible}
use Rattle.multigraph.specs.Graph.{ends_of}
use Rattle.contractions.proofs.Tried.{some-contractible}
use Rattle.contractions.proofs.contractible.contractible_edge.Goals as goal

pub loop-edge-preserved : goal.loop-edge-preserved
loop-edge-preserved c = λ f l h. elim (cases_eq c.loop-edge.edge f) [
  | inl e ↦
      let g = c.args.g.now in
      let k : IsContractible g (ends_of g c.loop-edge.edge).0 (ends_of g c.loop-edge.edge).1 = subst (λ z. IsContractible g (ends_of g z).0 (ends_of g z).1) (sym e) h in
      both_ways c.in_ok-is_contractible.field-0 c.if-branch.false
      (c.in_ok-is_contractible.ensures.1 (subst (λ (p : ℕ × ℕ). IsContractible g p.0 p.1) (sym c.ends-first.ensures.value) k))
  | inr n ↦ c.loop-edge.invariant f (omega arith) h
]

pub unreachable-requires : goal.unreachable-requires
unreachable-requires c = some-contractible c.args.g.now c.edge_count-edge-end.ensures.graph c.requires (λ f l. c.loop-edge.invariant f (omega (arith, c.edge_count-edge-end.ensures.value, c.loop-edge-test.false)))
