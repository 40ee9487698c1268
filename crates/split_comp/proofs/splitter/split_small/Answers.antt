use Rattle.std.proofs.Common.{ℕ, [], ◌∙◌, refl, sym, subst, ap, arith}
use Rattle.std.proofs.lemmas.Result.{IfOk-weaker}
use Rattle.pair_split.specs.Splitting.{state_of}
use Rattle.pair_split.specs.Bridges.{family_of}
use Rattle.pair_split.specs.Split.{IsSplit}
use Rattle.pair_split.specs.State.{AreSplitComponents}
use Rattle.pair_split.specs.Writing.{IsListed}
use Rattle.pair_split.specs.declared.components.Comps.{Comps}
use Rattle.pair_split.specs.declared.components.Kind.TheVariants.{B}
use Rattle.split_comp.proofs.SearchEnd.{small-listed, small-cost, small-split}
use Rattle.split_comp.proofs.splitter.split_small.Goals as goal

pub write_components-requires-clause-listed : goal.write_components-requires-clause-listed
write_components-requires-clause-listed g c = subst (λ (m : ℕ). IsListed m (state_of [] c.deref.result.now)) (sym c.edge_count.ensures.value)
    (small-listed c.args.g.now c.edge_count.ensures.graph c.requires.block c.requires.small [] c.deref.result.now refl (ap family_of c.deref.ensures.value ∙ c.in_ok-edges.ensures.edges))

pub returns-clause-split : goal.returns-clause-split
returns-clause-split g c = IfOk-weaker c.write_components.result _ (λ (comps : Comps). IsSplit c.args.g.now comps.list)
    (λ comps w. small-split c.args.g.now c.edge_count.ensures.graph c.requires.block c.requires.small [] c.deref.result.now refl (ap family_of c.deref.ensures.value ∙ c.in_ok-edges.ensures.edges) comps.list
    (subst (λ (m : ℕ). AreSplitComponents m (state_of [] c.deref.result.now) B comps.list) c.edge_count.ensures.value w))
    c.write_components.ensures.components

pub returns-clause-at_most : goal.returns-clause-at_most
returns-clause-at_most g c = omega (
  arith,
  c.write_components.ensures.at_most,
  c.in_ok-edges.ensures.at_most,
  small-cost c.args.g.now c.edge_count.ensures.graph c.requires.block c.requires.small [] c.deref.result.now refl (ap family_of c.deref.ensures.value ∙ c.in_ok-edges.ensures.edges),
)
