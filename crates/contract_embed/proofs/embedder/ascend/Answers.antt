use Rattle.std.proofs.Common.{List, sym, subst}
use Rattle.multigraph.specs.Graph.{Multigraph}
use Rattle.contract_embed.specs.Answer.{IsAnswer}
use Rattle.contract_embed.specs.Chain.{IsChain}
use Rattle.contractions.specs.declared.level.Level.{Level}
use Rattle.contract_embed.proofs.Chain.{chain-level, chain-before}
use Rattle.contract_embed.proofs.embedder.ascend.Goals as goal

pub climb-requires-clause-level : goal.climb-requires-clause-level
climb-requires-clause-level c =
    (chain-level c.args.g.now c.pop.new.self.items c.in-Some.level c.up.below (subst (λ (l : List Level). IsChain c.args.g.now l c.up.below) c.in-Some.ensures.items c.up.invariant.0)).0

pub climb-requires-clause-contraction : goal.climb-requires-clause-contraction
climb-requires-clause-contraction c =
    sym (chain-level c.args.g.now c.pop.new.self.items c.in-Some.level c.up.below (subst (λ (l : List Level). IsChain c.args.g.now l c.up.below) c.in-Some.ensures.items c.up.invariant.0)).1

pub climb-requires-clause-answer : goal.climb-requires-clause-answer
climb-requires-clause-answer c =
    subst (λ (h : Multigraph). IsAnswer h c.up.known)
    (sym (chain-level c.args.g.now c.pop.new.self.items c.in-Some.level c.up.below (subst (λ (l : List Level). IsChain c.args.g.now l c.up.below) c.in-Some.ensures.items c.up.invariant.0)).1)
    c.up.invariant.1

pub up-preserved : goal.up-preserved
up-preserved c = (
  chain-before c.args.g.now c.pop.new.self.items c.in-Some.level c.up.below (subst (λ (l : List Level). IsChain c.args.g.now l c.up.below) c.in-Some.ensures.items c.up.invariant.0),
  c.in_ok-known.ensures,
)
