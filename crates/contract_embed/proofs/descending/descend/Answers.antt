use Rattle.std.proofs.Common.{List, sym, subst, arith}
use Rattle.multigraph.specs.Graph.{Multigraph}
use Rattle.graph_theory.specs.Triconnected.{IsTriconnected}
use Rattle.graph_theory.proofs.Triconnected.{four-vertices}
use Rattle.contractions.specs.Level.{contraction}
use Rattle.contract_embed.specs.Chain.{IsChain}
use Rattle.contractions.specs.declared.level.Level.{Level}
use Rattle.contract_embed.proofs.Chain.{chain-push}
use Rattle.contractions.proofs.LevelFacts.{level-triconnected}
use Rattle.contract_embed.proofs.descending.descend.Goals as goal

pub down-preserved : goal.down-preserved
down-preserved c =
    let g = c.args.g.now in
    let level = c.in_ok-level.level in
    subst (λ (h : Multigraph). IsChain g c.push.new.self.items h × IsTriconnected h) (sym c.in_ok-bottom-2.ensures) (
      subst (λ (l : List Level). IsChain g l (contraction level)) (sym c.in_ok-push.ensures.items)
          (chain-push g c.down.levels.items c.down.bottom level c.down.invariant.0 c.in_ok-level.ensures.graph c.in_ok-level.ensures.level),
      level-triconnected level c.in_ok-level.ensures.level,
    )

pub returns-clause-four : goal.returns-clause-four
returns-clause-four c = omega (arith, four-vertices c.down.bottom c.down.invariant.1, c.down-test.false, c.vertex_count.ensures.value)
