use Rattle.std.proofs.Common.{sym, subst, arith}
use Rattle.multigraph.specs.Graph.{Multigraph}
use Rattle.contract_obstruct.specs.Crossing.{IsClosing}
use Rattle.contractions.proofs.LevelFacts.{level-limits}
use Rattle.contract_obstruct.proofs.Alternating.{closing}
use Rattle.contract_obstruct.proofs.crossing.crossing.Goals as goal

pub crossing_from-requires : goal.crossing_from-requires
crossing_from-requires c =
    let level = c.args.level.now in
    let t = c.requires.steps in
    subst (λ (h : Multigraph). IsClosing level h c.args.next.now c.args.sectors.now c.near_edge-joining.result) (sym c.requires.contraction)
    (closing level c.requires.level t.system c.args.next.now t.are_steps t.plane c.args.sectors.now c.requires.crossing
    (omega (arith, t.are_steps.each, (level-limits level c.requires.level).few_edges)) c.near_edge-joining.result c.near_edge-joining.ensures.within c.near_edge-joining.ensures.leaves c.near_edge-joining.ensures.arrives)
