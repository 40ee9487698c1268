use Rattle.std.proofs.Common.{IfOk, sym, ◌∙◌, subst}
use Rattle.multigraph.specs.Graph.{IsGraph}
use Rattle.graph_theory.specs.Block.{IsOneBlock}
use Rattle.kuratowski.specs.Subdivision.{IsWritten}
use Rattle.planarity.proofs.SubdivisionExcludes.{subdivision-excludes}
use Rattle.skel_embed.specs.Planes.{IsOutcome}
use Rattle.made_graph.specs.Made.{made}
use Rattle.made_graph.specs.Laws.{HasFork}
use Rattle.made_graph.proofs.Growth.{made-planar}
use Rattle.made_graph.proofs.Forks.{made-fork}
use Rattle.made_summary.specs.Summary.{IsSummary}
use Rattle.made_summary.proofs.summing.summary.Goals as goal

pub split-requires : goal.split-requires
split-requires g c = subst IsOneBlock (sym c.in_ok-graph.ensures) (made-planar c.args.n c.args.seed c.requires.least).one_block

pub assemble-requires-clause-block : goal.assemble-requires-clause-block
assemble-requires-clause-block g c = subst IsOneBlock (sym c.in_ok-graph.ensures) (made-planar c.args.n c.args.seed c.requires.least).one_block

pub plane_block-requires : goal.plane_block-requires
plane_block-requires g c =
    let made_is = sym c.in_ok-graph.ensures in
    let planar = made-planar c.args.n c.args.seed c.requires.least in
    record { graph = subst IsGraph made_is planar.is_graph; block = subst IsOneBlock made_is planar.one_block; tree = c.in_ok-tree.ensures }

pub summary_of-requires-clause-fork : goal.summary_of-requires-clause-fork
summary_of-requires-clause-fork g c =
    let outcome = subst (IsOutcome c.in_ok-graph.graph c.in_ok-tree.tree) c.in-Plane.is c.in_ok-block.ensures in
    subst HasFork (sym (outcome.0 ∙ c.in_ok-graph.ensures)) (made-fork c.args.n c.args.seed c.requires.least)

pub unreachable-requires : goal.unreachable-requires
unreachable-requires g c =
    let s = c.in-Not.field-0.certificate in
    let planar = made-planar c.args.n c.args.seed c.requires.least in
    let outcome = subst (IsOutcome c.in_ok-graph.graph c.in_ok-tree.tree) c.in-Not.is c.in_ok-block.ensures in
    let written = subst (λ h. IsWritten h s.kind s.branch s.paths) c.in_ok-graph.ensures outcome.2 in
    subdivision-excludes (made c.args.n c.args.seed) planar.system planar.is_graph planar.is_system planar.plane s.kind s.branch s.paths written.subdivision

pub returns : goal.returns
returns g c =
    let outcome = subst (IsOutcome c.in_ok-graph.graph c.in_ok-tree.tree) c.in-Plane.is c.in_ok-block.ensures in
    subst (λ h. IfOk c.summary_of.result (λ text. IsSummary h text.items)) (outcome.0 ∙ c.in_ok-graph.ensures) c.summary_of.ensures
