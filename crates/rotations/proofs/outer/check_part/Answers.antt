use Rattle.std.proofs.Common.{subst}
use Rattle.multigraph.specs.Graph.{Multigraph}
use Rattle.rotations.specs.Given.{AreArranged}
use Rattle.rotations.proofs.PartEdges.{stranger-bad, part-arranged}
use Rattle.rotations.proofs.outer.check_part.Goals as goal

-- only a stranger is to blame
pub returns-in-Some-clause-outer : goal.returns-in-Some-clause-outer
returns-in-Some-clause-outer c = stranger-bad c.args.p.now c.graph.ensures.numbered c.args.lists.now c.args.inner.now c.requires c.in-Some.w c.in-Some.ensures
    (λ j l m no. no ((subst (λ (g : Multigraph). AreArranged g c.args.inner.now) c.graph.ensures.value c.in-Ok.ensures).arranged j l))

-- nothing is
pub returns-in-None-clause-outer : goal.returns-in-None-clause-outer
returns-in-None-clause-outer c = part-arranged c.args.p.now c.graph.ensures.numbered c.args.lists.now c.args.inner.now c.requires (subst (λ (g : Multigraph). AreArranged g c.args.inner.now) c.graph.ensures.value c.in-Ok.ensures) c.in-None.ensures
