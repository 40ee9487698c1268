use Rattle.std.proofs.Common.{sym, subst}
use Rattle.faces.specs.Euler.{IsPlaneSystem}
use Rattle.multigraph.specs.Graph.{Multigraph}
use Rattle.skeletons.specs.Items.{IsBlockTree}
use Rattle.skeleton_runs.proofs.Contiguous.{plane-contiguous}
use Rattle.embed_tests.proofs.skeleton_members.members_of.Goals as goal

-- the groups of a plane block are in runs
pub decompose-requires-clause-runs : goal.decompose-requires-clause-runs
decompose-requires-clause-runs c = plane-contiguous c.graph.result.now c.tree.result.now c.rotation.result.now
    (subst (λ (z : Multigraph). IsBlockTree z c.tree.result.now) (sym c.graph.ensures.value) (subst (IsBlockTree c.args.block.now.graph) (sym c.tree.ensures.value) c.graph.ensures.state.block))
    (subst (λ (z : Multigraph). IsPlaneSystem z c.rotation.result.now) (sym c.graph.ensures.value) (subst (IsPlaneSystem c.args.block.now.graph) (sym c.rotation.ensures.value) c.graph.ensures.state.plane))
