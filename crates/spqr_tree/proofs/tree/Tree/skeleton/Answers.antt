-- The skeleton is a graph within the limits, and that of a triconnected node is triconnected.
use Rattle.std.proofs.Common.{◌∙◌, length, sym, ap, ap₂, subst, arith}
use Rattle.std.proofs.lemmas.Result.{IfOk-weaker}
use Rattle.multigraph.specs.Graph.{IsGraph, IsWithinLimits}
use Rattle.multigraph.specs.Build.{multigraph_of}
use Rattle.graph_theory.specs.Triconnected.{IsTriconnected}
use Rattle.skeleton_runs.proofs.SkeletonGraph.{skeleton-graph, skeleton-limits, skeleton-triconnected}
use Rattle.spqr_tree.proofs.SkeletonMade.{vertices-few}
use Rattle.spqr_tree.proofs.tree.Tree.skeleton.Goals as goal

pub overflow_cast-vertices : goal.overflow_cast-vertices
overflow_cast-vertices c = omega (arith, ap length c.vertices.ensures, vertices-few c.requires.block.0 c.args.self.now c.requires.block.1 c.args.k c.requires.node c.requires.block.2)

pub of_ends-requires-clause-graph : goal.of_ends-requires-clause-graph
of_ends-requires-clause-graph c = subst IsGraph (sym (ap₂ multigraph_of (ap length c.vertices.ensures) c.in_ok-ends.ensures))
    (skeleton-graph c.requires.block.0 c.args.self.now c.requires.block.1 c.args.k c.requires.node)

pub of_ends-requires-clause-limits : goal.of_ends-requires-clause-limits
of_ends-requires-clause-limits c = subst IsWithinLimits (sym (ap₂ multigraph_of (ap length c.vertices.ensures) c.in_ok-ends.ensures))
    (skeleton-limits c.requires.block.0 c.args.self.now c.requires.block.1 c.args.k c.requires.node c.requires.block.2)

pub returns-clause-triconnected : goal.returns-clause-triconnected
returns-clause-triconnected c = λ rigid. IfOk-weaker c.of_ends.result _ IsTriconnected
    (λ g e. subst IsTriconnected (sym (e ∙ ap₂ multigraph_of (ap length c.vertices.ensures) c.in_ok-ends.ensures))
    (skeleton-triconnected c.requires.block.0 c.args.self.now c.requires.block.1 c.args.k (c.requires.node, rigid)).1)
    c.of_ends.ensures
