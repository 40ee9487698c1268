use Rattle.std.proofs.Common.{◌≡◌, ◌<◌, ◌≤◌, length, sym, ap, ◌∙◌, subst, arith, IfOk}
use Rattle.std.proofs.lemmas.Grind.{common_steps}
use Rattle.multigraph.specs.Build.{multigraph_of}
use Rattle.made_graph.specs.Made.{drawn, edge_drawn}
use Rattle.made_graph.proofs.Turns.{making-step, making-over, making-graph, making-limits}
use Rattle.made_graph.proofs.making.make_graph.Goals as goal

pub loop-first-preserved : goal.loop-first-preserved
loop-first-preserved c =
    let less : length c.loop-first.ends.items < c.args.n = grind (arith, common_steps) in
    let edge : c.edge_drawn-edge.result ≡ edge_drawn (drawn c.loop-first.x) (length c.loop-first.ends.items) = grind (arith, common_steps) in
    making-step c.args.n c.args.seed (multigraph_of c.loop-first.vertices c.loop-first.ends.items) (multigraph_of c.in_ok-vertices.vertices c.grow.new.ends.items) c.loop-first.x
    c.edge_drawn-edge.result c.operation_drawn.result c.drawn-x.result less (c.drawn-x.ensures ∙ ap drawn c.drawn-first.ensures) edge c.operation_drawn.ensures c.in_ok-vertices.ensures c.loop-first.invariant

pub of_ends-requires-clause-graph : goal.of_ends-requires-clause-graph
of_ends-requires-clause-graph c =
    let reach : c.args.n ≤ length c.loop-first.ends.items = grind (arith, common_steps) in
    making-graph c.args.n c.args.seed (multigraph_of c.loop-first.vertices c.loop-first.ends.items) c.loop-first.x c.requires.least reach c.loop-first.invariant

pub of_ends-requires-clause-limits : goal.of_ends-requires-clause-limits
of_ends-requires-clause-limits c =
    making-limits c.args.n c.args.seed (multigraph_of c.loop-first.vertices c.loop-first.ends.items) c.loop-first.x c.requires.most c.loop-first.invariant

pub returns : goal.returns
returns c =
    let reach : c.args.n ≤ length c.loop-first.ends.items = grind (arith, common_steps) in
    subst (λ h. IfOk c.of_ends.result (λ graph. graph ≡ h))
    (sym (making-over c.args.n c.args.seed (multigraph_of c.loop-first.vertices c.loop-first.ends.items) c.loop-first.x reach c.loop-first.invariant)) c.of_ends.ensures
