use Rattle.std.proofs.Common.{◌+◌, sym, subst, arith}
use Rattle.multigraph.specs.Graph.{edge_count}
use Rattle.search_forest.proofs.Lows.{first-in}
use Rattle.blocks.specs.Finding.{AreHeads}
use Rattle.blocks.proofs.Heads.{heads-more}
use Rattle.blocks.proofs.finding.heads.Goals as goal

pub is_head-requires-clause-reached_within : goal.is_head-requires-clause-reached_within
is_head-requires-clause-reached_within c =
    omega (arith, first-in c.args.graph.now c.requires.graph c.args.search.now c.requires.over c.args.low.now (edge_count c.args.graph.now) c.args.search.now.order c.requires.low c.loop-vertex.vertex (omega (arith, c.loop-vertex-test.true, c.vertex_count-vertex-end.ensures.value)), c.requires.over.forest.places.depth)

pub loop-vertex-preserved : goal.loop-vertex-preserved
loop-vertex-preserved c =
    subst (AreHeads c.args.search.now c.args.low.now (c.loop-vertex.vertex + 1)) (sym c.in_ok-push.ensures.items)
    (heads-more c.args.search.now c.args.low.now c.loop-vertex.vertex c.loop-vertex.heads.items c.is_head.result c.loop-vertex.invariant c.is_head.ensures.head c.is_head.ensures.other)
