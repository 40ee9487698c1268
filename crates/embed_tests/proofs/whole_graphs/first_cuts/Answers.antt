use Rattle.std.proofs.Common.{◌<◌, arith}
use Rattle.embed_tests.proofs.Ready.{in-plane, have-planes, ready-first}
use Rattle.embed_tests.proofs.whole_graphs.first_cuts.Goals as goal

pub first-requires-clause-blocks : goal.first-requires-clause-blocks
first-requires-clause-blocks c = in-plane c.args.graph.now c.args.blocks.now c.args.c c.requires.structure c.args.all.now c.requires.members

pub first-requires-clause-planes : goal.first-requires-clause-planes
first-requires-clause-planes c = have-planes c.args.graph.now c.args.blocks.now c.args.c c.requires.structure c.args.all.now c.requires.members

pub returns : goal.returns
returns c =
    let less : c.args.c < c.args.blocks.now.component_count = omega (arith, c.if-c-component_count.false, c.component_count.ensures) in
    let made = c.in_ok-cuts.ensures {u = tt} in
    ready-first c.args.graph.now c.args.blocks.now c.args.c c.requires.structure c.args.all.now c.requires.members c.in_ok-cuts.cuts c.keeps_limits.ensures.graph c.keeps_limits.ensures.limits less made.component made.first c.keeps.ensures
