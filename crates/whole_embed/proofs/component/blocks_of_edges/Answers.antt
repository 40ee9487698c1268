use Rattle.std.proofs.Common.{map, slice_index, ap, ◌∙◌}
use Rattle.std.proofs.lemmas.List.{take_all}
use Rattle.whole_embed.proofs.BlockTables.{picked}
use Rattle.whole_embed.proofs.component.blocks_of_edges.Goals as goal

pub returns : goal.returns
returns c =
    let table = c.in_ok-table.table.items in
    c.loop-edge.invariant ∙ (ap (map (slice_index table)) (take_all c.loop-edge.edge-index c.args.edges.now c.loop-edge-test.false)
    ∙ picked c.args.graph.now c.args.blocks.now c.requires.structure c.keeps_limits.ensures.graph table c.args.edges.now (c.in_ok-table.ensures {u = tt}) c.requires.within)
