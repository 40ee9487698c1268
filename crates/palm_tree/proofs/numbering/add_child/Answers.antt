use Rattle.std.proofs.Common.{arith}
use Rattle.search_forest.proofs.Grown.{lower-in}
use Rattle.palm_tree.proofs.numbering.add_child.Goals as goal

pub hangs-requires : goal.hangs-requires
hangs-requires c = omega (arith, c.lower_end-lower.ensures, lower-in c.args.graph.now c.requires.graph c.args.search.now c.requires.over c.args.edge c.requires.edge_in, c.requires.low.first_places)
