use Rattle.std.proofs.Common.{refl, arith}
use Rattle.pair_split.proofs.GraphFamily.{one_block-tight}
use Rattle.spqr_tree.proofs.FewComponents.{few-components}
use Rattle.spqr_tree.proofs.arranging.groups_of_block.Goals as goal

-- the components are few, as the edges are
pub groups_of-requires : goal.groups_of-requires
groups_of-requires c = (refl, ((c.args.g.now, c.requires.split), omega (arith, few-components c.args.g.now c.args.comps c.requires.split (one_block-tight c.args.g.now c.requires.block), c.edge_count.ensures.limits.few_edges)))

-- so are the groups
pub returns-clause-few : goal.returns-clause-few
returns-clause-few c = omega (arith, c.in_ok-merging.ensures.number, few-components c.args.g.now c.args.comps c.requires.split (one_block-tight c.args.g.now c.requires.block), c.edge_count.ensures.limits.few_edges)
