-- The ends of an item are vertices of the node.
use Rattle.spqr_tree.proofs.SkeletonMade.{ends-held}
use Rattle.spqr_tree.proofs.tree.Tree.places_of_ends.Goals as goal

pub place-requires-clause-vertex : goal.place-requires-clause-vertex
place-requires-clause-vertex c = (ends-held c.requires.block.0 c.args.self.now c.requires.block.1 c.args.k c.requires.node c.items-items.result.now c.loop-item.item-index c.items-items.ensures c.loop-item-test.true).0

pub place-requires-in-loop-item-clause-vertex : goal.place-requires-in-loop-item-clause-vertex
place-requires-in-loop-item-clause-vertex c = (ends-held c.requires.block.0 c.args.self.now c.requires.block.1 c.args.k c.requires.node c.items-items.result.now c.loop-item.item-index c.items-items.ensures c.loop-item-test.true).1
