use Rattle.std.proofs.Common.{◌<◌, List, length, sym, subst, arith}
use Rattle.pair_split.specs.declared.components.Item.{Item}
use Rattle.spqr_tree.proofs.UpLinks.{first-in}
use Rattle.skel_decompose.proofs.ordering.first_parents.Goals as goal

-- each node has an item
pub parent_by-requires : goal.parent_by-requires
parent_by-requires c =
    let b = c.requires.block in
    subst (λ (z : List Item). 0 < length z) (sym c.items.ensures) (first-in b.0 c.args.tree.now b.1.tree b.1.block.has_edge c.loop-k.k (omega (arith, c.loop-k-test.true, c.node_count-k-end.ensures)))
