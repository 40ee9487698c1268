use Rattle.std.proofs.Common.{◌<◌, List, length, subst, sym, arith}
use Rattle.pair_split.specs.declared.components.Item.{Item}
use Rattle.spqr_tree.proofs.UpLinks.{first-in, root-stands}
use Rattle.spqr_tree.proofs.tour.root_of.Goals as goal

-- a node has items
pub bounds-items-0 : goal.bounds-items-0
bounds-items-0 c = let t = c.requires in subst (λ (z : List Item). 0 < length z) (sym c.items.ensures) (first-in t.0 c.args.nodes.now t.1 t.2 c.loop-k.k (omega (arith, c.loop-k-test.true)))

-- one of the nodes is the root
pub unreachable-requires : goal.unreachable-requires
unreachable-requires c = let t = c.requires in let r = root-stands t.0 c.args.nodes.now t.1 t.2 in c.loop-k.invariant r.0 (omega (arith, r.1, c.loop-k-test.false)) r.2
