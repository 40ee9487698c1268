use Rattle.std.proofs.Common.{◌&&◌, get_or, refl, arith}
use Rattle.std.specs.Bool.{beq}
use Rattle.permutations.proofs.Arrangements.{member-at}
use Rattle.palm_tree.specs.Growing.{is_tree_edge, hangs}
use Rattle.palm_tree.proofs.Sorted.{children-longer}
use Rattle.palm_tree.proofs.numbering.add_children.Goals as goal

pub add_child-requires-clause-edge_in : goal.add_child-requires-clause-edge_in
add_child-requires-clause-edge_in g c = c.requires.within (get_or c.args.edges.now c.loop-edge.edge-index 0) (member-at c.args.edges.now c.loop-edge.edge-index 0 c.loop-edge-test.true)

pub loop-edge-preserved : goal.loop-edge-preserved
loop-edge-preserved g c =
    let e = get_or c.args.edges.now c.loop-edge.edge-index 0 in (
      children-longer c.args.search.now c.args.low.now c.args.hanging c.args.edges.now c.args.children.now.items c.loop-edge.edge-index c.loop-edge-test.true (is_tree_edge c.args.search.now e && beq (hangs c.args.low.now (get_or c.args.search.now.lower e 0)) c.args.hanging) refl
          c.loop-edge.children.items c.add_child.new.children.items c.loop-edge.invariant.0 (c.in_ok-add_child.ensures {u = tt}),
      omega (arith, c.tick.ensures, c.loop-edge.invariant.1),
    )
