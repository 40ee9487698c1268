use Rattle.std.proofs.Common.{◌≡◌, ◌<◌, ◌*◌, List, length, ap, subst, arith}
use Rattle.multigraph.specs.Graph.{edge_count}
use Rattle.faces.specs.Steps.{AreStepsBelow}
use Rattle.faces.proofs.FaceSteps.{steps-more}
use Rattle.pair_split.specs.Tutte.{node_at}
use Rattle.pair_split.specs.declared.components.Item.{Item}
use Rattle.skeletons.specs.Families.{skeleton_graph, system_at}
use Rattle.skeletons.proofs.NodeItems.{nth_item}
use Rattle.skeleton_runs.proofs.SkeletonGraph.{graph-edges, item-edge, skeleton-graph}
use Rattle.skel_compose.proofs.Found.{items-few}
use Rattle.skel_decompose.proofs.Stepped.{over-first, over-second}
use Rattle.skel_decompose.proofs.steps.face_steps.Goals as goal

pub overflow_cast-i-end : goal.overflow_cast-i-end
overflow_cast-i-end c = omega (arith, ap length c.items-items.ensures, items-few c.requires.block.0 c.args.tree.now c.requires.block.1 c.args.k c.requires.node c.requires.block.2)

-- one item more
pub loop-i-preserved : goal.loop-i-preserved
loop-i-preserved c = λ family f h.
    let g = c.requires.block.0 in
    let nodes = c.args.tree.now in
    let b = c.requires.block.1 in
    let k = c.args.k in
    let i = c.loop-i.i in
    let l : i < length (node_at nodes k).items = subst (λ (z : List Item). i < length z) c.items-items.ensures (omega (arith, c.loop-i-test.true, c.loop-i.auto.i-end)) in
    let more = steps-more (skeleton_graph nodes k) (system_at family k) i c.loop-i.steps.items c.onward.result c.onward-in-loop-i.result (skeleton-graph g nodes b k c.requires.node) (item-edge g nodes b k c.requires.node i l) (c.loop-i.invariant family f h)
    (over-second g nodes b k c.requires.node family i c.onward.result (nth_item c.items-items.result.now i).b l (c.onward.ensures family f h) (ap (λ (z : List Item). (nth_item z i).b) c.items-items.ensures))
    (over-first g nodes b k c.requires.node family i c.onward-in-loop-i.result (nth_item c.items-items.result.now i).a l (c.onward-in-loop-i.ensures family f h) (ap (λ (z : List Item). (nth_item z i).a) c.items-items.ensures)) in
    rw (c.in_ok-push-2.ensures.items, c.in_ok-push.ensures.items) more

pub returns : goal.returns
returns c = λ family f h.
    let nodes = c.args.tree.now in
    let k = c.args.k in
    let all : 2 * c.loop-i.i ≡ 2 * edge_count (skeleton_graph nodes k) = omega (arith, c.loop-i-test.false, c.loop-i.auto.i-end, ap length c.items-items.ensures, graph-edges c.requires.block.0 nodes c.requires.block.1 k c.requires.node) in
    subst (λ n. AreStepsBelow (skeleton_graph nodes k) (system_at family k) n c.loop-i.steps.items) all (c.loop-i.invariant family f h)
