use Rattle.std.proofs.Common.{◌*◌, ◌≤◌, ℕ, List, length, sym, ap, ◌∙◌, subst, arith}
use Rattle.permutations.specs.Count.{sum_below}
use Rattle.multigraph.specs.Graph.{max_edges}
use Rattle.skeletons.specs.Families.{skeleton_graph, system_at}
use Rattle.face_weights.specs.Sums.{weight_in, AreFaceSums}
use Rattle.face_weights.proofs.NodeCode.{row-numbers}
use Rattle.long_face.proofs.RowsMade.{row-number, row-light, row-are}
use Rattle.long_face.proofs.rows.fill.Goals as goal

pub of_node-requires-clause-block : goal.of_node-requires-clause-block
of_node-requires-clause-block c = let y = c.requires.known in (y.0, y.2.block, y.2.limits)

pub of_node-requires-clause-sized : goal.of_node-requires-clause-sized
of_node-requires-clause-sized c = let y = c.requires.known in y.2.weighed.sized

pub at-numbers-requires : goal.at-numbers-requires
at-numbers-requires c = let y = c.requires.known in omega (arith, y.2.numbers.each, c.requires.node)

pub face_sums-requires-clause-faces : goal.face_sums-requires-clause-faces
face_sums-requires-clause-faces c =
    let y = c.requires.known in (
      skeleton_graph c.args.tree.now c.args.k,
      system_at y.1 c.args.k,
      row-numbers c.args.tree.now y.1 c.args.faces.now y.2.numbers c.args.k c.requires.node c.at-numbers.result.now c.at-numbers.ensures,
      ap (λ (z : List ℕ). length z) c.deref.ensures.value
          ∙ row-number y.0 c.args.tree.now y.2.block y.2.limits y.1 y.2.numbers.systems c.args.weights.now y.2.weighed c.args.k c.requires.node c.of_node.new.weights.items c.in_ok-of_node.ensures.number c.in_ok-of_node.ensures.each,
    )

pub face_sums-requires-clause-few : goal.face_sums-requires-clause-few
face_sums-requires-clause-few c =
    let y = c.requires.known in
    subst (λ (z : List ℕ). sum_below (length z) (weight_in z) ≤ 2 * max_edges) (sym c.deref.ensures.value)
    (row-light y.0 c.args.tree.now y.2.block y.2.limits y.1 y.2.numbers.systems c.args.weights.now y.2.weighed c.args.k c.requires.node c.of_node.new.weights.items c.in_ok-of_node.ensures.number c.in_ok-of_node.ensures.each)

pub returns : goal.returns
returns c = λ g family y.
    let tree = c.args.tree.now in
    let k = c.args.k in
    let read = row-numbers tree family c.args.faces.now y.numbers k c.requires.node c.at-numbers.result.now c.at-numbers.ensures in
    let sums : AreFaceSums (skeleton_graph tree k) (system_at family k) c.of_node.new.weights.items c.face_sums.new.sums.items =
    subst (λ (z : List ℕ). AreFaceSums (skeleton_graph tree k) (system_at family k) z c.face_sums.new.sums.items) c.deref.ensures.value (c.in_ok-face_sums.ensures (skeleton_graph tree k) (system_at family k) read) in
    row-are g tree y.block y.limits family y.numbers.systems c.args.weights.now y.weighed k c.requires.node c.of_node.new.weights.items c.in_ok-of_node.ensures.number c.in_ok-of_node.ensures.each c.face_sums.new.sums.items sums
