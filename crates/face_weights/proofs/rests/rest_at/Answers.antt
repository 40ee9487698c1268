use Rattle.std.proofs.Common.{◌≢◌, ◌<◌, ◌≤◌, ◌*◌, sym, ◌∙◌, subst}
use Rattle.permutations.specs.Count.{sum_below}
use Rattle.multigraph.specs.Graph.{max_edges}
use Rattle.pair_split.specs.Tutte.{node_at}
use Rattle.pair_split.specs.declared.components.Kind.TheVariants.{P}
use Rattle.skeletons.specs.Families.{skeleton_graph, system_at}
use Rattle.face_weights.specs.Sums.{weight_in}
use Rattle.face_weights.proofs.NodeCode.{other-kind, bond-several, row-numbers, rest-pairs, rest-face, numbers-edges}
use Rattle.face_weights.proofs.rests.rest_at.Goals as goal

pub heaviest_other-requires : goal.heaviest_other-requires
heaviest_other-requires c = record { several = subst (λ n. 2 ≤ n) (sym c.requires.number) (bond-several c.requires.block.0 c.args.tree.now c.requires.block.1 c.args.k c.requires.node (sym c.in-P.ensures)) }

pub at-requires : goal.at-requires
at-requires c = subst (λ n. c.args.k < n) (sym c.requires.faces.1.each) c.requires.node

pub face_rest-requires-clause-faces : goal.face_rest-requires-clause-faces
face_rest-requires-clause-faces c =
    let family = c.requires.faces.0 in
    let read = row-numbers c.args.tree.now family c.args.faces.now c.requires.faces.1 c.args.k c.requires.node c.at.result.now c.at.ensures in
    (skeleton_graph c.args.tree.now c.args.k, system_at family c.args.k, read, numbers-edges c.requires.block.0 c.args.tree.now c.requires.block.1 c.args.k c.requires.node family c.args.weights.now c.requires.number c.at.result.now read)

pub face_rest-requires-clause-few : goal.face_rest-requires-clause-few
face_rest-requires-clause-few c = subst (λ n. sum_below n (weight_in c.args.weights.now) ≤ 2 * max_edges) (sym c.requires.number) c.requires.few

pub face_rest-requires-clause-item : goal.face_rest-requires-clause-item
face_rest-requires-clause-item c = subst (λ n. c.args.item < n) (sym c.requires.number) c.requires.item

pub returns-in-P : goal.returns-in-P
returns-in-P c = λ family know. rest-pairs c.requires.block.0 c.args.tree.now c.requires.block.1 c.args.k c.requires.node family c.args.weights.now c.requires.number c.args.item c.heaviest_other.result (sym c.in-P.ensures) c.heaviest_other.ensures

pub returns-in-S : goal.returns-in-S
returns-in-S c = λ family know.
    let other : (node_at c.args.tree.now c.args.k).kind ≢ P = λ e. other-kind c.kind.result c.in-S.is (c.kind.ensures ∙ e) in
    let read = row-numbers c.args.tree.now family c.args.faces.now know c.args.k c.requires.node c.at.result.now c.at.ensures in
    rest-face c.requires.block.0 c.args.tree.now c.requires.block.1 c.args.k c.requires.node family c.args.weights.now c.requires.number c.args.item c.face_rest.result other
    (c.face_rest.ensures (skeleton_graph c.args.tree.now c.args.k) (system_at family c.args.k) read (numbers-edges c.requires.block.0 c.args.tree.now c.requires.block.1 c.args.k c.requires.node family c.args.weights.now c.requires.number c.at.result.now read))
