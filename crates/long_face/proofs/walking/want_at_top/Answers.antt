use Rattle.std.proofs.Common.{◌≡◌, ℕ, ◌<◌, List, length, sym, ap, ◌∙◌, subst, arith}
use Rattle.pair_split.specs.Tutte.{node_at}
use Rattle.pair_split.specs.declared.components.Kind.{Kind}
use Rattle.face_weights.specs.Weights.{weight_of}
use Rattle.skeleton_faces.specs.Faces.{IsSkeletonDart}
use Rattle.long_face.specs.Heaviest.{IsGreatest, number_in}
use Rattle.long_face.specs.Ready.{NodeRows, AreRowsOf}
use Rattle.long_face.specs.Settled.{IsBest}
use Rattle.skel_compose.proofs.Found.{items-few}
use Rattle.long_face.proofs.RowLemmas.{items-some, items-several}
use Rattle.long_face.proofs.RowsMade.{known-ready}
use Rattle.long_face.proofs.Walked.{greatest-top}
use Rattle.long_face.proofs.walking.want_at_top.Goals as goal

pub fill-requires-clause-node : goal.fill-requires-clause-node
fill-requires-clause-node c =
    let y = c.requires.known in
    omega (arith, c.requires.top, y.2.weighed.top.node)

pub greatest_want-requires-clause-few : goal.greatest_want-requires-clause-few
greatest_want-requires-clause-few c =
    let y = c.requires.known in
    let l : c.args.top < length c.args.tree.now = omega (arith, c.requires.top, y.2.weighed.top.node) in
    let row = c.in_ok-fill.ensures y.0 y.1 y.2 in
    omega (arith, ap length c.deref.ensures.value, ap (λ (z : NodeRows). length z.weights) c.rows.view_is, row.items, items-few y.0 c.args.tree.now y.2.block c.args.top l y.2.limits)

pub greatest_want-requires-clause-some : goal.greatest_want-requires-clause-some
greatest_want-requires-clause-some c =
    let y = c.requires.known in
    let l : c.args.top < length c.args.tree.now = omega (arith, c.requires.top, y.2.weighed.top.node) in
    let row = c.in_ok-fill.ensures y.0 y.1 y.2 in
    omega (arith, ap length c.deref.ensures.value, ap (λ (z : NodeRows). length z.weights) c.rows.view_is, row.items, items-some y.0 c.args.tree.now y.2.block c.args.top l)

pub greatest_want-requires-clause-several : goal.greatest_want-requires-clause-several
greatest_want-requires-clause-several c = λ e.
    let y = c.requires.known in
    let l : c.args.top < length c.args.tree.now = omega (arith, c.requires.top, y.2.weighed.top.node) in
    let row = c.in_ok-fill.ensures y.0 y.1 y.2 in
    omega (arith, ap length c.deref.ensures.value, ap (λ (z : NodeRows). length z.weights) c.rows.view_is, row.items, items-several y.0 c.args.tree.now y.2.block c.args.top l (sym c.kind.ensures ∙ e))

pub greatest_want-requires-clause-sums : goal.greatest_want-requires-clause-sums
greatest_want-requires-clause-sums c =
    let y = c.requires.known in
    let row = c.in_ok-fill.ensures y.0 y.1 y.2 in
    omega (arith, ap length c.deref.ensures.value, ap length c.deref-2.ensures.value, ap (λ (z : NodeRows). length z.weights) c.rows.view_is, ap (λ (z : NodeRows). length z.sums) c.rows.view_is, row.darts)

pub returns : goal.returns
returns c = λ g family y.
    let tree = c.args.tree.now in
    let weighing = c.args.weights.now in
    let weight : ℕ → ℕ → ℕ = weight_of tree weighing in
    let rows = c.fill.new.rows in
    let top : c.args.top ≡ weighing.top = c.requires.top in
    let row : AreRowsOf tree family weight c.args.top rows = c.in_ok-fill.ensures g family y in
    let weights : c.deref.result.now ≡ rows.weights = c.deref.ensures.value ∙ ap (λ (z : NodeRows). z.weights) c.rows.view_is in
    let sums : c.deref-2.result.now ≡ rows.sums = c.deref-2.ensures.value ∙ ap (λ (z : NodeRows). z.sums) c.rows.view_is in
    let w = c.greatest_want.result in
    let kind = c.kind.result in
    subst (λ z. IsSkeletonDart tree z w.dart × IsBest tree family weight z w weighing.most) (sym top)
    (greatest-top g tree family weight weighing.top weighing.most (known-ready g tree family c.args.faces.now weighing y) rows (subst (λ z. AreRowsOf tree family weight z rows) top row) w
    (subst (λ z. IsGreatest (node_at tree z).kind (length rows.weights) (number_in rows.weights) (number_in rows.sums) w) top
    (subst (λ (z : Kind). IsGreatest z (length rows.weights) (number_in rows.weights) (number_in rows.sums) w) c.kind.ensures
    (subst (λ (z : List ℕ). IsGreatest kind (length z) (number_in z) (number_in rows.sums) w) weights
    (subst (λ (z : List ℕ). IsGreatest kind (length c.deref.result.now) (number_in c.deref.result.now) (number_in z) w) sums c.greatest_want.ensures)))))
