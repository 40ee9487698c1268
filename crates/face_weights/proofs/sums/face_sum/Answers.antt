use Rattle.std.proofs.Common.{◌≡◌, ◌<◌, ◌*◌, length, ap, ◌∙◌, subst, arith}
use Rattle.permutations.specs.Count.{sum_below}
use Rattle.multigraph.specs.Graph.{max_edges}
use Rattle.face_weights.specs.Numbers.{number_at}
use Rattle.face_weights.proofs.Totals.{share, share-few, share-face}
use Rattle.face_weights.proofs.sums.face_sum.Goals as goal

pub overflow_add-sum : goal.overflow_add-sum
overflow_add-sum c = omega (
  arith,
  c.loop-d.invariant,
  share-few c.args.numbers.now c.args.weights.now (number_at c.args.numbers.now c.args.dart) c.loop-d.d (length c.args.weights.now) (2 * max_edges) (omega (arith, c.loop-d-test.true, c.loop-d.auto.d-end, c.requires.number)) c.requires.few,
)

pub returns : goal.returns
returns c = λ g r n.
    let all : c.loop-d.d ≡ length c.args.numbers.now = omega (arith, c.loop-d-test.false, c.loop-d.auto.d-end) in
    c.loop-d.invariant ∙ ap (λ z. sum_below z (share c.args.numbers.now c.args.weights.now (number_at c.args.numbers.now c.args.dart))) all
    ∙ share-face g r c.args.numbers.now c.args.weights.now n c.args.dart (subst (λ z. c.args.dart < z) n.darts c.requires.dart)
