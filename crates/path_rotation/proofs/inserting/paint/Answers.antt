use Rattle.std.proofs.Common.{◌∙◌, ◌/◌, ◌*◌, ◌+◌, ℕ, List, cond, slice_index, ap, refl, arith}
use Rattle.std.proofs.Math.ListN.{set}
use Rattle.std.proofs.lemmas.List.{take_all, length-set}
use Rattle.permutations.specs.Members.{is_member}
use Rattle.permutations.proofs.Arrangements.{member-at}
use Rattle.path_rotation.proofs.Marked.{paint-more}
use Rattle.path_rotation.proofs.inserting.paint.Goals as goal

pub bounds-label-d : goal.bounds-label-d
bounds-label-d c = omega (arith, c.requires (slice_index c.args.path.now c.loop-edge.edge-index) (member-at c.args.path.now c.loop-edge.edge-index 0 c.loop-edge-test.true))

pub bounds-label-d-in-loop-edge : goal.bounds-label-d-in-loop-edge
bounds-label-d-in-loop-edge c =
    omega (arith, c.requires (slice_index c.args.path.now c.loop-edge.edge-index) (member-at c.args.path.now c.loop-edge.edge-index 0 c.loop-edge-test.true), length-set c.loop-edge.label (2 * slice_index c.args.path.now c.loop-edge.edge-index) c.args.face)

pub loop-edge-preserved : goal.loop-edge-preserved
loop-edge-preserved c = λ x l.
    paint-more c.args.label.now c.loop-edge.label c.args.path.now c.loop-edge.edge-index (2 * slice_index c.args.path.now c.loop-edge.edge-index) c.args.face c.loop-edge-test.true refl
    (omega (arith, c.requires (slice_index c.args.path.now c.loop-edge.edge-index) (member-at c.args.path.now c.loop-edge.edge-index 0 c.loop-edge-test.true)))
    c.loop-edge.invariant x
    (omega (
      arith,
      l,
      length-set (set c.loop-edge.label (2 * slice_index c.args.path.now c.loop-edge.edge-index) c.args.face) (2 * slice_index c.args.path.now c.loop-edge.edge-index + 1) c.args.face,
      length-set c.loop-edge.label (2 * slice_index c.args.path.now c.loop-edge.edge-index) c.args.face,
    ))

pub returns-clause-painted : goal.returns-clause-painted
returns-clause-painted c = λ d l.
    c.loop-edge.invariant d (omega (arith, l)) ∙ ap (λ (s : List ℕ). cond (is_member (d / 2) s) c.args.face (slice_index c.args.label.now d)) (take_all c.loop-edge.edge-index c.args.path.now c.loop-edge-test.false)
