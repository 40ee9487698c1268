use Rattle.std.proofs.Common.{◌==◌, ℕ, ◌<◌, length, slice_index, sym, ap, ◌∙◌, subst}
use Rattle.std.proofs.lemmas.Bool.{eq-eqb, ne_eqb}
use Rattle.permutations.proofs.Arrangements.{member-at}
use Rattle.dart_maps.specs.Map.{twin}
use Rattle.path_rotation.proofs.DartsAt.{filter-pass, filter-fail}
use Rattle.path_rotation.proofs.fitting.keep_passing.Goals as goal
use Rattle.path_rotation.proofs.fitting.keep_passing.Goals.{then-passed-face+in_ok-push, else-passed-face}

pub bounds-label-twin : goal.bounds-label-twin
bounds-label-twin c = subst (λ (z : ℕ). z < length c.args.label.now) (sym c.twin.ensures.is) (c.requires.within (slice_index c.args.darts.now c.loop-d.d-index) (member-at c.args.darts.now c.loop-d.d-index 0 c.loop-d-test.true))

pub bounds-passed-face : goal.bounds-passed-face
bounds-passed-face c = c.requires.labels c.twin.result (subst (λ (z : ℕ). z < length c.args.label.now) (sym c.twin.ensures.is) (c.requires.within (slice_index c.args.darts.now c.loop-d.d-index) (member-at c.args.darts.now c.loop-d.d-index 0 c.loop-d-test.true)))

pub loop-d-preserved : goal.loop-d-preserved
loop-d-preserved c =
    let p = λ (d : ℕ). slice_index c.args.passed.now (slice_index c.args.label.now (twin d)) == c.args.stamp in
    elim c.if-passed-face.branch [
      | then-passed-face+in_ok-push w ↦
          rw (w.kept-is, w.in_ok-push.ensures.items, c.loop-d.invariant)
          (sym (filter-pass p c.args.darts.now c.loop-d.d-index c.loop-d-test.true (eq-eqb (slice_index c.args.passed.now (slice_index c.args.label.now (twin (slice_index c.args.darts.now c.loop-d.d-index)))) c.args.stamp
          (ap (λ (z : ℕ). slice_index c.args.passed.now (slice_index c.args.label.now z)) (sym c.twin.ensures.is) ∙ w.if-passed-face.true))))
      | else-passed-face w ↦
          rw (w.kept-is, c.loop-d.invariant)
          (sym (filter-fail p c.args.darts.now c.loop-d.d-index c.loop-d-test.true (ne_eqb (slice_index c.args.passed.now (slice_index c.args.label.now (twin (slice_index c.args.darts.now c.loop-d.d-index)))) c.args.stamp
          (λ e. w.if-passed-face.false (ap (λ (z : ℕ). slice_index c.args.passed.now (slice_index c.args.label.now z)) c.twin.ensures.is ∙ e)))))
    ]
