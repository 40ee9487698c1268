use Rattle.std.proofs.Common.{◌==◌, ℕ, ◌<◌, length, slice_index, sym, ap, ◌∙◌, subst}
use Rattle.std.proofs.lemmas.Bool.{eq-eqb, ne_eqb}
use Rattle.permutations.proofs.Arrangements.{member-at}
use Rattle.dart_maps.specs.Map.{twin}
use Rattle.path_rotation.proofs.DartsAt.{filter-pass, filter-fail}
use Rattle.path_rotation.proofs.fitting.keep_in_face.Goals as goal
use Rattle.path_rotation.proofs.fitting.keep_in_face.Goals.{then-label-twin+in_ok-push, else-label-twin}

pub bounds-label-twin : goal.bounds-label-twin
bounds-label-twin c = subst (λ (z : ℕ). z < length c.args.label.now) (sym c.twin.ensures.is) (c.requires.within (slice_index c.args.darts.now c.loop-d.d-index) (member-at c.args.darts.now c.loop-d.d-index 0 c.loop-d-test.true))

pub loop-d-preserved : goal.loop-d-preserved
loop-d-preserved c =
    let p = λ (d : ℕ). slice_index c.args.label.now (twin d) == c.args.face in
    elim c.if-label-twin.branch [
      | then-label-twin+in_ok-push w ↦
          rw (w.kept-is, w.in_ok-push.ensures.items, c.loop-d.invariant)
          (sym (filter-pass p c.args.darts.now c.loop-d.d-index c.loop-d-test.true (eq-eqb (slice_index c.args.label.now (twin (slice_index c.args.darts.now c.loop-d.d-index))) c.args.face
          (ap (slice_index c.args.label.now) (sym c.twin.ensures.is) ∙ w.if-label-twin.true))))
      | else-label-twin w ↦
          rw (w.kept-is, c.loop-d.invariant)
          (sym (filter-fail p c.args.darts.now c.loop-d.d-index c.loop-d-test.true (ne_eqb (slice_index c.args.label.now (twin (slice_index c.args.darts.now c.loop-d.d-index))) c.args.face
          (λ e. w.if-label-twin.false (ap (slice_index c.args.label.now) c.twin.ensures.is ∙ e)))))
    ]
