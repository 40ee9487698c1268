use Rattle.std.proofs.Common.{◌≡◌, ℕ, ◌<◌, length, slice_index, sym, subst, arith}
use Rattle.permutations.proofs.Arrangements.{member-at}
use Rattle.dart_maps.specs.Map.{twin}
use Rattle.path_rotation.proofs.Stamps.{stamp-more, at-members}
use Rattle.path_rotation.proofs.fitting.stamp_faces.Goals as goal

pub bounds-label-twin : goal.bounds-label-twin
bounds-label-twin c = subst (λ (z : ℕ). z < length c.args.label.now) (sym c.twin.ensures.is) (c.requires.within (slice_index c.args.darts.now c.loop-d.d-index) (member-at c.args.darts.now c.loop-d.d-index 0 c.loop-d-test.true))

pub bounds-passed-face : goal.bounds-passed-face
bounds-passed-face c = omega (arith, c.requires.labels c.twin.result (subst (λ (z : ℕ). z < length c.args.label.now) (sym c.twin.ensures.is) (c.requires.within (slice_index c.args.darts.now c.loop-d.d-index) (member-at c.args.darts.now c.loop-d.d-index 0 c.loop-d-test.true))))

pub loop-d-preserved : goal.loop-d-preserved
loop-d-preserved c =
    rw c.twin.ensures.is
    (stamp-more (λ j. slice_index c.args.label.now (twin (slice_index c.args.darts.now j))) c.loop-d.passed c.loop-d.d-index c.args.stamp
    (omega (arith, c.requires.labels (twin (slice_index c.args.darts.now c.loop-d.d-index)) (c.requires.within (slice_index c.args.darts.now c.loop-d.d-index) (member-at c.args.darts.now c.loop-d.d-index 0 c.loop-d-test.true))))
    c.loop-d.invariant)

pub returns-clause-stamped : goal.returns-clause-stamped
returns-clause-stamped c = at-members c.args.darts.now (λ d. slice_index c.loop-d.passed (slice_index c.args.label.now (twin d)) ≡ c.args.stamp) (λ j l. c.loop-d.invariant j (omega (arith, l, c.loop-d-test.false)))
