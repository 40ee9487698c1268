use Rattle.std.proofs.Common.{[], refl, arith}
use Rattle.std.proofs.lemmas.List.{ext_get_or}
use Rattle.rotations.proofs.system.Rotation.same.Goals as goal

-- as many vertices, and the same order at each
pub returns : goal.returns
returns c = (
  (λ h. ext_get_or [] c.args.self.now c.args.other.now (omega (arith, c.vertex_count.ensures, c.vertex_count-2.ensures, c.if-vertex_count.false))
      (λ w l. c.loop-v.invariant w (omega (arith, l, c.loop-v-test.false, c.vertex_count-v-end.ensures)))),
  (λ h. refl),
)
