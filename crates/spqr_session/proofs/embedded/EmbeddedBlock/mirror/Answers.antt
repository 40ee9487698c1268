use Rattle.std.proofs.Common.{subst}
use Rattle.skel_embed.specs.declared.planes.Outcome.{Outcome}
use Rattle.spqr_session.specs.Embedded.{IsEmbedded}
use Rattle.spqr_session.proofs.BoardSteps.{mirrored-right}
use Rattle.spqr_session.proofs.embedded.EmbeddedBlock.mirror.Goals.{in-Plane, in_default}
use Rattle.spqr_session.proofs.embedded.EmbeddedBlock.mirror.Goals as goal

pub invariant_of-self : goal.invariant_of-self
invariant_of-self c =
    let part = c.self.inside.part in
    elim c.match-self.branch [
      | in-Plane w ↦
          let was = subst (λ (o : Outcome). IsEmbedded part o) w.in-Plane.is c.self.invariant in
          rw w.self-inside-is (mirrored-right part w.in-Plane.plane w.mirror.new.self was w.mirror.ensures.mirrored w.mirror.ensures.rest)
      | in_default w ↦ rw w.self-inside-is c.self.invariant
    ]
