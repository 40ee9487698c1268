use Rattle.std.proofs.Common.{[], ◌∷◌, sym, subst}
use Rattle.std.proofs.lemmas.List.Elements.{All-nil, All-cons}
use Rattle.skel_embed.specs.Values.{as_move}
use Rattle.skel_embed.specs.declared.planes.Outcome.{Outcome}
use Rattle.spqr_session.specs.Embedded.{BlockView, block_view, IsEmbedded}
use Rattle.embed_moves.specs.Made.{Fits}
use Rattle.spqr_session.proofs.BoardSteps.{carried-right}
use Rattle.spqr_session.proofs.embedded.EmbeddedBlock.carry.Goals.{in-Plane, in_default}
use Rattle.spqr_session.proofs.embedded.EmbeddedBlock.carry.Goals as goal

pub invariant_of-self : goal.invariant_of-self
invariant_of-self c =
    let part = c.self.inside.part in
    let one = as_move c.args.one.now in
    let right = subst (λ (v : BlockView). Fits v.tree.nodes one) (sym c.self.view_is) c.requires in
    elim c.match-self.branch [
      | in-Plane w ↦
          let p = w.in-Plane.plane in
          let was = subst (λ (o : Outcome). IsEmbedded part o) w.in-Plane.is c.self.invariant in
          let fits = subst (λ (o : Outcome). Fits (block_view part o).tree.nodes one) w.in-Plane.is right in
          rw w.self-inside-is (carried-right part p w.carry_one.new.plane (one ∷ []) was (All-cons (Fits p.tree) one [] fits (All-nil (Fits p.tree))) w.carry_one.ensures)
      | in_default w ↦ rw w.self-inside-is c.self.invariant
    ]
