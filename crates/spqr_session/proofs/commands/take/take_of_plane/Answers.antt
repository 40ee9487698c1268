use Rattle.std.proofs.Common.{◌≡◌, subst}
use Rattle.skeletons.specs.Lists.{KeepsChoices}
use Rattle.skel_embed.specs.Block.{BlockState, lock_at}
use Rattle.skel_embed.specs.Taken.{IsTakeRefusal}
use Rattle.skel_embed.specs.declared.taking.TakeFault.{TakeFault}
use Rattle.skel_embed.specs.declared.taking.TakeFault.TheVariants as fault
use Rattle.spqr_session.proofs.TakePlans.{locked-out, taken-plane}
use Rattle.spqr_session.proofs.commands.take.take_of_plane.Goals as goal

pub returns-in-Ok : goal.returns-in-Ok
returns-in-Ok c =
    let p = c.args.plane.now in
    let q = c.take.new.self in
    let same : c.in_ok-copy.copy ≡ p = c.in_ok-copy.ensures in
    taken-plane c.args.lists.now c.args.part.now p q c.requires
    (subst (λ (x : BlockState). q ≡ record x { rotation = q.rotation; choices = q.choices }) same c.in-Ok.ensures.rest)
    c.belongs.ensures c.in-Ok.ensures.given
    (subst (λ (x : BlockState). KeepsChoices x.tree (λ k. lock_at x.locks k) x.rotation q.rotation) same c.in-Ok.ensures.keeps)

pub returns-in-BadRotation : goal.returns-in-BadRotation
returns-in-BadRotation c = subst (λ (f : TakeFault). IsTakeRefusal c.in_ok-copy.copy c.args.part.now c.args.lists.now f) c.in-BadRotation.is c.in-Err.ensures.refused.0

pub returns-in-NotGenusZero : goal.returns-in-NotGenusZero
returns-in-NotGenusZero c = subst (λ (f : TakeFault). IsTakeRefusal c.in_ok-copy.copy c.args.part.now c.args.lists.now f) c.in-NotGenusZero.is c.in-Err.ensures.refused.0

pub returns-in-Locked : goal.returns-in-Locked
returns-in-Locked c =
    locked-out c.args.lists.now c.args.part.now c.args.plane.now c.in-Locked.k
    (subst (λ (p : BlockState). IsTakeRefusal p c.args.part.now c.args.lists.now (fault.Locked c.in-Locked.k)) c.in_ok-copy.ensures
    (subst (λ (f : TakeFault). IsTakeRefusal c.in_ok-copy.copy c.args.part.now c.args.lists.now f) c.in-Locked.is c.in-Err.ensures.refused.0))
