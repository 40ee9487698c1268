use Rattle.std.proofs.Common.{ℕ, inl, inr, refl, sym, ap, subst, arith}
use Rattle.embed_enum.specs.Walk.{IsGotoRefusal}
use Rattle.embed_enum.specs.declared.reaching.GotoFault.{GotoFault}
use Rattle.spqr_session.specs.PlannedMoves.{IsRankPlan}
use Rattle.spqr_session.specs.declared.code.Code.TheVariants.{RankOut}
use Rattle.spqr_session.proofs.commands.walk.rank_of_plane.Goals as goal

pub returns-in-Ok : goal.returns-in-Ok
returns-in-Ok c = (c.in-Ok.ensures.gone, λ l m. c.in-Ok.ensures.within l m)

pub returns-in-CountOver : goal.returns-in-CountOver
returns-in-CountOver c = λ l m. inl (refl, subst (λ (f : GotoFault). IsGotoRefusal l c.args.r f) c.in-CountOver.is (c.in-Err.ensures.refused l m))

pub returns-in-RankOut : goal.returns-in-RankOut
returns-in-RankOut c =
    subst (IsRankPlan c.args.r c.args.plane.now) (sym c.rank_out.ensures.plan) (λ l m.
    let out = subst (λ (f : GotoFault). IsGotoRefusal l c.args.r f) c.in-RankOut.is (c.in-Err.ensures.refused l m) in
    let below = c.rank_out.ensures.below in
    inr (ap (λ (n : ℕ). RankOut n) out.0, omega (arith, out.0, out.1), omega (arith, out.0, below)))
