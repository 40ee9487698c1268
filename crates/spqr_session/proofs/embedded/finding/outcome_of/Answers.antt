use Rattle.std.proofs.Common.{◌≡◌, length, sym, subst}
use Rattle.std.proofs.lemmas.Result.{IfOk-weaker}
use Rattle.skel_embed.specs.declared.planes.Outcome.{Outcome}
use Rattle.spqr_session.specs.Embedded.{IsFound}
use Rattle.spqr_session.proofs.Outcomes.{found-before}
use Rattle.spqr_session.proofs.embedded.finding.outcome_of.Goals as goal

pub returns-in-Some : goal.returns-in-Some
returns-in-Some g c =
    let s = c.requires.start in
    let v = c.in-Some.block.now in
    let found : IsFound c.args.graph.now c.outcome.result.now =
    found-before s.0 s.1 (length c.args.before.now) c.args.before.now v c.outcome.result.now c.args.graph.now s.2 c.in-Some.ensures.among c.outcome.ensures.view c.outcome.ensures.right c.in-Some.ensures.graph in
    IfOk-weaker c.copied.result (λ (copy : Outcome). copy ≡ c.outcome.result.now) (IsFound c.args.graph.now) (λ x e. subst (IsFound c.args.graph.now) (sym e) found) c.copied.ensures
