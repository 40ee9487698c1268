use Rattle.std.proofs.Common.{sym, subst}
use Rattle.std.proofs.lemmas.Result.{IfOk-weaker}
use Rattle.faces.specs.Steps.{AreFaceSteps}
use Rattle.skel_decompose.proofs.filling.followers.Goals as goal

pub followers_by_steps-requires-clause-steps : goal.followers_by_steps-requires-clause-steps
followers_by_steps-requires-clause-steps c = (c.args.r.now, c.requires.runs, subst (AreFaceSteps c.args.g.now c.args.r.now) (sym c.deref.ensures.value) c.in_ok-steps.ensures)

pub returns-clause-followers : goal.returns-clause-followers
returns-clause-followers c =
    IfOk-weaker c.followers_by_steps.result _ _ (λ table h family m. h c.args.r.now family c.requires.runs (subst (AreFaceSteps c.args.g.now c.args.r.now) (sym c.deref.ensures.value) c.in_ok-steps.ensures) m)
    c.followers_by_steps.ensures.followers
