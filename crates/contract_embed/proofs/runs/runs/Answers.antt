use Rattle.std.proofs.Common.{◌≡◌, ℕ, ◌<◌, slice_index, sym, ◌∙◌, subst}
use Rattle.std.proofs.lemmas.Bool.{both_ways}
use Rattle.faces.specs.Euler.{dart_count}
use Rattle.contractions.specs.Level.{contraction}
use Rattle.contract_embed.specs.Runs.{FitsAt, HaveRuns}
use Rattle.contract_embed.proofs.RunsTold.{none-last, none-first, none-fits, some-fits}
use Rattle.contract_embed.proofs.runs.runs.Goals as goal
use Rattle.contract_embed.proofs.runs.runs.Goals.{else-first-last-via-then-first-last+else-all_fit, else-first-last-via-else-first-last}

pub returns-in_default : goal.returns-in_default
returns-in_default c = none-last c.args.level.now c.requires.level c.args.next.now c.requires.steps.system c.requires.steps.are_steps c.in_default.ensures

pub returns-in_default-turn : goal.returns-in_default-turn
returns-in_default-turn c = none-first c.args.level.now c.requires.level c.args.next.now c.requires.steps.system c.requires.steps.are_steps c.in_default-turn.ensures

pub returns-then-all_fit : goal.returns-then-all_fit
returns-then-all_fit c =
    let level = c.args.level.now in
    let v : c.after-first.result ≡ slice_index c.args.next.now c.in-Some-turn.end = c.after-first.ensures.value in
    subst (λ z. HaveRuns level c.args.next.now z c.in-Some.last) (sym v)
    (some-fits level c.requires.level c.args.next.now c.requires.steps.system c.requires.steps.are_steps c.in-Some.last c.in-Some-turn.end c.in-Some.ensures.0 c.in-Some-turn.ensures.0 c.in-Some.ensures.1 c.in-Some-turn.ensures.1
    (λ e. c.if-first-last.true (v ∙ e))
    (subst (λ z. (d : ℕ) → d < dart_count (contraction level) → FitsAt level c.args.next.now z c.in-Some.last d) v (c.all_fit.ensures.0 c.if-all_fit.true)))

pub returns : goal.returns
returns c =
    let level = c.args.level.now in
    let v : c.after-first.result ≡ slice_index c.args.next.now c.in-Some-turn.end = c.after-first.ensures.value in
    none-fits level c.requires.level c.args.next.now c.requires.steps.system c.requires.steps.are_steps c.in-Some.last c.in-Some-turn.end c.in-Some.ensures.0 c.in-Some-turn.ensures.0 c.in-Some.ensures.1 c.in-Some-turn.ensures.1
    (λ n fit. elim c.else-first-last.branch [
      | else-first-last-via-then-first-last+else-all_fit w ↦ both_ways w.all_fit.result w.if-all_fit.false
          (w.all_fit.ensures.1 (subst (λ z. (d : ℕ) → d < dart_count (contraction level) → FitsAt level c.args.next.now z c.in-Some.last d) (sym v) fit))
      | else-first-last-via-else-first-last w ↦ n (sym v ∙ w.if-first-last.false)
    ])
