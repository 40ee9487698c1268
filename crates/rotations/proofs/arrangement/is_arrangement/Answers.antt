use Rattle.std.proofs.Common.{length, refl, sym, ap, ◌∙◌}
use Rattle.rotations.proofs.Marks.{met-step, met-all, no_arrangement-long, no_arrangement-refused}
use Rattle.rotations.proofs.arrangement.is_arrangement.Goals as goal

-- it has another length
pub returns-then-list-incident-clause-answer : goal.returns-then-list-incident-clause-answer
returns-then-list-incident-clause-answer c =
    ((λ h. cc), (λ p. absurd (no_arrangement-long c.args.g.now c.args.v c.args.list.now (λ e. c.if-list-incident.true (e ∙ ap length (sym c.incident.ensures.value))) p)))

-- it has a stranger, or an edge twice
pub returns-then-not-is_new-clause-answer : goal.returns-then-not-is_new-clause-answer
returns-then-not-is_new-clause-answer c =
    ((λ h. cc), (λ p. absurd (no_arrangement-refused c.args.g.now c.args.v c.loop-e.e-index c.args.list.now c.loop-e.seen c.loop-e-test.true c.loop-e.invariant c.if-not-is_new.ensures.0 p)))

-- one edge more is met
pub loop-e-preserved : goal.loop-e-preserved
loop-e-preserved c =
    met-step c.args.g.now c.args.v c.loop-e.e-index c.args.list.now c.loop-e.seen c.is_new.new.seen c.loop-e-test.true c.loop-e.invariant
    c.if-not-is_new.ensures.0 c.if-not-is_new.ensures.1 c.if-not-is_new.ensures.2

-- all are met
pub returns-clause-answer : goal.returns-clause-answer
returns-clause-answer c =
    ((λ h. met-all c.args.g.now c.args.v c.loop-e.e-index c.args.list.now c.loop-e.seen c.loop-e-test.false c.loop-e.invariant (c.if-list-incident.false ∙ ap length c.incident.ensures.value)), (λ p. refl))
