-- No number goes on so: nothing that is left completes one.
use Rattle.std.proofs.Common.{◌≡◌, ◌-◌, ◌≤◌, true, false, Some, length, sym, ◌∙◌, arith}
use Rattle.gml_text.specs.Recognised.{passes}
use Rattle.gml_text.specs.declared.number.Part.TheVariants.{Nothing}
use Rattle.gml_text.proofs.Numbers.{passes-stuck}
use Rattle.gml_text.proofs.WordBreaks.{breaks_with, leads_rest, leads_end, number_breaks}
use Rattle.gml_text.proofs.number.number_fault.Goals as goal

pub returns-in-None-clause-number : goal.returns-in-None-clause-number
returns-in-None-clause-number c =
    sym (sym (leads_rest c.args.word.now c.loop-i.i c.loop-i.part c.loop-i.invariant)
    ∙ passes-stuck c.loop-i.part c.args.word.now c.loop-i.i c.loop-i-test.true (sym c.in-None.ensures))

pub returns-in-None-clause-breaks : goal.returns-in-None-clause-breaks
returns-in-None-clause-breaks c =
    number_breaks c.args.word.now c.loop-i.i c.loop-i.part c.loop-i.invariant (λ _. sym c.in-None.ensures)
    (sym (leads_rest c.args.word.now c.loop-i.i c.loop-i.part c.loop-i.invariant)
    ∙ passes-stuck c.loop-i.part c.args.word.now c.loop-i.i c.loop-i-test.true (sym c.in-None.ensures))

pub returns-then-is_whole-clause-number : goal.returns-then-is_whole-clause-number
returns-then-is_whole-clause-number c =
    sym c.if-is_whole.true ∙ c.is_whole.ensures ∙ leads_end c.args.word.now c.loop-i.i c.loop-i.part (omega (arith, c.loop-i-test.false)) c.loop-i.invariant

pub returns-else-is_whole-clause-number : goal.returns-else-is_whole-clause-number
returns-else-is_whole-clause-number c =
    sym c.if-is_whole.false ∙ c.is_whole.ensures ∙ leads_end c.args.word.now c.loop-i.i c.loop-i.part (omega (arith, c.loop-i-test.false)) c.loop-i.invariant

pub returns-else-is_whole-clause-breaks : goal.returns-else-is_whole-clause-breaks
returns-else-is_whole-clause-breaks c =
    let past : length c.args.word.now ≤ c.loop-i.i = omega (arith, c.loop-i-test.false) in
    breaks_with (λ t. passes (Some Nothing) t ≡ true) (λ t. passes (Some Nothing) t ≡ false) c.args.word.now (length c.args.word.now - c.loop-i.i) (length c.args.word.now - length c.args.word.now)
    (omega arith)
    (number_breaks c.args.word.now c.loop-i.i c.loop-i.part c.loop-i.invariant (λ within. absurd (omega arith))
    (sym (leads_end c.args.word.now c.loop-i.i c.loop-i.part past c.loop-i.invariant) ∙ sym c.is_whole.ensures ∙ c.if-is_whole.false))
