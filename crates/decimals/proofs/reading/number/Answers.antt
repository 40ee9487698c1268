use Rattle.std.proofs.Common.{◌^◌, sym, ◌∙◌}
use Rattle.decimals.proofs.Digits.{number_refused, number_ended, digit_goes_on}
use Rattle.decimals.proofs.reading.number.Goals as goal

pub returns-in_err-value : goal.returns-in_err-value
returns-in_err-value c =
    c.from_residual.ensures
    ∙ number_refused (2 ^ 128) c.loop-digit.value c.in-Some.digit.now c.args.text.now c.loop-digit.rest.now c.in-Some.after.now (sym c.if-is_empty.ensures) c.loop-digit.invariant.0 c.in-Some.ensures.cases.0 (sym c.with_digit.ensures ∙ c.in_err-value.was)

pub loop-digit-preserved : goal.loop-digit-preserved
loop-digit-preserved c =
    digit_goes_on (2 ^ 128) c.loop-digit.value c.in-Some.digit.now c.in_ok-value.value c.args.text.now c.loop-digit.rest.now c.in-Some.after.now c.loop-digit.invariant.0 c.in-Some.ensures.cases.0 (sym c.with_digit.ensures ∙ c.in_ok-value.was)

pub returns : goal.returns
returns c =
    number_ended (2 ^ 128) c.loop-digit.value c.args.text.now c.loop-digit.rest.now (sym c.if-is_empty.ensures) c.loop-digit.invariant.0 c.in_default.ensures.cases c.loop-digit.invariant.1
