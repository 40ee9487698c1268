use Rattle.std.proofs.Common.{sym}
use Rattle.spqr_script.proofs.FromFront.{nothing_left, first_is_mark, first_is_word}
use Rattle.spqr_script.proofs.tokens.next_token.Goals as goal

pub returns-in_err-first : goal.returns-in_err-first
returns-in_err-first c =
    rw c.from_residual.ensures (nothing_left c.args.line.now c.skip_blanks-text.result.now c.skip_blanks-text.ensures.tokens c.in_err-first.ensures.cases)

pub returns-then-is_mark : goal.returns-then-is_mark
returns-then-is_mark c =
    let text = c.skip_blanks-text in
    first_is_mark c.args.line.now text.result.now c.in_ok-first.first.now c.in_ok-first.field-0-1.now c.split_at.result.0.now c.split_at.result.1.now text.ensures.tokens text.ensures.at_other text.ensures.bound c.in_ok-first.ensures.cases.0 (sym c.if-is_mark.ensures) c.split_at.ensures.front c.split_at.ensures.back

pub returns : goal.returns
returns c =
    let text = c.skip_blanks-text in
    first_is_word c.args.line.now text.result.now c.in_ok-first.first.now c.in_ok-first.field-0-1.now c.split_word.result.0.now c.split_word.result.1.now text.ensures.tokens text.ensures.at_other text.ensures.bound c.in_ok-first.ensures.cases.0 (sym c.if-is_mark.ensures) c.split_word.ensures.parts c.split_word.ensures.word c.split_word.ensures.ends
