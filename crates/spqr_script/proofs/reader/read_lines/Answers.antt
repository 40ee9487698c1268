use Rattle.std.proofs.Common.{◌+◌, sym, ap, ◌∙◌, arith}
use Rattle.std.proofs.lemmas.Bool.{eqb-true}
use Rattle.spqr_script.specs.Line.{lines_of, is_passed_over, tokens_of}
use Rattle.spqr_script.specs.Reading.{commands_from, command_of}
use Rattle.spqr_script.proofs.Loops.{lines_end, line_over, line_stop, line_more}
use Rattle.spqr_script.proofs.reader.read_lines.Goals as goal

pub loop-rest-preserved-then-is_passed_over : goal.loop-rest-preserved-then-is_passed_over
loop-rest-preserved-then-is_passed_over c =
    let so_far = c.loop-rest in
    let parts = c.first_line.result in
    (line_over so_far.commands.items (so_far.line + 1) so_far.rest.now parts.0.now parts.1.now (commands_from 1 (lines_of c.args.bytes.now)) so_far.invariant.0 c.first_line.ensures.0 (ap is_passed_over (sym c.without_return-text.ensures) ∙ sym c.if-is_passed_over.ensures), omega (arith, c.first_line.ensures.1, so_far.invariant.1))

pub loop-rest-preserved : goal.loop-rest-preserved
loop-rest-preserved c =
    let so_far = c.loop-rest in
    let parts = c.first_line.result in (
      line_more so_far.commands.items c.push.new.self.items (so_far.line + 1) so_far.rest.now parts.0.now parts.1.now (commands_from 1 (lines_of c.args.bytes.now)) c.in-Some.command so_far.invariant.0 c.first_line.ensures.0 (ap is_passed_over (sym c.without_return-text.ensures) ∙ sym c.if-is_passed_over.ensures)
          (ap (λ t. command_of (tokens_of t)) (sym c.without_return-text.ensures) ∙ sym c.in_ok-command.ensures ∙ c.in-Some.is) c.in_ok-push-in-Some.ensures.items,
      omega (arith, c.first_line.ensures.1, so_far.invariant.1),
    )

pub returns-in-None : goal.returns-in-None
returns-in-None c =
    let so_far = c.loop-rest in
    let parts = c.first_line.result in
    line_stop so_far.commands.items (so_far.line + 1) so_far.rest.now parts.0.now parts.1.now (commands_from 1 (lines_of c.args.bytes.now)) so_far.invariant.0 c.first_line.ensures.0 (ap is_passed_over (sym c.without_return-text.ensures) ∙ sym c.if-is_passed_over.ensures)
    (ap (λ t. command_of (tokens_of t)) (sym c.without_return-text.ensures) ∙ sym c.in_ok-command.ensures ∙ c.in-None.is)

pub returns : goal.returns
returns c =
    lines_end c.loop-rest.commands.items (c.loop-rest.line + 1) c.loop-rest.rest.now (commands_from 1 (lines_of c.args.bytes.now)) c.loop-rest.invariant.0 (eqb-true _ _ (sym c.loop-rest-test.ensures))
