use Rattle.std.proofs.Common.{sym, ◌∙◌}
use Rattle.std.proofs.lemmas.Result.{err_from_is_err_and}
use Rattle.spqr_session.proofs.Steps.{step-along}
use Rattle.spqr_run.proofs.Texts.{answers-more, answers-stopped}
use Rattle.spqr_run.proofs.run.write_answers.Goals as goal

pub loop-command-preserved : goal.loop-command-preserved
loop-command-preserved g c =
    let m = c.args.session.now in
    let l = c.loop-command in
    let x = c.command-item.result in
    let step = step-along m.setting l.session.setting l.session.state c.step.new.self.state x c.deref.result.now c.in_ok-text.text.items l.invariant.setting c.deref.ensures.value c.in_ok-text.ensures.step in
    record {
      setting = c.in_ok-text.ensures.setting ∙ l.invariant.setting;
      written = answers-more m.setting m.state l.session.state c.step.new.self.state c.args.commands.now l.command-index x c.deref.result.now (g.K.Sink.written c.args.sink.now) (g.K.Sink.written l.sink) (g.K.Sink.written c.put_text.new.sink)
          c.loop-command-test.true (sym c.command-item.is) l.invariant.written step c.in_ok-put_text.ensures.ok;
      faults = c.in_ok-put_text.ensures.cause.ok ∙ l.invariant.faults;
    }

pub returns-in_err-put_text-clause-texts : goal.returns-in_err-put_text-clause-texts
returns-in_err-put_text-clause-texts g c =
    let m = c.args.session.now in
    let l = c.loop-command in
    let x = c.command-item.result in
    let step = step-along m.setting l.session.setting l.session.state c.step.new.self.state x c.deref.result.now c.in_ok-text.text.items l.invariant.setting c.deref.ensures.value c.in_ok-text.ensures.step in
    let p = err_from_is_err_and c.from_residual-in_err-put_text.result c.from_residual-in_err-put_text.ensures.1 in
    rw (p.1, p.2) (answers-stopped m.setting m.state l.session.state c.step.new.self.state c.args.commands.now l.command-index x c.deref.result.now (g.K.Sink.written c.args.sink.now) (g.K.Sink.written l.sink) (g.K.Sink.written c.put_text.new.sink)
    c.loop-command-test.true (sym c.command-item.is) l.invariant.written step c.in_err-put_text.ensures.err)
