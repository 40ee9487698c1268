use Rattle.std.proofs.Common.{◌≡◌, List, ◌∙◌, subst}
use Rattle.std.specs.Io.KnownBytes.{Appends}
use Rattle.std.proofs.lemmas.Result.{err_from_is_err_and}
use Rattle.spqr_script.specs.declared.command.Command.{Command}
use Rattle.spqr_run.specs.Front.{AppendsFront}
use Rattle.spqr_session.specs.Head.{head_text}
use Rattle.spqr_run.specs.Writing.{WritesAnswers}
use Rattle.spqr_run.proofs.Texts.{report-stopped_head, report-written}
use Rattle.spqr_run.proofs.run.write_report.Goals as goal

pub returns-in_err-put_text-clause-report : goal.returns-in_err-put_text-clause-report
returns-in_err-put_text-clause-report g c =
    let a = c.args.accepted in
    let p = err_from_is_err_and c.from_residual-in_err-put_text.result c.from_residual-in_err-put_text.ensures.1 in
    let text : c.deref.result.now ≡ head_text a.session.setting = c.deref.ensures.value ∙ c.in_ok-head.ensures in
    rw (p.1, p.2) (report-stopped_head a.session.setting a.session.state a.commands.items c.requires.start _ _ (subst (AppendsFront _ _) text c.in_err-put_text.ensures.err))

pub returns-clause-report : goal.returns-clause-report
returns-clause-report g c =
    let a = c.args.accepted in
    let text : c.deref.result.now ≡ head_text a.session.setting = c.deref.ensures.value ∙ c.in_ok-head.ensures in
    let answers = subst (λ (cs : List Command). WritesAnswers a.session.setting a.session.state cs (g.K.Sink.written c.put_text.new.sink) (g.K.Sink.written c.write_answers.new.sink) c.write_answers.result) c.deref-2.ensures.value c.write_answers.ensures.texts in
    report-written a.session.setting a.session.state a.commands.items c.requires.start _ _ _ c.write_answers.result (subst (Appends _ _) text c.in_ok-put_text.ensures.ok) answers
