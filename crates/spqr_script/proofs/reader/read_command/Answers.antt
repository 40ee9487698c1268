use Rattle.std.proofs.Common.{◌≡◌, Option, None, Some, IfOk, subst}
use Rattle.spqr_script.specs.Line.{tokens_of}
use Rattle.spqr_script.specs.declared.command.Command.{Command}
use Rattle.spqr_script.proofs.Steps.{command_empty, command_first}
use Rattle.spqr_script.proofs.reader.read_command.Goals as goal

pub returns-in_default : goal.returns-in_default
returns-in_default c = command_empty (tokens_of c.args.line.now) c.in_default.ensures

pub returns-in-Some-find_word : goal.returns-in-Some-find_word
returns-in-Some-find_word c =
    let first = c.in-Some in
    subst (λ (o : Option Command). IfOk c.read_arguments.result (λ command. command ≡ o))
    (command_first (tokens_of c.args.line.now) first.name.now (tokens_of first.text.now) (Some c.in-Some-find_word.word) first.ensures.0 c.in-Some-find_word.ensures) c.read_arguments.ensures

pub returns-in-None : goal.returns-in-None
returns-in-None c = command_first (tokens_of c.args.line.now) c.in-Some.name.now (tokens_of c.in-Some.text.now) None c.in-Some.ensures.0 c.in-None.ensures
