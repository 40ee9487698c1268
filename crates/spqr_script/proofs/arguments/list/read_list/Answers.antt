use Rattle.std.proofs.Common.{◌∙◌}
use Rattle.spqr_script.specs.declared.command.Command.TheVariants as command
use Rattle.spqr_script.proofs.arguments.list.read_list.Goals as goal

pub returns : goal.returns
returns c = c.in_ok-b.ensures command.List

pub returns-in_err-b : goal.returns-in_err-b
returns-in_err-b c = c.from_residual.ensures ∙ c.in_err-b.ensures command.List
