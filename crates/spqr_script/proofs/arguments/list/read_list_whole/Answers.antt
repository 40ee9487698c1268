use Rattle.std.proofs.Common.{◌∙◌}
use Rattle.spqr_script.specs.declared.command.Command.TheVariants as command
use Rattle.spqr_script.proofs.arguments.list.read_list_whole.Goals as goal

pub returns : goal.returns
returns c = c.in_ok-c.ensures command.ListWhole

pub returns-in_err-c : goal.returns-in_err-c
returns-in_err-c c = c.from_residual.ensures ∙ c.in_err-c.ensures command.ListWhole
