use Rattle.spqr_script.specs.declared.command.Command.TheVariants as command
use Rattle.spqr_script.proofs.Shapes.{made_from, none_from}
use Rattle.spqr_script.proofs.arguments.take.read_take.Goals as goal

pub returns-in-Some : goal.returns-in-Some
returns-in-Some c = made_from (λ pair. command.Take pair.0 pair.1) _ _ _ (c.in_ok-b.ensures command.Take) c.in-Some.is

pub returns-in-None : goal.returns-in-None
returns-in-None c = none_from (λ pair. command.Take pair.0 pair.1) _ _ (c.in_ok-b.ensures command.Take) c.in-None.is
