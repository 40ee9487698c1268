use Rattle.whole_convert.proofs.Connected.{component-connected}
use Rattle.whole_convert.proofs.PartOf.{parts-plane}
use Rattle.whole_convert.proofs.laws.whole_to_parts.Goals as goal

pub returns-clause-connected : goal.returns-clause-connected
returns-clause-connected c = component-connected

pub returns-clause-plane : goal.returns-clause-plane
returns-clause-plane c k block q b w p m = (parts-plane k block w q p b m).plane
