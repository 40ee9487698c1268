use Rattle.gml_text.proofs.Fronts.{front_front, at_one, whole_at, fault_one}
use Rattle.gml_text.proofs.laws.fronts.Goals as goal

pub returns : goal.returns
returns c = record { shorter = front_front; place = at_one; whole = whole_at; fault = fault_one }
