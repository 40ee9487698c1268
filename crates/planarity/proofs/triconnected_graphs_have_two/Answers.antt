use Rattle.planarity.proofs.TwoSystems.{two-systems, mirror-another}
use Rattle.planarity.proofs.triconnected_graphs_have_two.Goals as goal

pub returns : goal.returns
returns c = record { two = two-systems; mirror = mirror-another }
