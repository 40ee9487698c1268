use Rattle.path_separation.proofs.Bridges.{bridge-fits}
use Rattle.path_separation.proofs.Separation.{some-foot_is_forced}
use Rattle.path_separation.proofs.feet_fit_corners.Goals as goal

pub returns : goal.returns
returns c = record { of_one_bridge = bridge-fits; at_most_one = some-foot_is_forced }
