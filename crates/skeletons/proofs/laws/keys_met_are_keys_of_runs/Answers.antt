use Rattle.skeletons.proofs.KeyRuns.{met-runs}
use Rattle.skeletons.proofs.Moved.{keys-round_items}
use Rattle.skeletons.proofs.laws.keys_met_are_keys_of_runs.Goals as goal

pub returns : goal.returns
returns c = record { runs = met-runs; items = keys-round_items }
