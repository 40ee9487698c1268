use Rattle.permutations.proofs.Runs.{runs-unique}
use Rattle.permutations.proofs.RunsByKey.{groups-by_key}
use Rattle.permutations.proofs.RunsFromOrder.{runs-from_order, order-from_runs}
use Rattle.permutations.proofs.runs_where_nothing_crosses.Goals as goal

pub returns : goal.returns
returns c = record { exact = λ key l d. (λ w. order-from_runs key l w.0 d w.1, runs-from_order key l d); unique = runs-unique; told = groups-by_key }
