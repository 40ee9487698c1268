use Rattle.skeleton_runs.proofs.ItemPaths.{path-through}
use Rattle.skeleton_runs.proofs.items_stand_for_paths.Goals as goal

pub returns : goal.returns
returns c = record { path = path-through }
