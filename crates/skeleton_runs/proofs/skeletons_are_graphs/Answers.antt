use Rattle.skeleton_runs.proofs.SkeletonGraph.{skeleton-graph, skeleton-triconnected}
use Rattle.skeleton_runs.proofs.skeletons_are_graphs.Goals as goal

pub returns : goal.returns
returns c = record { graph = skeleton-graph; triconnected = skeleton-triconnected }
