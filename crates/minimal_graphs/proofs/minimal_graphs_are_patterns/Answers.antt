use Rattle.minimal_graphs.proofs.Minimal.{minimal-pattern}
use Rattle.minimal_graphs.proofs.minimal_graphs_are_patterns.Goals as goal

pub returns : goal.returns
returns c = minimal-pattern
