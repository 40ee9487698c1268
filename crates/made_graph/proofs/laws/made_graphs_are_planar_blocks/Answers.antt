use Rattle.made_graph.proofs.Growth.{made-planar, made-size}
use Rattle.made_graph.proofs.Forks.{made-fork}
use Rattle.made_graph.proofs.laws.made_graphs_are_planar_blocks.Goals as goal

pub returns : goal.returns
returns c = record { planar = made-planar; fork = made-fork; size = made-size }
