use Rattle.std.proofs.Common.{◌-◌, length}
use Rattle.multigraph.specs.Build.{multigraph_of}
use Rattle.made_graph.proofs.Turns.{IsMaking}
use Rattle.made_graph.proofs.making.make_graph.Given as goal

abbrev pub invariant-loop-first : goal.invariant-loop-first
invariant-loop-first l = IsMaking l.n l.seed (multigraph_of l.vertices l.ends.items) l.x

abbrev pub decreases-loop-first : goal.decreases-loop-first
decreases-loop-first l = l.n - length l.ends.items
