use Rattle.std.proofs.Common.{take}
use Rattle.multigraph.specs.Part.{AreEnds}
use Rattle.multigraph.proofs.parts.ends_of_edges.Given as goal

-- the ends of the edges so far
abbrev pub invariant-loop-edge : goal.invariant-loop-edge
invariant-loop-edge l = AreEnds l.graph (take l.edge-index l.edges) l.ends.items
