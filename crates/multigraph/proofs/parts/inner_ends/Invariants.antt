use Rattle.std.proofs.Common.{take}
use Rattle.multigraph.specs.Part.{AreInnerEnds}
use Rattle.multigraph.proofs.parts.inner_ends.Given as goal

-- the places of the ends of the edges so far
abbrev pub invariant-loop-edge : goal.invariant-loop-edge
invariant-loop-edge l = AreInnerEnds l.graph (take l.edge-index l.edges) l.vertices l.ends.items
