use Rattle.std.proofs.Common.{take}
use Rattle.blocks.specs.Spread.{IsSpread}
use Rattle.blocks.proofs.spread.spread_along.Given as goal

abbrev pub invariant-loop-vertex : goal.invariant-loop-vertex
invariant-loop-vertex l = IsSpread l.parent l.own (take l.vertex-index l.order) l.label
