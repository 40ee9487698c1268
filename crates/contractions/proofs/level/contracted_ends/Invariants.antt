use Rattle.std.proofs.Common.{◌≡◌, map, take}
use Rattle.contractions.specs.Contracted.{contracted_ends}
use Rattle.contractions.proofs.level.contracted_ends.Given as goal

abbrev pub invariant-loop-edge : goal.invariant-loop-edge
invariant-loop-edge l = l.ends.items ≡ map (contracted_ends l.g l.x l.y) (take l.edge-index l.kept)
