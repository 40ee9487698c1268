use Rattle.std.proofs.Common.{◌≡◌, ◌+◌, take}
use Rattle.pair_split.proofs.WritingSteps.{IsNoted}
use Rattle.pair_split.proofs.writing.note_layer.Given as goal

abbrev pub invariant-loop-edge : goal.invariant-loop-edge
invariant-loop-edge g l = IsNoted l.m l.layer (take l.edge-index l.edges) l.initial.ups l.ups × (l.steps ≡ l.initial.steps + l.edge-index)
