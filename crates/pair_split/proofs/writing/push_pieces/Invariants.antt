use Rattle.std.proofs.Common.{◌≡◌, ◌+◌, take}
use Rattle.pair_split.specs.Bridges.{family_of}
use Rattle.pair_split.specs.State.{SplitState}
use Rattle.pair_split.specs.Writing.{AreWrittenBehind, IsNotedFor}
use Rattle.pair_split.proofs.writing.push_pieces.Given as goal

abbrev pub invariant-loop-edge : goal.invariant-loop-edge
invariant-loop-edge g l = ((state : SplitState) → IsNotedFor l.m state l.k l.ups (family_of l.edges) → AreWrittenBehind l.m state l.k (family_of (take l.edge-index l.edges)) l.initial.pieces.items l.pieces.items)
    × (l.steps ≡ l.initial.steps + l.edge-index)
