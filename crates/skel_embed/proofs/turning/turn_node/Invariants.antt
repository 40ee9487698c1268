use Rattle.std.proofs.Common.{take}
use Rattle.skel_embed.proofs.TurnSteps.{AreTurnedAt}
use Rattle.skel_embed.proofs.turning.turn_node.Given as goal

abbrev pub invariant-loop-v : goal.invariant-loop-v
invariant-loop-v l = AreTurnedAt l.g l.t l.k l.initial.r l.r (take l.v-index l.v-items)
