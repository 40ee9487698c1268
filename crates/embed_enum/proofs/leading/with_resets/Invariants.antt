use Rattle.skel_embed.specs.Block.{BlockState}
use Rattle.skel_embed.specs.Values.{as_moves}
use Rattle.embed_enum.specs.Changes.{AreResetBy}
use Rattle.embed_enum.proofs.leading.with_resets.Given as goal

abbrev pub invariant-loop-k : goal.invariant-loop-k
invariant-loop-k l = (mid : BlockState) → AreResetBy l.p mid l.from l.from (as_moves l.initial.moves.items) → AreResetBy l.p mid l.from l.k (as_moves l.moves.items)
