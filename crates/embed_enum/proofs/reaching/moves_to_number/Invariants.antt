use Rattle.skel_embed.specs.Values.{as_moves}
use Rattle.embed_enum.proofs.Reaches.{AreNumberedBy}
use Rattle.embed_enum.proofs.reaching.moves_to_number.Given as goal

abbrev pub invariant-loop-k : goal.invariant-loop-k
invariant-loop-k l = AreNumberedBy l.p l.k l.left l.number (as_moves l.moves.items)

abbrev pub decreases-loop-k : goal.decreases-loop-k
decreases-loop-k l = l.k
