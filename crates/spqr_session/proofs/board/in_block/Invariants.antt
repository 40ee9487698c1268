-- Those of the moves that were passed.
use Rattle.std.proofs.Common.{◌≡◌, ◌++◌, map}
use Rattle.skel_embed.specs.Values.{as_moves}
use Rattle.spqr_session.specs.History.{as_pairs}
use Rattle.spqr_session.proofs.board.in_block.Given as goal

abbrev pub invariant-loop-one : goal.invariant-loop-one
invariant-loop-one l = (as_pairs l.pairs.items ≡ map (λ move. (l.b, move)) (as_moves l.yielded)) × (l.yielded ++ l.one-iterator.rest.items ≡ l.fn.moves)
