use Rattle.std.proofs.Common.{◌≡◌, ◌++◌, map}
use Rattle.skel_embed.specs.Values.{as_moves}
use Rattle.whole_convert.specs.Between.{move_block, as_steps}
use Rattle.whole_convert.proofs.moving.add_moves.Given as goal

abbrev pub invariant-loop-one : goal.invariant-loop-one
invariant-loop-one l = as_steps l.list.items ++ map (move_block l.b) (as_moves l.one-iterator.rest.items) ≡ as_steps l.initial.list.items ++ map (move_block l.b) (as_moves l.fn.found.items)
