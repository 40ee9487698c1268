use Rattle.std.proofs.Common.{◌≡◌}
use Rattle.skeletons.specs.Moves.{moves_below}
use Rattle.skel_embed.specs.Values.{as_moves}
use Rattle.embed_convert.proofs.converting.moves.Given as goal

abbrev pub invariant-loop-k : goal.invariant-loop-k
invariant-loop-k l = as_moves l.list.items ≡ moves_below l.p.tree l.p.rotation l.q.rotation l.k
