-- Those that were passed are taken back.
use Rattle.std.proofs.Common.{◌≡◌, map, take}
use Rattle.skel_embed.specs.Values.{as_moves}
use Rattle.spqr_session.specs.Moved.{way_back}
use Rattle.spqr_session.proofs.embedded.returning.moves_back.Given as goal

abbrev pub invariant-loop-one : goal.invariant-loop-one
invariant-loop-one l = as_moves l.back.items ≡ map (way_back l.plane.tree l.plane.rotation) (as_moves (take l.one-index l.one-items))
