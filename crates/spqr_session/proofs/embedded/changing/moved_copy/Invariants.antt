-- The moves that are left make of the copy what all make of the block.
use Rattle.std.proofs.Common.{◌≡◌, drop, All}
use Rattle.skel_embed.specs.Values.{as_moves}
use Rattle.embed_moves.specs.Made.{Fits}
use Rattle.spqr_session.specs.Moved.{all_moved}
use Rattle.spqr_session.proofs.embedded.changing.moved_copy.Given as goal

abbrev pub invariant-loop-one : goal.invariant-loop-one
invariant-loop-one l = record {
  right : All (Fits l.plane.tree) (as_moves (drop l.one-index l.one-items));
  rest : l.copy ≡ record l.plane { rotation = l.copy.rotation; choices = l.copy.choices };
  made : all_moved l.plane.tree (as_moves (drop l.one-index l.one-items)) l.copy.rotation ≡ all_moved l.plane.tree (as_moves l.moves) l.plane.rotation;
}
