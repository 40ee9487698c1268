-- The moves that are left make of the present blocks what all make of the first.
use Rattle.std.proofs.Common.{◌≡◌, drop, map, All}
use Rattle.spqr_session.specs.Embedded.{view_tree, view_entry}
use Rattle.spqr_session.specs.History.{as_pairs, pairs_moved, IsMoveOf}
use Rattle.spqr_session.specs.Board.{IsCarried}
use Rattle.spqr_session.proofs.board.move_blocks.Given as goal

abbrev pub invariant-loop-pair : goal.invariant-loop-pair
invariant-loop-pair l = record {
  carried : IsCarried l.fn.blocks.items l.blocks.items;
  right : All (IsMoveOf (map view_tree l.fn.blocks.items)) (as_pairs (drop l.pair-index l.pair-items));
  made : pairs_moved (map view_tree l.fn.blocks.items) (as_pairs (drop l.pair-index l.pair-items)) (map view_entry l.blocks.items) ≡ pairs_moved (map view_tree l.fn.blocks.items) (as_pairs l.fn.moves) (map view_entry l.fn.blocks.items);
}
