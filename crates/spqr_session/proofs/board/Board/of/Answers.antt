use Rattle.std.proofs.Common.{map}
use Rattle.spqr_session.specs.Embedded.{view_tree}
use Rattle.spqr_session.proofs.BoardArranged.{board-start}
use Rattle.spqr_session.proofs.MarkedLists.{marked-start}
use Rattle.spqr_session.proofs.board.Board.of.Goals as goal

pub invariant_of-result : goal.invariant_of-result
invariant_of-result c = record {
  board = board-start c.args.blocks.items c.args.n c.in_ok-lists.lists c.new-log.result c.new-log.ensures.steps c.new-log.ensures.cursor (c.in_ok-lists.ensures {u = tt}) c.requires;
  marks = marked-start (map view_tree c.args.blocks.items) c.args.n c.in_ok-lists.lists c.none-marked.result c.none-marked.ensures.marks c.none-marked.ensures.places (c.in_ok-lists.ensures {u = tt});
}
