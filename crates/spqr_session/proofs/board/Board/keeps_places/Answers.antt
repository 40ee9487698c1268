use Rattle.std.proofs.Common.{map, length, subst}
use Rattle.spqr_session.specs.Embedded.{view_tree}
use Rattle.spqr_session.specs.Board.{BoardView, HavePlaces}
use Rattle.spqr_session.proofs.board.Board.keeps_places.Goals as goal

pub returns : goal.returns
returns c = subst (λ (b : BoardView). HavePlaces (map view_tree b.views) (length b.lists)) c.self.view_is c.self.invariant.board.1
