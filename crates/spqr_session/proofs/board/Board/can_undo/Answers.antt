use Rattle.std.proofs.Common.{not, map, ap, ◌∙◌}
use Rattle.spqr_session.specs.Embedded.{view_tree}
use Rattle.spqr_session.specs.Commands.History.{is_none}
use Rattle.spqr_session.specs.Board.{BoardView, kept_on}
use Rattle.spqr_session.proofs.BoardSteps.{can-undo}
use Rattle.spqr_session.proofs.board.Board.can_undo.Goals as goal

pub returns : goal.returns
returns c =
    let views = c.self.inside.blocks.items in
    c.can_undo.ensures ∙ can-undo (map view_tree views) (kept_on views c.self.inside.lists) c.self.inside.log c.self.invariant.board.0.cursor ∙ ap (λ (v : BoardView). not (is_none v.earlier)) c.self.view_is
