use Rattle.std.proofs.Common.{◌<◌, length, sym, subst}
use Rattle.spqr_session.specs.Embedded.{view_at}
use Rattle.spqr_session.specs.Board.{BoardView, Clears}
use Rattle.spqr_session.proofs.Steps.{ok-map}
use Rattle.spqr_session.proofs.MarkedLists.{clears-block}
use Rattle.spqr_session.proofs.board.Board.cleared.Goals as goal

pub returns : goal.returns
returns c =
    let s = c.self.inside in
    let b = c.args.b in
    let within = subst (λ (v : BoardView). c.args.b < length v.views) (sym c.self.view_is) c.requires in
    ok-map c.cleared.result _ _ (λ cuts clears. subst (λ (v : BoardView). Clears (view_at v.views b).tree.part.vertices v.lists cuts) c.self.view_is
    (clears-block s.blocks.items s.lists s.marked b cuts c.in_block.result.now c.self.invariant.marks within c.in_block.ensures clears)) c.cleared.ensures
