use Rattle.spqr_session.proofs.BoardArranged.{arranged-leads}
use Rattle.spqr_session.proofs.board.arranging.Goals as goal

pub returns : goal.returns
returns c = λ views. arranged-leads views c.args.lists.now c.args.v c.args.list c.no_moves-forth.result c.no_moves-back.result c.in_ok-cuts.cuts c.no_moves-forth.ensures c.no_moves-back.ensures (c.in_ok-cuts.ensures {u = tt})
