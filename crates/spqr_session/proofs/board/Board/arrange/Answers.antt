use Rattle.std.proofs.Common.{subst}
use Rattle.spqr_session.specs.Board.{BoardView, LeadsTo}
use Rattle.spqr_session.specs.Wholes.{kept_arranged}
use Rattle.spqr_session.proofs.board.Board.arrange.Goals as goal

pub carry-requires : goal.carry-requires
carry-requires c =
    let s = c.self.inside in
    let views = s.blocks.items in
    let step = c.in_ok-step.step in
    (kept_arranged views s.lists c.args.v c.args.list, subst (λ (b : BoardView). LeadsTo b.views b.lists (kept_arranged views s.lists c.args.v c.args.list) step) c.self.view_is (c.in_ok-step.ensures {u = tt} views))

pub returns-clause-done : goal.returns-clause-done
returns-clause-done c =
    let s = c.self.inside in
    let views = s.blocks.items in
    let step = c.in_ok-step.step in
    let now = c.args.self.now in
    c.carry.ensures.done (kept_arranged now.views now.lists c.args.v c.args.list)
    (subst (λ (b : BoardView). LeadsTo b.views b.lists (kept_arranged b.views b.lists c.args.v c.args.list) step) c.self.view_is (c.in_ok-step.ensures {u = tt} views))
