use Rattle.spqr_session.specs.WholeSteps.{AreTogether}
use Rattle.spqr_session.proofs.WholesListed.{listed-begins, listed-more}
use Rattle.spqr_session.proofs.commands.list_whole.push_members.Goals as goal

pub loop-turn-init : goal.loop-turn-init
loop-turn-init c = listed-begins c.args.c c.args.cuts.now c.args.all.now c.args.out.now.items c.requires

pub loop-turn-preserved : goal.loop-turn-preserved
loop-turn-preserved c =
    let right : AreTogether c.next_whole.new.cuts c.next_whole.new.all = record { in_plane = c.next_whole.ensures.component; planes = c.next_whole.ensures.planes; arranged = c.next_whole.ensures.arranged } in
    listed-more c.args.c c.args.cuts.now c.args.all.now c.args.out.now.items c.loop-turn.cuts c.next_whole.new.cuts c.loop-turn.all c.next_whole.new.all c.loop-turn.out.items c.push_whole_line.new.out.items c.in_ok-lists.lists c.loop-turn.turn c.loop-turn.invariant
    c.next_whole.ensures.same right c.next_whole.ensures.list (λ l i a r. c.next_whole.ensures.next l i a r c.if-not-next_whole.false) (c.in_ok-lists.ensures {u = tt}).lists c.in_ok-push_whole_line.ensures
