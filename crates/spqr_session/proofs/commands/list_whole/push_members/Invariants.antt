use Rattle.spqr_session.proofs.WholesListed.{AreListed}
use Rattle.spqr_session.proofs.commands.list_whole.push_members.Given as goal

abbrev pub invariant-loop-turn : goal.invariant-loop-turn
invariant-loop-turn l = AreListed l.c l.initial.cuts l.initial.all l.initial.out.items l.cuts l.all l.out.items l.turn
