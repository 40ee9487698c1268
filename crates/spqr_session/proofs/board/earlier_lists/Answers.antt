use Rattle.std.proofs.Common.{arith}
use Rattle.spqr_session.proofs.board.earlier_lists.Goals as goal

pub returns-in-None : goal.returns-in-None
returns-in-None c = λ i s e at. absurd (omega (arith, e, c.in-None.ensures))
