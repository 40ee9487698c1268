use Rattle.std.proofs.Common.{arith}
use Rattle.search_forest.proofs.Turns.{leave-turned}
use Rattle.search_forest.proofs.search.Forest.turn.Goals as goal

pub returns : goal.returns
returns c = leave-turned c.args.graph.now c.args.self.now c.leave.new.self c.args.vertex c.requires.forest c.requires.last (omega (arith, c.degree.ensures, c.position_of.ensures, c.if-position_of-degree.false)) c.leave.ensures
