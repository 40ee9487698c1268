use Rattle.triangulations.proofs.JoinedPairs.{pair-added}
use Rattle.triangulations.proofs.pairs.Pairs.add.Goals as goal

pub returns : goal.returns
returns c = pair-added c.args.self.now.held c.insert.new.self c.ordered.result c.args.a c.args.b c.ordered.ensures c.in_ok-insert.ensures.updates.0
