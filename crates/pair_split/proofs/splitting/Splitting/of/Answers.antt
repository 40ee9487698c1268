use Rattle.pair_split.proofs.SplitSteps.{start-state, start-splitting}
use Rattle.pair_split.proofs.splitting.Splitting.of.Goals as goal

pub returns-clause-large : goal.returns-clause-large
returns-clause-large g c = λ block l. start-splitting c.args.g.now c.graph_edges.ensures.graph c.new.result.items c.in_ok-current.current.items c.new.ensures.items c.in_ok-current.ensures.edges l

pub returns-clause-state : goal.returns-clause-state
returns-clause-state g c = start-state c.args.g.now c.graph_edges.ensures.graph c.new.result.items c.in_ok-current.current.items c.new.ensures.items c.in_ok-current.ensures.edges
