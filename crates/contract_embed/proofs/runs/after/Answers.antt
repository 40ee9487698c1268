use Rattle.contractions.specs.Level.{contraction}
use Rattle.contractions.proofs.LevelFacts.{level-graph}
use Rattle.contract_obstruct.proofs.Orders.{steps-in}
use Rattle.contract_embed.proofs.runs.after.Goals as goal

pub returns-clause-within : goal.returns-clause-within
returns-clause-within c = steps-in (contraction c.args.level.now) (level-graph c.args.level.now c.requires.level) c.requires.steps.system c.args.next.now c.requires.steps.are_steps c.args.dart c.requires.dart
