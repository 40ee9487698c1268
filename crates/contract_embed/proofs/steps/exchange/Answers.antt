use Rattle.contract_embed.proofs.Swaps.{swapped-agree}
use Rattle.contract_embed.proofs.steps.exchange.Goals as goal

pub returns : goal.returns
returns c = swapped-agree c.args.next.now c.swap.new.self c.args.p c.args.q c.requires.first c.requires.second c.swap.ensures.by_index
