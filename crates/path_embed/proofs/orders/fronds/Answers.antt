use Rattle.path_embed.proofs.Decisions.{triconnected-connected}
use Rattle.path_embed.proofs.orders.fronds.Goals as goal

pub grow-requires : goal.grow-requires
grow-requires c = record { connected = triconnected-connected c.args.g.now c.requires }
