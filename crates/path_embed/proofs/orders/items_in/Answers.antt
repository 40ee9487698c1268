use Rattle.std.proofs.Common.{Option, IfSome, subst}
use Rattle.path_embed.specs.Found.{IsFound}
use Rattle.path_embed.specs.declared.rest.Found.{Found}
use Rattle.path_embed.proofs.orders.items_in.Goals as goal

pub items_of-requires-in-Some : goal.items_of-requires-in-Some
items_of-requires-in-Some c = (subst (λ (z : Option Found). IfSome z (IsFound c.args.g.now)) c.in-Some.is c.requires.rest).obstacle.node.triconnected
