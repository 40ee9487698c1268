-- The entries that were read are the cyclic orders of the rotation system with these steps.
use Rattle.std.proofs.Common.{sym, subst}
use Rattle.faces.specs.Euler.{IsPlaneSystem}
use Rattle.contract_embed.proofs.Orders.{orders-same, orders-given, orders-arranged}
use Rattle.contract_embed.proofs.rounds.rotation.Goals as goal

pub of_arranged-requires : goal.of_arranged-requires
of_arranged-requires c = orders-arranged c.args.g.now c.requires.system c.args.next.now c.in_ok-lists.lists c.requires.are_steps (c.in_ok-lists.ensures c.requires.system c.requires.are_steps)

pub returns : goal.returns
returns c =
    subst (IsPlaneSystem c.args.g.now) (sym (orders-same c.args.g.now c.requires.system c.in_ok-r.r c.args.next.now c.in_ok-lists.lists c.requires.are_steps (orders-given c.requires.system c.args.g.now.vertex_count c.in_ok-lists.lists (c.in_ok-lists.ensures c.requires.system c.requires.are_steps))
    c.in_ok-r.ensures.system.vertices c.in_ok-r.ensures.orders))
    (record { system = c.requires.are_steps.system; plane = c.requires.plane })
