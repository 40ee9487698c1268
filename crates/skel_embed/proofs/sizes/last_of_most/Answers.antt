use Rattle.std.proofs.Common.{length, ap, arith}
use Rattle.skel_embed.proofs.RunSteps.{incident-in, order-length}
use Rattle.skel_embed.proofs.sizes.last_of_most.Goals as goal

pub edge_before-requires-clause-around : goal.edge_before-requires-clause-around
edge_before-requires-clause-around c = (c.in-Some.ensures {u = tt}).within

pub bounds-edges-0 : goal.bounds-edges-0
bounds-edges-0 c = omega (arith, ap length c.incident-edges.ensures.value, order-length c.args.g.now c.args.r.now c.args.v c.requires.system c.requires.vertex, c.requires.some)

pub returns : goal.returns
returns c = incident-in c.args.g.now c.args.r.now c.args.v 0 c.incident-edges.result.now c.requires.system c.requires.vertex c.incident-edges.ensures.value
    (omega (arith, ap length c.incident-edges.ensures.value, order-length c.args.g.now c.args.r.now c.args.v c.requires.system c.requires.vertex, c.requires.some))
