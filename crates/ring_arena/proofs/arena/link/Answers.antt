use Rattle.std.specs.Vec.{vec_ptr}
use Rattle.ring_arena.proofs.Nodes.{relinked}
use Rattle.ring_arena.proofs.arena.link.Goals as goal

pub returns : goal.returns
returns c = relinked (vec_ptr c.args.nodes.now) c.args.nodes.now.items c.args.a c.args.b c.index-node.result.now c.index_mut-2.result.now c.place-to.result c.place-from.result
    c.requires.nodes c.requires.first c.requires.second c.index-node.ensures c.place-to.ensures.value c.place-from.ensures.value c.index_mut-2.ensures.value
