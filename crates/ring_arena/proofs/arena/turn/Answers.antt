use Rattle.std.proofs.Common.{lit<}
use Rattle.std.specs.Vec.{vec_ptr}
use Rattle.ring_arena.specs.Nodes.{number_at}
use Rattle.ring_arena.proofs.Nodes.{read_item, after_number, places-exchanged}
use Rattle.ring_arena.proofs.arena.turn.Goals as goal

pub behind-requires : goal.behind-requires
behind-requires c =
    let nodes = c.args.nodes.now.items in let base = vec_ptr c.args.nodes.now in let node = c.index-node.result.now in
    let is = c.requires.nodes.each c.args.k node (read_item nodes c.args.k node c.requires.node c.index-node.ensures) in
    (number_at base node.prev, is.prev_in, is.prev_place)

pub returns-clause-turned : goal.returns-clause-turned
returns-clause-turned c =
    let nodes = c.args.nodes.now.items in let base = vec_ptr c.args.nodes.now in let node = c.index-node.result.now in
    let is = c.requires.nodes.each c.args.k node (read_item nodes c.args.k node c.requires.node c.index-node.ensures) in
    let before = (c.requires.nodes.each (number_at base node.prev) c.behind.result.now (c.behind.ensures (number_at base node.prev) is.prev_in (lit< tt) is.prev_place)).numbered in
    places-exchanged base nodes c.args.k c.behind.result.now.number node c.requires.nodes c.requires.node c.index-node.ensures before

pub returns-clause-after : goal.returns-clause-after
returns-clause-after c =
    let nodes = c.args.nodes.now.items in let node = c.index-node.result.now in
    after_number (vec_ptr c.args.nodes.now) nodes c.args.k node c.requires.nodes (read_item nodes c.args.k node c.requires.node c.index-node.ensures)
