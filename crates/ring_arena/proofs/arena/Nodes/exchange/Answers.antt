use Rattle.std.specs.Vec.{vec_ptr}
use Rattle.ring_arena.proofs.Exchanges.{exchanged_nodes, exchanged-kept}
use Rattle.ring_arena.proofs.arena.Nodes.exchange.Goals as goal

pub returns : goal.returns
returns c = exchanged_nodes (vec_ptr c.self.inside.nodes) (vec_ptr c.link.new.nodes) (vec_ptr c.link-2.new.nodes) c.self.inside.nodes.items c.link.new.nodes.items c.link-2.new.nodes.items c.args.self.now
    c.args.a c.args.b c.next-behind_a.result c.next-behind_b.result c.self.view_is c.self.invariant.1 c.requires.first c.requires.second c.next-behind_a.ensures.value c.next-behind_b.ensures.value c.link.ensures c.link-2.ensures

pub invariant_of-self : goal.invariant_of-self
invariant_of-self c = (
  exchanged-kept (vec_ptr c.self.inside.nodes) (vec_ptr c.link.new.nodes) (vec_ptr c.link-2.new.nodes) c.self.inside.nodes.items c.link.new.nodes.items c.link-2.new.nodes.items
      c.args.a c.next-behind_b.result c.args.b c.next-behind_a.result c.link.ensures c.link-2.ensures,
  (exchanged_nodes (vec_ptr c.self.inside.nodes) (vec_ptr c.link.new.nodes) (vec_ptr c.link-2.new.nodes) c.self.inside.nodes.items c.link.new.nodes.items c.link-2.new.nodes.items c.args.self.now
      c.args.a c.args.b c.next-behind_a.result c.next-behind_b.result c.self.view_is c.self.invariant.1 c.requires.first c.requires.second c.next-behind_a.ensures.value c.next-behind_b.ensures.value c.link.ensures c.link-2.ensures).inverse,
)
