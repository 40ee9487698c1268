use Rattle.std.proofs.Common.{length, slice_index}
use Rattle.std.specs.Vec.{vec_ptr}
use Rattle.ring_arena.specs.Nodes.{links_of, AreNodes}
use Rattle.ring_arena.proofs.Reversal.{IsTurning}
use Rattle.ring_arena.proofs.arena.Nodes.reverse.Given as goal

-- so many nodes of the ring are turned, and the walk has not come back
abbrev pub invariant-loop : goal.invariant-loop
invariant-loop l = record {
  nodes : AreNodes (vec_ptr l.self-inside.nodes) l.self-inside.nodes.items;
  turning : IsTurning (slice_index l.fn.self.next) (slice_index l.fn.self.prev) (length l.fn.self.next) l.d l.counter l.at (links_of (vec_ptr l.self-inside.nodes) l.self-inside.nodes.items);
}
