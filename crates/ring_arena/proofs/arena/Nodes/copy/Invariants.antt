use Rattle.std.proofs.Common.{◌≡◌, ◌≤◌, length, slice_index}
use Rattle.std.specs.Vec.{vec_ptr, vec_capacity}
use Rattle.ring_arena.proofs.Builds.{AreBuilt}
use Rattle.ring_arena.proofs.arena.Nodes.copy.Given as goal

-- the nodes so far stand as they do here
abbrev pub invariant-loop-d : goal.invariant-loop-d
invariant-loop-d l = record {
  built : AreBuilt (slice_index l.self.next) (slice_index l.self.prev) (vec_ptr l.nodes) l.nodes.items;
  long : length l.nodes.items ≡ l.d;
  room : l.d-end ≤ vec_capacity l.nodes;
}
