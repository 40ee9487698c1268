use Rattle.std.proofs.Common.{◌≡◌, ◌≤◌, length}
use Rattle.std.specs.Vec.{vec_ptr, vec_capacity}
use Rattle.ring_arena.proofs.Builds.{AreBuilt}
use Rattle.ring_arena.proofs.arena.Nodes.new.Given as goal

-- the nodes so far are alone
abbrev pub invariant-loop-d : goal.invariant-loop-d
invariant-loop-d l = record {
  built : AreBuilt (λ k. k) (λ k. k) (vec_ptr l.nodes) l.nodes.items;
  long : length l.nodes.items ≡ l.d;
  room : l.n ≤ vec_capacity l.nodes;
}
