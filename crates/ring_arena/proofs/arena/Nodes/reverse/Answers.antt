use Rattle.std.proofs.Common.{◌≡◌, ℕ, ◌<◌, sym, ap, ◌∙◌, subst, length, slice_index, arith}
use Rattle.std.specs.Vec.{vec_ptr}
use Rattle.permutations.proofs.Iterates.{iterate-below}
use Rattle.ring_arena.specs.Links.{Links, AreInverse}
use Rattle.ring_arena.specs.Nodes.{links_of}
use Rattle.ring_arena.proofs.Nodes.{next-long}
use Rattle.ring_arena.proofs.Reversal.{AreTurnedSoFar, turned-more, turning-more, next-step, turned_back, turned_through, turn-next, turn-prev, turn-nodes}
use Rattle.ring_arena.proofs.arena.Nodes.reverse.Goals as goal

pub turn-at-requires-clause-node : goal.turn-at-requires-clause-node
turn-at-requires-clause-node c =
    let now : Links = c.args.self.now in let inv : AreInverse now = subst AreInverse c.self.view_is c.self.invariant.1 in
    let in_range : c.loop.at < length now.next = subst (λ (z : ℕ). z < length now.next) (sym c.loop.invariant.turning.at_step)
    (iterate-below (length now.next) (slice_index now.next) (slice_index now.prev) inv.permutes c.loop.counter c.args.d c.requires) in
    subst (λ (z : ℕ). c.loop.at < z) (sym c.loop.invariant.turning.so_far.long_next ∙ next-long (vec_ptr c.loop.self-inside.nodes) c.loop.self-inside.nodes.items) in_range

pub loop-preserved : goal.loop-preserved
loop-preserved c =
    let now : Links = c.args.self.now in let inv : AreInverse now = subst AreInverse c.self.view_is c.self.invariant.1 in
    let base = vec_ptr c.loop.self-inside.nodes in let nodes = c.loop.self-inside.nodes.items in let new_base = vec_ptr c.turn-at.new.nodes in let new = c.turn-at.new.nodes.items in
    let n : ℕ = length now.next in let f : ℕ → ℕ = slice_index now.next in let g : ℕ → ℕ = slice_index now.prev in
    let so_far = turned-more n f g inv.permutes c.args.d c.requires c.loop.counter c.loop.at (links_of base nodes) (links_of new_base new) c.loop.invariant.turning
    (turn-next base new_base nodes new c.loop.at c.turn-at.ensures.turned) (turn-prev base new_base nodes new c.loop.at c.turn-at.ensures.turned) in
    record {
      nodes = turn-nodes base new_base nodes new c.loop.at c.turn-at.ensures.turned;
      turning = turning-more n f g inv.permutes c.args.d c.requires c.loop.counter c.loop.at c.turn-at.result (links_of base nodes) (links_of new_base new) c.loop.invariant.turning so_far c.turn-at.ensures.after c.if-at-d.false;
    }

pub returns-then-at-d : goal.returns-then-at-d
returns-then-at-d c =
    let now : Links = c.args.self.now in let inv : AreInverse now = subst AreInverse c.self.view_is c.self.invariant.1 in
    let base = vec_ptr c.loop.self-inside.nodes in let nodes = c.loop.self-inside.nodes.items in let new_base = vec_ptr c.turn-at.new.nodes in let new = c.turn-at.new.nodes.items in
    let n : ℕ = length now.next in let f : ℕ → ℕ = slice_index now.next in let g : ℕ → ℕ = slice_index now.prev in
    let so_far = turned-more n f g inv.permutes c.args.d c.requires c.loop.counter c.loop.at (links_of base nodes) (links_of new_base new) c.loop.invariant.turning
    (turn-next base new_base nodes new c.loop.at c.turn-at.ensures.turned) (turn-prev base new_base nodes new c.loop.at c.turn-at.ensures.turned) in
    turned_back now (links_of new_base new) c.args.d c.loop.counter inv c.requires so_far
    (sym (next-step n f g inv.permutes c.args.d c.requires c.loop.counter c.loop.at c.turn-at.result (links_of base nodes) c.loop.invariant.turning c.turn-at.ensures.after) ∙ c.if-at-d.true)

pub invariant_of-self-then-at-d : goal.invariant_of-self-then-at-d
invariant_of-self-then-at-d c = (
  turn-nodes (vec_ptr c.loop.self-inside.nodes) (vec_ptr c.turn-at.new.nodes) c.loop.self-inside.nodes.items c.turn-at.new.nodes.items c.loop.at c.turn-at.ensures.turned,
  (returns-then-at-d c).inverse,
)

pub returns-after-loop : goal.returns-after-loop
returns-after-loop c =
    let now : Links = c.args.self.now in let inv : AreInverse now = subst AreInverse c.self.view_is c.self.invariant.1 in
    let base = vec_ptr c.loop.self-inside.nodes in let nodes = c.loop.self-inside.nodes.items in
    let whole : c.loop.counter ≡ length now.next =
    let as_many : length now.next ≡ c.len-end.result = ap (λ (k : Links). length k.next) (sym c.self.view_is) ∙ next-long (vec_ptr c.self.inside.nodes) c.self.inside.nodes.items ∙ sym c.self.inside.nodes.ok.0 ∙ sym c.len-end.ensures in
    omega (arith, c.loop.auto.counter-end, c.loop-test.false) in
    turned_through now (links_of base nodes) c.args.d inv c.requires
    (subst (λ (i : ℕ). AreTurnedSoFar (slice_index now.next) (slice_index now.prev) (length now.next) c.args.d i (links_of base nodes)) whole c.loop.invariant.turning.so_far)

pub invariant_of-self : goal.invariant_of-self
invariant_of-self c = (c.loop.invariant.nodes, (returns-after-loop c).inverse)
