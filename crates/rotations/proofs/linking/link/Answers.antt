use Rattle.std.proofs.Common.{◌-◌, ℕ, get_or, length, subst, ◌∙◌, arith}
use Rattle.rotations.proofs.Links.{linked-first, linked-turn, linked-all, dart-node, edge-darts}
use Rattle.ring_arena.specs.Links.{AreNow, linked_after}
use Rattle.rotations.proofs.linking.link.Goals as goal

pub loop-i-init : goal.loop-i-init
loop-i-init c = linked-first c.args.tails.now c.args.nodes.now c.args.v c.args.list.now c.requires.inverse c.requires.alone

-- the edges have their darts
pub dart_at-before-requires-clause-is_edge : goal.dart_at-before-requires-clause-is_edge
dart_at-before-requires-clause-is_edge c = edge-darts c.args.tails.now c.args.v c.args.list.now (c.loop-i.i - 1) c.requires.round (omega (arith, c.loop-i-test.true))

pub dart_at-here-requires-clause-is_edge : goal.dart_at-here-requires-clause-is_edge
dart_at-here-requires-clause-is_edge c = edge-darts c.args.tails.now c.args.v c.args.list.now c.loop-i.i c.requires.round c.loop-i-test.true

pub link_after-requires-clause-place : goal.link_after-requires-clause-place
link_after-requires-clause-place c =
    omega (arith, c.dart_at-before.ensures, dart-node c.args.tails.now c.args.v c.args.list.now (c.loop-i.i - 1) (length c.loop-i.nodes.next) c.requires.round (omega (arith, c.loop-i-test.true)) (c.loop-i.invariant.count ∙ c.requires.long))

-- one edge more
pub loop-i-preserved : goal.loop-i-preserved
loop-i-preserved c = linked-turn c.args.tails.now c.args.nodes.now c.loop-i.nodes c.link_after.new.self c.args.v c.args.list.now c.loop-i.i c.requires.round c.requires.long c.loop-i.invariant c.loop-i.auto.i c.loop-i-test.true
    (subst (λ (p : ℕ × ℕ). AreNow c.loop-i.nodes c.link_after.new.self (linked_after p.0 p.1 (λ d. get_or c.loop-i.nodes.next d 0))) (λ k. (c.dart_at-here.ensures k, c.dart_at-before.ensures k)) c.link_after.ensures)

pub returns-clause-linked : goal.returns-clause-linked
returns-clause-linked c = linked-all c.args.tails.now c.args.nodes.now c.loop-i.nodes c.args.v c.args.list.now c.loop-i.i c.requires.round c.requires.long c.loop-i.invariant c.loop-i-test.false
