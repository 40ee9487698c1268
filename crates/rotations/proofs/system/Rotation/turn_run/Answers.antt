use Rattle.std.proofs.Common.{ap, ◌∙◌, arith}
use Rattle.rotations.specs.Rotation.{order_at}
use Rattle.rotations.specs.declared.rings.Frame.{Frame}
use Rattle.rotations.proofs.Calls.{before-in, darts-there, node-there, call-whole, call-turned}
use Rattle.rotations.proofs.system.Rotation.turn_run.Goals as goal

-- the edges that are named, and the one before the run, are round the vertex
pub dart_at-head-requires-clause-is_edge : goal.dart_at-head-requires-clause-is_edge
dart_at-head-requires-clause-is_edge c = darts-there c.self.inside.frame.value.tails.items c.self.inside.nodes c.self.inside.frame.value.rings.items c.self.invariant c.args.self.now c.self.view_is c.args.v c.args.first c.deref-2.result.now (c.deref-2.ensures.value ∙ ap (λ (f : Frame). f.tails.items) c.deref.ensures)
    (c.requires.first)

pub dart_at-before-requires-clause-is_edge : goal.dart_at-before-requires-clause-is_edge
dart_at-before-requires-clause-is_edge c = darts-there c.self.inside.frame.value.tails.items c.self.inside.nodes c.self.inside.frame.value.rings.items c.self.invariant c.args.self.now c.self.view_is c.args.v c.pred-edge_before.result c.deref-4.result.now (c.deref-4.ensures.value ∙ ap (λ (f : Frame). f.tails.items) c.deref-3.ensures)
    (before-in (order_at c.args.self.now c.args.v) c.args.first c.pred-edge_before.result c.requires.first c.pred-edge_before.ensures)

pub dart_at-end-requires-clause-is_edge : goal.dart_at-end-requires-clause-is_edge
dart_at-end-requires-clause-is_edge c = darts-there c.self.inside.frame.value.tails.items c.self.inside.nodes c.self.inside.frame.value.rings.items c.self.invariant c.args.self.now c.self.view_is c.args.v c.args.last c.deref-6.result.now (c.deref-6.ensures.value ∙ ap (λ (f : Frame). f.tails.items) c.deref-5.ensures)
    (c.requires.last)

-- their darts are nodes
pub reverse-requires : goal.reverse-requires
reverse-requires c = node-there c.self.inside.frame.value.tails.items c.self.inside.nodes c.self.inside.frame.value.rings.items c.self.invariant c.args.self.now c.self.view_is c.args.v c.args.first c.dart_at-head.result c.deref-2.result.now (c.deref-2.ensures.value ∙ ap (λ (f : Frame). f.tails.items) c.deref.ensures) c.dart_at-head.ensures
    (c.requires.first)

pub exchange-requires-clause-first : goal.exchange-requires-clause-first
exchange-requires-clause-first c = node-there c.self.inside.frame.value.tails.items c.self.inside.nodes c.self.inside.frame.value.rings.items c.self.invariant c.args.self.now c.self.view_is c.args.v c.pred-edge_before.result c.dart_at-before.result c.deref-4.result.now (c.deref-4.ensures.value ∙ ap (λ (f : Frame). f.tails.items) c.deref-3.ensures) c.dart_at-before.ensures
    (before-in (order_at c.args.self.now c.args.v) c.args.first c.pred-edge_before.result c.requires.first c.pred-edge_before.ensures)

pub exchange-requires-clause-second : goal.exchange-requires-clause-second
exchange-requires-clause-second c = node-there c.self.inside.frame.value.tails.items c.self.inside.nodes c.self.inside.frame.value.rings.items c.self.invariant c.args.self.now c.self.view_is c.args.v c.args.last c.dart_at-end.result c.deref-6.result.now (c.deref-6.ensures.value ∙ ap (λ (f : Frame). f.tails.items) c.deref-5.ensures) c.dart_at-end.ensures
    (c.requires.last)

pub reverse-requires-2 : goal.reverse-requires-2
reverse-requires-2 c = omega (
  arith,
  c.exchange.ensures.count,
  node-there c.self.inside.frame.value.tails.items c.self.inside.nodes c.self.inside.frame.value.rings.items c.self.invariant c.args.self.now c.self.view_is c.args.v c.args.first c.dart_at-head.result c.deref-2.result.now (c.deref-2.ensures.value ∙ ap (λ (f : Frame). f.tails.items) c.deref.ensures) c.dart_at-head.ensures
      (c.requires.first),
)

pub exchange-requires-2-clause-first : goal.exchange-requires-2-clause-first
exchange-requires-2-clause-first c = omega (
  arith,
  c.exchange.ensures.count,
  c.reverse-2.ensures.count,
  node-there c.self.inside.frame.value.tails.items c.self.inside.nodes c.self.inside.frame.value.rings.items c.self.invariant c.args.self.now c.self.view_is c.args.v c.pred-edge_before.result c.dart_at-before.result c.deref-4.result.now (c.deref-4.ensures.value ∙ ap (λ (f : Frame). f.tails.items) c.deref-3.ensures) c.dart_at-before.ensures
      (before-in (order_at c.args.self.now c.args.v) c.args.first c.pred-edge_before.result c.requires.first c.pred-edge_before.ensures),
)

pub exchange-requires-2-clause-second : goal.exchange-requires-2-clause-second
exchange-requires-2-clause-second c = omega (
  arith,
  c.exchange.ensures.count,
  c.reverse-2.ensures.count,
  node-there c.self.inside.frame.value.tails.items c.self.inside.nodes c.self.inside.frame.value.rings.items c.self.invariant c.args.self.now c.self.view_is c.args.v c.args.first c.dart_at-head.result c.deref-2.result.now (c.deref-2.ensures.value ∙ ap (λ (f : Frame). f.tails.items) c.deref.ensures) c.dart_at-head.ensures
      (c.requires.first),
)

-- the run is the whole round: one reversal
pub invariant_of-self : goal.invariant_of-self
invariant_of-self c = (call-whole c.self.inside.frame.value.tails.items c.self.inside.nodes c.self.inside.frame.value.rings.items c.self.invariant c.args.self.now c.self.view_is c.args.v c.args.first c.args.last c.pred-edge_before.result c.dart_at-head.result c.deref-2.result.now c.reverse.new.self
    (c.deref-2.ensures.value ∙ ap (λ (f : Frame). f.tails.items) c.deref.ensures) c.dart_at-head.ensures c.keeps_rings.ensures c.requires.first c.requires.last c.pred-edge_before.ensures c.if-edge_before-last.true c.reverse.ensures).kept

pub returns-then-edge_before-last-clause-turned : goal.returns-then-edge_before-last-clause-turned
returns-then-edge_before-last-clause-turned c = (call-whole c.self.inside.frame.value.tails.items c.self.inside.nodes c.self.inside.frame.value.rings.items c.self.invariant c.args.self.now c.self.view_is c.args.v c.args.first c.args.last c.pred-edge_before.result c.dart_at-head.result c.deref-2.result.now c.reverse.new.self
    (c.deref-2.ensures.value ∙ ap (λ (f : Frame). f.tails.items) c.deref.ensures) c.dart_at-head.ensures c.keeps_rings.ensures c.requires.first c.requires.last c.pred-edge_before.ensures c.if-edge_before-last.true c.reverse.ensures).turned

pub returns-then-edge_before-last-clause-elsewhere : goal.returns-then-edge_before-last-clause-elsewhere
returns-then-edge_before-last-clause-elsewhere c = (call-whole c.self.inside.frame.value.tails.items c.self.inside.nodes c.self.inside.frame.value.rings.items c.self.invariant c.args.self.now c.self.view_is c.args.v c.args.first c.args.last c.pred-edge_before.result c.dart_at-head.result c.deref-2.result.now c.reverse.new.self
    (c.deref-2.ensures.value ∙ ap (λ (f : Frame). f.tails.items) c.deref.ensures) c.dart_at-head.ensures c.keeps_rings.ensures c.requires.first c.requires.last c.pred-edge_before.ensures c.if-edge_before-last.true c.reverse.ensures).elsewhere

-- other edges are left: the run is cut out, reversed and spliced in
pub invariant_of-self-2 : goal.invariant_of-self-2
invariant_of-self-2 c = (call-turned c.self.inside.frame.value.tails.items c.self.inside.nodes c.self.inside.frame.value.rings.items c.self.invariant c.args.self.now c.self.view_is c.args.v c.args.first c.args.last c.pred-edge_before.result
    c.dart_at-before.result c.dart_at-end.result c.dart_at-head.result c.deref-4.result.now c.deref-6.result.now c.deref-2.result.now c.exchange.new.self c.reverse-2.new.self c.exchange-2.new.self
    (c.deref-4.ensures.value ∙ ap (λ (f : Frame). f.tails.items) c.deref-3.ensures) (c.deref-6.ensures.value ∙ ap (λ (f : Frame). f.tails.items) c.deref-5.ensures) (c.deref-2.ensures.value ∙ ap (λ (f : Frame). f.tails.items) c.deref.ensures) c.dart_at-before.ensures c.dart_at-end.ensures c.dart_at-head.ensures
    c.keeps_rings.ensures c.requires.first c.requires.last c.pred-edge_before.ensures c.if-edge_before-last.false c.exchange.ensures c.reverse-2.ensures c.exchange-2.ensures).kept

pub returns-clause-turned : goal.returns-clause-turned
returns-clause-turned c = (call-turned c.self.inside.frame.value.tails.items c.self.inside.nodes c.self.inside.frame.value.rings.items c.self.invariant c.args.self.now c.self.view_is c.args.v c.args.first c.args.last c.pred-edge_before.result
    c.dart_at-before.result c.dart_at-end.result c.dart_at-head.result c.deref-4.result.now c.deref-6.result.now c.deref-2.result.now c.exchange.new.self c.reverse-2.new.self c.exchange-2.new.self
    (c.deref-4.ensures.value ∙ ap (λ (f : Frame). f.tails.items) c.deref-3.ensures) (c.deref-6.ensures.value ∙ ap (λ (f : Frame). f.tails.items) c.deref-5.ensures) (c.deref-2.ensures.value ∙ ap (λ (f : Frame). f.tails.items) c.deref.ensures) c.dart_at-before.ensures c.dart_at-end.ensures c.dart_at-head.ensures
    c.keeps_rings.ensures c.requires.first c.requires.last c.pred-edge_before.ensures c.if-edge_before-last.false c.exchange.ensures c.reverse-2.ensures c.exchange-2.ensures).turned

pub returns-clause-elsewhere : goal.returns-clause-elsewhere
returns-clause-elsewhere c = (call-turned c.self.inside.frame.value.tails.items c.self.inside.nodes c.self.inside.frame.value.rings.items c.self.invariant c.args.self.now c.self.view_is c.args.v c.args.first c.args.last c.pred-edge_before.result
    c.dart_at-before.result c.dart_at-end.result c.dart_at-head.result c.deref-4.result.now c.deref-6.result.now c.deref-2.result.now c.exchange.new.self c.reverse-2.new.self c.exchange-2.new.self
    (c.deref-4.ensures.value ∙ ap (λ (f : Frame). f.tails.items) c.deref-3.ensures) (c.deref-6.ensures.value ∙ ap (λ (f : Frame). f.tails.items) c.deref-5.ensures) (c.deref-2.ensures.value ∙ ap (λ (f : Frame). f.tails.items) c.deref.ensures) c.dart_at-before.ensures c.dart_at-end.ensures c.dart_at-head.ensures
    c.keeps_rings.ensures c.requires.first c.requires.last c.pred-edge_before.ensures c.if-edge_before-last.false c.exchange.ensures c.reverse-2.ensures c.exchange-2.ensures).elsewhere
