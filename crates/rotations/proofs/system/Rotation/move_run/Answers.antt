use Rattle.std.proofs.Common.{ap, ◌∙◌, arith}
use Rattle.rotations.specs.Rotation.{order_at}
use Rattle.rotations.specs.declared.rings.Frame.{Frame}
use Rattle.rotations.proofs.Calls.{outside-first, outside-last, outside-edge, before-in, darts-there, node-there, call-moved}
use Rattle.rotations.proofs.system.Rotation.move_run.Goals as goal

-- the edges that are named, and the one before the run, are round the vertex
pub pred-requires : goal.pred-requires
pred-requires c = outside-first (order_at c.args.self.now c.args.v) c.args.first c.args.last c.args.after c.requires

pub dart_at-before-requires-clause-is_edge : goal.dart_at-before-requires-clause-is_edge
dart_at-before-requires-clause-is_edge c = darts-there c.self.inside.frame.value.tails.items c.self.inside.nodes c.self.inside.frame.value.rings.items c.self.invariant c.args.self.now c.self.view_is c.args.v c.pred.result c.deref-2.result.now (c.deref-2.ensures.value ∙ ap (λ (f : Frame). f.tails.items) c.deref.ensures)
    (before-in (order_at c.args.self.now c.args.v) c.args.first c.pred.result (outside-first (order_at c.args.self.now c.args.v) c.args.first c.args.last c.args.after c.requires) c.pred.ensures)

pub dart_at-back-requires-clause-is_edge : goal.dart_at-back-requires-clause-is_edge
dart_at-back-requires-clause-is_edge c = darts-there c.self.inside.frame.value.tails.items c.self.inside.nodes c.self.inside.frame.value.rings.items c.self.invariant c.args.self.now c.self.view_is c.args.v c.args.last c.deref-4.result.now (c.deref-4.ensures.value ∙ ap (λ (f : Frame). f.tails.items) c.deref-3.ensures)
    (outside-last (order_at c.args.self.now c.args.v) c.args.first c.args.last c.args.after c.requires)

pub dart_at-place-requires-clause-is_edge : goal.dart_at-place-requires-clause-is_edge
dart_at-place-requires-clause-is_edge c = darts-there c.self.inside.frame.value.tails.items c.self.inside.nodes c.self.inside.frame.value.rings.items c.self.invariant c.args.self.now c.self.view_is c.args.v c.args.after c.deref-6.result.now (c.deref-6.ensures.value ∙ ap (λ (f : Frame). f.tails.items) c.deref-5.ensures)
    (outside-edge (order_at c.args.self.now c.args.v) c.args.first c.args.last c.args.after c.requires)

-- their darts are nodes
pub exchange-requires-clause-first : goal.exchange-requires-clause-first
exchange-requires-clause-first c = node-there c.self.inside.frame.value.tails.items c.self.inside.nodes c.self.inside.frame.value.rings.items c.self.invariant c.args.self.now c.self.view_is c.args.v c.pred.result c.dart_at-before.result c.deref-2.result.now (c.deref-2.ensures.value ∙ ap (λ (f : Frame). f.tails.items) c.deref.ensures) c.dart_at-before.ensures
    (before-in (order_at c.args.self.now c.args.v) c.args.first c.pred.result (outside-first (order_at c.args.self.now c.args.v) c.args.first c.args.last c.args.after c.requires) c.pred.ensures)

pub exchange-requires-clause-second : goal.exchange-requires-clause-second
exchange-requires-clause-second c = node-there c.self.inside.frame.value.tails.items c.self.inside.nodes c.self.inside.frame.value.rings.items c.self.invariant c.args.self.now c.self.view_is c.args.v c.args.last c.dart_at-back.result c.deref-4.result.now (c.deref-4.ensures.value ∙ ap (λ (f : Frame). f.tails.items) c.deref-3.ensures) c.dart_at-back.ensures
    (outside-last (order_at c.args.self.now c.args.v) c.args.first c.args.last c.args.after c.requires)

pub exchange-requires-2-clause-first : goal.exchange-requires-2-clause-first
exchange-requires-2-clause-first c = omega (
  arith,
  c.exchange.ensures.count,
  node-there c.self.inside.frame.value.tails.items c.self.inside.nodes c.self.inside.frame.value.rings.items c.self.invariant c.args.self.now c.self.view_is c.args.v c.args.after c.dart_at-place.result c.deref-6.result.now (c.deref-6.ensures.value ∙ ap (λ (f : Frame). f.tails.items) c.deref-5.ensures) c.dart_at-place.ensures
      (outside-edge (order_at c.args.self.now c.args.v) c.args.first c.args.last c.args.after c.requires),
)

pub exchange-requires-2-clause-second : goal.exchange-requires-2-clause-second
exchange-requires-2-clause-second c = omega (
  arith,
  c.exchange.ensures.count,
  node-there c.self.inside.frame.value.tails.items c.self.inside.nodes c.self.inside.frame.value.rings.items c.self.invariant c.args.self.now c.self.view_is c.args.v c.args.last c.dart_at-back.result c.deref-4.result.now (c.deref-4.ensures.value ∙ ap (λ (f : Frame). f.tails.items) c.deref-3.ensures) c.dart_at-back.ensures
      (outside-last (order_at c.args.self.now c.args.v) c.args.first c.args.last c.args.after c.requires),
)

-- two exchanges move the run
pub invariant_of-self : goal.invariant_of-self
invariant_of-self c = (call-moved c.self.inside.frame.value.tails.items c.self.inside.nodes c.self.inside.frame.value.rings.items c.self.invariant c.args.self.now c.self.view_is c.args.v c.args.first c.args.last c.args.after c.pred.result
    c.dart_at-before.result c.dart_at-back.result c.dart_at-place.result c.deref-2.result.now c.deref-4.result.now c.deref-6.result.now c.exchange.new.self c.exchange-2.new.self
    (c.deref-2.ensures.value ∙ ap (λ (f : Frame). f.tails.items) c.deref.ensures) (c.deref-4.ensures.value ∙ ap (λ (f : Frame). f.tails.items) c.deref-3.ensures) (c.deref-6.ensures.value ∙ ap (λ (f : Frame). f.tails.items) c.deref-5.ensures) c.dart_at-before.ensures c.dart_at-back.ensures c.dart_at-place.ensures c.requires c.pred.ensures c.exchange.ensures c.exchange-2.ensures).kept

pub returns-clause-moved : goal.returns-clause-moved
returns-clause-moved c = (call-moved c.self.inside.frame.value.tails.items c.self.inside.nodes c.self.inside.frame.value.rings.items c.self.invariant c.args.self.now c.self.view_is c.args.v c.args.first c.args.last c.args.after c.pred.result
    c.dart_at-before.result c.dart_at-back.result c.dart_at-place.result c.deref-2.result.now c.deref-4.result.now c.deref-6.result.now c.exchange.new.self c.exchange-2.new.self
    (c.deref-2.ensures.value ∙ ap (λ (f : Frame). f.tails.items) c.deref.ensures) (c.deref-4.ensures.value ∙ ap (λ (f : Frame). f.tails.items) c.deref-3.ensures) (c.deref-6.ensures.value ∙ ap (λ (f : Frame). f.tails.items) c.deref-5.ensures) c.dart_at-before.ensures c.dart_at-back.ensures c.dart_at-place.ensures c.requires c.pred.ensures c.exchange.ensures c.exchange-2.ensures).moved

pub returns-clause-elsewhere : goal.returns-clause-elsewhere
returns-clause-elsewhere c = (call-moved c.self.inside.frame.value.tails.items c.self.inside.nodes c.self.inside.frame.value.rings.items c.self.invariant c.args.self.now c.self.view_is c.args.v c.args.first c.args.last c.args.after c.pred.result
    c.dart_at-before.result c.dart_at-back.result c.dart_at-place.result c.deref-2.result.now c.deref-4.result.now c.deref-6.result.now c.exchange.new.self c.exchange-2.new.self
    (c.deref-2.ensures.value ∙ ap (λ (f : Frame). f.tails.items) c.deref.ensures) (c.deref-4.ensures.value ∙ ap (λ (f : Frame). f.tails.items) c.deref-3.ensures) (c.deref-6.ensures.value ∙ ap (λ (f : Frame). f.tails.items) c.deref-5.ensures) c.dart_at-before.ensures c.dart_at-back.ensures c.dart_at-place.ensures c.requires c.pred.ensures c.exchange.ensures c.exchange-2.ensures).elsewhere
