use Rattle.std.proofs.Common.{◌≡◌, ◌<◌, length, slice_index, sym, ◌∙◌, subst}
use Rattle.permutations.specs.Exchange.{exchange}
use Rattle.multigraph.specs.Graph.{edge_count}
use Rattle.dart_maps.specs.Map.{twin}
use Rattle.dart_maps.specs.Changes.{inserted}
use Rattle.faces.specs.Euler.{dart_count}
use Rattle.contractions.specs.Level.{contraction}
use Rattle.contract_embed.specs.Steps.{AgreeBelow}
use Rattle.contract_embed.proofs.Carried.{middle-in, again, expanded-steps}
use Rattle.contract_embed.proofs.expanding.split.Goals as goal

pub before-requires-2-clause-dart : goal.before-requires-2-clause-dart
before-requires-2-clause-dart c = c.twin.ensures.within (edge_count (contraction c.args.level.now)) c.requires.last

pub insert-requires-clause-twin_in : goal.insert-requires-clause-twin_in
insert-requires-clause-twin_in c = subst (λ n. twin c.dart_from-middle.result < n) (sym (c.exchange.auto.next ∙ c.requires.carried.each))
    (middle-in c.args.level.now c.requires.level c.args.next.now c.dart_from-middle.result c.dart_from-middle.ensures).1

pub join_again-requires-clause-first : goal.join_again-requires-clause-first
join_again-requires-clause-first c = c.twin-2.ensures.within (edge_count c.args.level.now.graph) c.origin-early.ensures.within

pub join_again-requires-2-clause-second : goal.join_again-requires-2-clause-second
join_again-requires-2-clause-second c = c.twin-3.ensures.within (edge_count c.args.level.now.graph) (middle-in c.args.level.now c.requires.level c.args.next.now c.dart_from-middle.result c.dart_from-middle.ensures).0

pub returns : goal.returns
returns c =
    let level = c.args.level.now in
    let n = dart_count level.graph in
    let one : length c.exchange.new.next ≡ n = c.exchange.auto.next ∙ c.requires.carried.each in
    expanded-steps level c.requires.level c.args.next.now c.requires.steps c.args.first c.args.last c.requires.runs c.args.wide.now c.join_again-2.new.wide c.requires.carried
    c.before-2.result c.before-3.result c.origin-end.result c.origin-behind.result c.dart_from-middle.result c.origin-early.result c.origin-late.result c.twin-2.result c.twin-3.result
    c.before-2.ensures.within c.before-2.ensures.follows c.before-3.ensures.within (c.before-3.ensures.follows ∙ c.twin.ensures.is)
    c.origin-end.ensures.is c.origin-behind.ensures.is c.dart_from-middle.ensures c.origin-early.ensures.is c.origin-late.ensures.is c.twin-2.ensures.is c.twin-3.ensures.is
    (c.join_again-2.auto.wide ∙ c.join_again.auto.wide ∙ c.insert.auto.next ∙ one)
    (λ f h. c.join_again-2.ensures (again level c.requires.level c.args.next.now c.origin-early.result c.twin-2.result c.origin-end.result (inserted c.dart_from-middle.result c.origin-late.result c.origin-end.result (exchange c.origin-late.result c.origin-end.result f)))
    (c.join_again.ensures (inserted c.dart_from-middle.result c.origin-late.result c.origin-end.result (exchange c.origin-late.result c.origin-end.result f))
    (subst (λ m. AgreeBelow m (slice_index c.insert.new.next) (inserted c.dart_from-middle.result c.origin-late.result c.origin-end.result (exchange c.origin-late.result c.origin-end.result f))) one
    (c.insert.ensures (exchange c.origin-late.result c.origin-end.result f)
    (subst (λ m. AgreeBelow m (slice_index c.exchange.new.next) (exchange c.origin-late.result c.origin-end.result f)) (c.requires.carried.each ∙ sym one)
    (c.exchange.ensures f (subst (λ m. AgreeBelow m (slice_index c.args.wide.now) f) (sym c.requires.carried.each) h)))))))
