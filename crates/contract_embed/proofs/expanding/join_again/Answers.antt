use Rattle.std.proofs.Common.{◌<◌, slice_index, sym, ◌∙◌, ap, subst}
use Rattle.contractions.specs.Contraction.{are_adjacent}
use Rattle.dart_maps.specs.Map.{twin}
use Rattle.dart_maps.specs.Changes.{inserted}
use Rattle.faces.specs.Euler.{tail, dart_count}
use Rattle.contract_embed.specs.Steps.{first_dart, AgreeBelow}
use Rattle.contract_embed.proofs.Carried.{joining-in, rejoined-yes, rejoined-no}
use Rattle.contract_embed.proofs.expanding.join_again.Goals as goal

pub insert-requires-clause-dart : goal.insert-requires-clause-dart
insert-requires-clause-dart c =
    let g = c.args.level.now.graph in
    subst (λ n. c.first_dart-joining.result < n) (sym c.requires.each)
    (joining-in c.args.level.now c.requires.level c.args.wide.now (tail g (twin c.args.dart)) c.first_dart-joining.result (sym c.arrives_at_mark.ensures ∙ c.if-arrives_at_mark.true)
    (c.first_dart-joining.ensures ∙ ap (λ v. first_dart g v c.args.level.now.y) c.head.ensures.is)).0

pub insert-requires-clause-twin_in : goal.insert-requires-clause-twin_in
insert-requires-clause-twin_in c =
    let g = c.args.level.now.graph in
    subst (λ n. twin c.first_dart-joining.result < n) (sym c.requires.each)
    (joining-in c.args.level.now c.requires.level c.args.wide.now (tail g (twin c.args.dart)) c.first_dart-joining.result (sym c.arrives_at_mark.ensures ∙ c.if-arrives_at_mark.true)
    (c.first_dart-joining.ensures ∙ ap (λ v. first_dart g v c.args.level.now.y) c.head.ensures.is)).1

pub returns-then-arrives_at_mark : goal.returns-then-arrives_at_mark
returns-then-arrives_at_mark c = λ f h.
    let g = c.args.level.now.graph in
    rejoined-yes (dart_count g) (slice_index c.insert.new.next) f (are_adjacent g c.args.level.now.y (tail g (twin c.args.dart))) c.first_dart-joining.result (first_dart g (tail g (twin c.args.dart)) c.args.level.now.y) c.args.p c.args.q
    (sym c.arrives_at_mark.ensures ∙ c.if-arrives_at_mark.true)
    (c.first_dart-joining.ensures ∙ ap (λ v. first_dart g v c.args.level.now.y) c.head.ensures.is)
    (subst (λ n. AgreeBelow n (slice_index c.insert.new.next) (inserted c.first_dart-joining.result c.args.p c.args.q f)) c.requires.each
    (c.insert.ensures f (subst (λ n. AgreeBelow n (slice_index c.args.wide.now) f) (sym c.requires.each) h)))

pub returns-else-arrives_at_mark : goal.returns-else-arrives_at_mark
returns-else-arrives_at_mark c = λ f h.
    let g = c.args.level.now.graph in
    rejoined-no (dart_count g) (slice_index c.args.wide.now) f (are_adjacent g c.args.level.now.y (tail g (twin c.args.dart))) (first_dart g (tail g (twin c.args.dart)) c.args.level.now.y) c.args.p c.args.q
    (sym c.arrives_at_mark.ensures ∙ c.if-arrives_at_mark.false) h
