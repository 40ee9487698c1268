use Rattle.std.proofs.Common.{slice_index, ap, ◌∙◌}
use Rattle.std.proofs.lemmas.Result.{IfOk-weaker}
use Rattle.split_comp.specs.Pass.{IsPass, IsAsFar}
use Rattle.split_comp.proofs.ChildLeft.{noted-within, met-within, noted-left, met-left}
use Rattle.split_comp.proofs.pass.Pass.leave_child.Goals as goal

pub note_dart-requires-clause-within : goal.note_dart-requires-clause-within
note_dart-requires-clause-within g c = noted-within c.args.g.now c.args.tree.now c.requires.numbered c.args.self.now c.requires.reduced c.here-v.result c.start_of-start.result c.base_of-base.result c.gone_of.result c.dart-dart.result c.here-v.ensures (c.start_of-start.ensures ∙ ap (slice_index c.args.self.now.start) c.child.ensures)
    (c.base_of-base.ensures ∙ ap (slice_index c.args.self.now.base) c.child-2.ensures) c.gone_of.ensures c.dart-dart.ensures c.drop_cuts.new.self c.drop_cuts.ensures

pub returns-then-start-start_of-clause-left : goal.returns-then-start-start_of-clause-left
returns-then-start-start_of-clause-left g c = IfOk-weaker c.note_dart.result _ (λ x. IsPass c.args.g.now c.args.tree.now c.note_dart.new.self × IsAsFar c.args.self.now c.note_dart.new.self)
    (λ x a. noted-left c.args.g.now c.args.tree.now c.requires.numbered c.args.self.now c.requires.reduced c.here-v.result c.start_of-start.result c.base_of-base.result c.gone_of.result c.dart-dart.result c.here-v.ensures (c.start_of-start.ensures ∙ ap (slice_index c.args.self.now.start) c.child.ensures)
    (c.base_of-base.ensures ∙ ap (slice_index c.args.self.now.base) c.child-2.ensures) c.gone_of.ensures c.dart-dart.ensures c.if-is_whole.ensures c.start_of.result c.start_of.ensures c.if-start-start_of.true c.drop_cuts.new.self c.note_dart.new.self c.drop_cuts.ensures a)
    c.note_dart.ensures.noted

pub drop_met-requires-clause-base : goal.drop_met-requires-clause-base
drop_met-requires-clause-base g c = met-within c.args.g.now c.args.tree.now c.requires.numbered c.args.self.now c.requires.reduced c.here-v.result c.start_of-start.result c.base_of-base.result c.gone_of.result c.dart-dart.result c.here-v.ensures (c.start_of-start.ensures ∙ ap (slice_index c.args.self.now.start) c.child.ensures)
    (c.base_of-base.ensures ∙ ap (slice_index c.args.self.now.base) c.child-2.ensures) c.gone_of.ensures c.dart-dart.ensures

pub returns-clause-left : goal.returns-clause-left
returns-clause-left g c = met-left c.args.g.now c.args.tree.now c.requires.numbered c.args.self.now c.requires.reduced c.here-v.result c.start_of-start.result c.base_of-base.result c.gone_of.result c.dart-dart.result c.here-v.ensures (c.start_of-start.ensures ∙ ap (slice_index c.args.self.now.start) c.child.ensures)
    (c.base_of-base.ensures ∙ ap (slice_index c.args.self.now.base) c.child-2.ensures) c.gone_of.ensures c.dart-dart.ensures c.if-is_whole.ensures c.start_of.result c.start_of.ensures c.if-start-start_of.false c.drop_met.new.self c.drop_met.ensures.dropped
