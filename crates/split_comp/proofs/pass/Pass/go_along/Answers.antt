use Rattle.std.proofs.Common.{slice_index_or, ap, ◌∙◌}
use Rattle.std.proofs.lemmas.Result.{IfOk-weaker}
use Rattle.split_comp.specs.Pass.{PassState, IsPass, IsTurned}
use Rattle.split_comp.proofs.Turned.{along-child, along-child-turned, along-can, along-frond, along-frond-turned}
use Rattle.split_comp.proofs.pass.Pass.go_along.Goals as goal

pub returns-then-dart-clause-gone : goal.returns-then-dart-clause-gone
returns-then-dart-clause-gone g c = along-child c.args.g.now c.args.tree.now c.requires.numbered c.args.self.now c.requires.pass c.requires.more c.self.inside.at c.index.result.now
    (ap (λ (s : PassState). s.at) c.self.view_is) (c.index.ensures ∙ ap (λ (s : PassState). slice_index_or s.gone c.self.inside.at c.index.result.now) c.self.view_is) c.dart-dart.result c.dart-dart.ensures c.if-dart.true c.go_down.new.self c.go_down.ensures

pub add_frond-requires-clause-can : goal.add_frond-requires-clause-can
add_frond-requires-clause-can g c = along-can c.args.g.now c.args.tree.now c.requires.numbered c.args.self.now c.requires.pass c.requires.more c.self.inside.at c.index.result.now
    (ap (λ (s : PassState). s.at) c.self.view_is) (c.index.ensures ∙ ap (λ (s : PassState). slice_index_or s.gone c.self.inside.at c.index.result.now) c.self.view_is) c.dart-dart.result c.dart-dart.ensures c.if-dart.false c.note_gone.new.self c.note_gone.ensures

pub returns-clause-gone : goal.returns-clause-gone
returns-clause-gone g c = IfOk-weaker c.add_frond.result _ (λ x. IsPass c.args.g.now c.args.tree.now c.add_frond.new.self)
    (λ x a. along-frond c.args.g.now c.args.tree.now c.requires.numbered c.args.self.now c.requires.pass c.requires.more c.self.inside.at c.index.result.now
    (ap (λ (s : PassState). s.at) c.self.view_is) (c.index.ensures ∙ ap (λ (s : PassState). slice_index_or s.gone c.self.inside.at c.index.result.now) c.self.view_is) c.dart-dart.result c.dart-dart.ensures c.if-dart.false c.note_gone.new.self c.note_gone.ensures
    c.add_frond.new.self a)
    c.add_frond.ensures.added

pub returns-then-dart-clause-turned : goal.returns-then-dart-clause-turned
returns-then-dart-clause-turned g c = along-child-turned c.args.g.now c.args.tree.now c.requires.numbered c.args.self.now c.requires.pass c.requires.more c.self.inside.at c.index.result.now
    (ap (λ (s : PassState). s.at) c.self.view_is) (c.index.ensures ∙ ap (λ (s : PassState). slice_index_or s.gone c.self.inside.at c.index.result.now) c.self.view_is) c.dart-dart.result c.dart-dart.ensures c.if-dart.true c.go_down.new.self c.go_down.ensures

pub returns-clause-turned : goal.returns-clause-turned
returns-clause-turned g c = IfOk-weaker c.add_frond.result _ (λ x. IsTurned c.args.g.now c.args.tree.now c.args.self.now c.add_frond.new.self)
    (λ x a. along-frond-turned c.args.g.now c.args.tree.now c.requires.numbered c.args.self.now c.requires.pass c.requires.more c.self.inside.at c.index.result.now
    (ap (λ (s : PassState). s.at) c.self.view_is) (c.index.ensures ∙ ap (λ (s : PassState). slice_index_or s.gone c.self.inside.at c.index.result.now) c.self.view_is) c.dart-dart.result c.dart-dart.ensures c.if-dart.false c.note_gone.new.self c.note_gone.ensures
    c.add_frond.new.self a)
    c.add_frond.ensures.added
