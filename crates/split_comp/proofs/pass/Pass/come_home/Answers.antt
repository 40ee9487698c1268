use Rattle.std.proofs.Common.{slice_index_or, ap, ◌∙◌}
use Rattle.std.proofs.lemmas.Result.{IfOk-weaker}
use Rattle.split_comp.specs.Pass.{PassState, IsPassed, gone_back}
use Rattle.split_comp.proofs.Turned.{came-home}
use Rattle.split_comp.proofs.pass.Pass.come_home.Goals as goal

pub returns-clause-home : goal.returns-clause-home
returns-clause-home c = IfOk-weaker c.push.result _ (λ x. IsPassed c.args.g.now c.args.tree.now c.push.new.self)
    (λ x a. came-home c.args.g.now c.args.tree.now c.requires.numbered c.args.self.now c.requires.pass c.requires.all c.requires.not_root c.requires.outer c.args.v c.index.result.now c.self.inside.at c.index-start.result.now c.requires.parent (ap (λ (s : PassState). s.at) c.self.view_is)
    (c.index.ensures ∙ ap (λ (s : PassState). slice_index_or s.gone c.args.v c.index.result.now) c.self.view_is) (c.index-start.ensures ∙ ap (λ (s : PassState). slice_index_or s.start c.self.inside.at c.index-start.result.now) c.self.view_is)
    c.dart-dart.result c.dart-dart.ensures c.go_up.new.self (c.go_up.ensures ∙ ap (λ (s : PassState). gone_back s c.args.v c.self.inside.at) c.note_gone.ensures) c.push.new.self a)
    c.push.ensures.now
