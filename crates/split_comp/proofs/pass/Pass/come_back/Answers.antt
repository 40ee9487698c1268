use Rattle.std.proofs.Common.{slice_index_or, ap, ◌∙◌}
use Rattle.std.proofs.lemmas.Result.{IfOk-weaker}
use Rattle.split_comp.specs.Pass.{PassState, IsBack, gone_back}
use Rattle.split_comp.proofs.Turned.{came-can, came-back}
use Rattle.split_comp.proofs.pass.Pass.come_back.Goals as goal

pub add_tree_edge-requires-clause-can : goal.add_tree_edge-requires-clause-can
add_tree_edge-requires-clause-can g c = came-can c.args.g.now c.args.tree.now c.requires.numbered c.args.self.now c.requires.pass c.requires.all c.requires.not_root c.requires.inner c.args.v c.index.result.now c.self.inside.at c.index-start.result.now c.requires.parent (ap (λ (s : PassState). s.at) c.self.view_is)
    (c.index.ensures ∙ ap (λ (s : PassState). slice_index_or s.gone c.args.v c.index.result.now) c.self.view_is) (c.index-start.ensures ∙ ap (λ (s : PassState). slice_index_or s.start c.self.inside.at c.index-start.result.now) c.self.view_is)
    c.dart-dart.result c.dart-dart.ensures c.go_up.new.self (c.go_up.ensures ∙ ap (λ (s : PassState). gone_back s c.args.v c.self.inside.at) c.note_gone.ensures)

pub returns-clause-back : goal.returns-clause-back
returns-clause-back g c = IfOk-weaker c.add_tree_edge.result _ (λ x. IsBack c.args.g.now c.args.tree.now c.args.self.now.at c.add_tree_edge.new.self)
    (λ x a. came-back c.args.g.now c.args.tree.now c.requires.numbered c.args.self.now c.requires.pass c.requires.all c.requires.not_root c.requires.inner c.args.v c.index.result.now c.self.inside.at c.index-start.result.now c.requires.parent (ap (λ (s : PassState). s.at) c.self.view_is)
    (c.index.ensures ∙ ap (λ (s : PassState). slice_index_or s.gone c.args.v c.index.result.now) c.self.view_is) (c.index-start.ensures ∙ ap (λ (s : PassState). slice_index_or s.start c.self.inside.at c.index-start.result.now) c.self.view_is)
    c.dart-dart.result c.dart-dart.ensures c.go_up.new.self (c.go_up.ensures ∙ ap (λ (s : PassState). gone_back s c.args.v c.self.inside.at) c.note_gone.ensures) c.add_tree_edge.new.self a)
    c.add_tree_edge.ensures.added
