use Rattle.std.proofs.Common.{◌≡◌, ap, ◌∙◌}
use Rattle.std.proofs.lemmas.Result.{IfOk-weaker}
use Rattle.pair_split.specs.Bridges.{family_of}
use Rattle.split_comp.specs.Pass.{PassState, drawn_items}
use Rattle.split_comp.proofs.Finished.{passed-ends, none-apart}
use Rattle.split_comp.proofs.pass.Pass.edges.Goals as goal

pub edges_of-requires : goal.edges_of-requires
edges_of-requires g c = record { ends = passed-ends c.args.g.now c.args.tree.now c.requires.numbered c.args.self.now c.requires.passed c.deref.result.now (c.deref.ensures.value ∙ ap (λ (s : PassState). s.items) c.self.view_is) }

pub returns-clause-edges : goal.returns-clause-edges
returns-clause-edges g c = IfOk-weaker c.edges_of.result _ (λ edges. family_of edges.items ≡ drawn_items c.args.g.now c.args.tree.now.vertex c.args.self.now.items)
    (λ edges a. a ∙ ap (drawn_items c.args.g.now c.args.tree.now.vertex) (none-apart c.deref.result.now ∙ (c.deref.ensures.value ∙ ap (λ (s : PassState). s.items) c.self.view_is)))
    c.edges_of.ensures.edges
