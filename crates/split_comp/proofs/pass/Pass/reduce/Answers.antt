use Rattle.std.proofs.Common.{◌<◌, length, slice_index, sym, subst, ap, ◌∙◌}
use Rattle.split_comp.specs.Pass.{PassState, top_item}
use Rattle.split_comp.proofs.SplitOff.{stale-once, top-first}
use Rattle.split_comp.proofs.pass.Pass.reduce.Goals as goal

pub returns-then-drop_stale-clause-reduced : goal.returns-then-drop_stale-clause-reduced
returns-then-drop_stale-clause-reduced g c = stale-once c.args.g.now c.args.tree.now c.requires.numbered c.args.self.now c.requires.back c.here-v.result c.base_of-base.result c.here-v.ensures
    (c.base_of-base.ensures ∙ ap (slice_index c.args.self.now.base) c.child.ensures) c.drop_stale.new.self c.if-drop_stale.ensures

pub is_triangle-requires-clause-low : goal.is_triangle-requires-clause-low
is_triangle-requires-clause-low g c = subst (λ (s : PassState). (top_item s).low < length s.first) (sym c.if-drop_stale.ensures.0) (top-first c.args.g.now c.args.tree.now c.requires.numbered c.args.self.now c.requires.back)
