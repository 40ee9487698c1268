use Rattle.std.proofs.Common.{◌<◌, ◌≤◌, ◌∙◌, sym, ap, subst, ℕ, length}
use Rattle.multigraph.specs.Graph.{Multigraph}
use Rattle.spqr_script.proofs.RotationText.{entries-more, entries-end}
use Rattle.spqr_script.proofs.answers.rotation.push_entries.Goals as goal

pub loop-v-preserved : goal.loop-v-preserved
loop-v-preserved c =
    let part = c.args.part.now in
    let r = c.args.lists.now in
    let in_graph : c.loop-v.v < part.graph.vertex_count = subst (λ (n : ℕ). c.loop-v.v < n) (c.vertex_count-v-end.ensures.value ∙ ap (λ (g : Multigraph). g.vertex_count) c.graph.ensures.value) c.loop-v-test.true in
    let in_r : c.loop-v.v < length r = subst (λ (n : ℕ). c.loop-v.v < n) (sym c.requires.vertices) in_graph in
    let in_part : c.loop-v.v < length part.vertices = subst (λ (n : ℕ). c.loop-v.v < n) (sym c.graph.ensures.numbered.vertex_each) in_graph in
    entries-more part r c.loop-v.before.now c.loop-v.out.items c.push_word.new.out.items c.push_entry.new.out.items _ c.loop-v.v in_part in_r c.loop-v.invariant c.in_ok-push_word.ensures c.in_ok-push_entry.ensures

pub returns : goal.returns
returns c =
    let past : length c.args.lists.now ≤ c.loop-v.v = subst (λ (n : ℕ). n ≤ c.loop-v.v) (c.vertex_count-v-end.ensures.value ∙ ap (λ (g : Multigraph). g.vertex_count) c.graph.ensures.value ∙ sym c.requires.vertices) c.loop-v-test.false in
    entries-end c.args.part.now c.args.lists.now c.loop-v.before.now c.loop-v.out.items _ c.loop-v.v past c.loop-v.invariant
