use Rattle.std.proofs.Common.{◌≡◌, ◌<◌, ℕ, length, slice_index, ap, ◌∙◌, subst, arith}
use Rattle.multigraph.specs.Graph.{Multigraph}
use Rattle.multigraph.specs.Part.{GraphPart, IsNumbered}
use Rattle.spqr_session.specs.Texts.{AreExtended, bytes_of}
use Rattle.spqr_session.proofs.NumberTexts.{added_below, added-more, all-added, bytes-long, embedded-long}
use Rattle.spqr_session.proofs.texts.push_block.Goals as goal

-- the edges of one vertex more
pub loop-i-preserved : goal.loop-i-preserved
loop-i-preserved c =
    let block = c.args.block.now in
    let part = block.tree.part in
    let old = c.args.texts.now.items in
    let numbered = subst (λ (p : GraphPart). IsNumbered p) c.part.ensures c.graph.ensures.numbered in
    let count : c.vertex_count-i-end.result ≡ part.graph.vertex_count = c.vertex_count-i-end.ensures.value ∙ ap (λ (g : Multigraph). g.vertex_count) (c.graph.ensures.value ∙ ap (λ (p : GraphPart). p.graph) c.part.ensures) in
    let below : c.loop-i.i < length part.vertices = omega (arith, c.loop-i-test.true, count, numbered.vertex_each) in
    let inside : slice_index part.vertices c.loop-i.i < length (bytes_of old) = omega (arith, c.requires c.loop-i.i 0 below, bytes-long old) in
    added-more block.tree block.entry numbered (bytes_of old) c.loop-i.i (bytes_of c.loop-i.texts.items) (bytes_of c.push_vertex.new.texts.items) below inside c.loop-i.invariant c.in_ok-push_vertex.ensures

-- of all of them
pub returns : goal.returns
returns c =
    let block = c.args.block.now in
    let part = block.tree.part in
    let old = c.args.texts.now.items in
    let numbered = subst (λ (p : GraphPart). IsNumbered p) c.part.ensures c.graph.ensures.numbered in
    let count : c.vertex_count-i-end.result ≡ part.graph.vertex_count = c.vertex_count-i-end.ensures.value ∙ ap (λ (g : Multigraph). g.vertex_count) (c.graph.ensures.value ∙ ap (λ (p : GraphPart). p.graph) c.part.ensures) in
    let all : c.loop-i.i ≡ part.graph.vertex_count = omega (arith, c.loop-i-test.false, c.loop-i.auto.i-end, count) in
    all-added block.tree block.entry numbered (bytes_of old) (bytes_of c.loop-i.texts.items) (embedded-long block c.outcome.result.now c.outcome.ensures.view c.outcome.ensures.right)
    (subst (λ (i : ℕ). AreExtended (added_below block.tree block.entry i) (bytes_of old) (bytes_of c.loop-i.texts.items)) all c.loop-i.invariant)
