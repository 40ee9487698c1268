use Rattle.std.proofs.Common.{◌≡◌, ◌<◌, ◌++◌, List, ℕ, ap, ◌∙◌, subst}
use Rattle.multigraph.specs.Part.{GraphPart}
use Rattle.pair_split.specs.Tutte.{Node}
use Rattle.spqr_script.specs.Head.{block_text}
use Rattle.spqr_session.specs.Embedded.{BlockView, view_at}
use Rattle.spqr_session.specs.Head.{nodes_text, planarity_text}
use Rattle.spqr_session.proofs.BlockTrees.{lines-more, view-at, view-within}
use Rattle.spqr_session.proofs.head.push_blocks.Goals as goal

pub loop-b-preserved : goal.loop-b-preserved
loop-b-preserved c =
    let b = c.loop-b.b in
    let blocks = c.args.blocks.now.blocks in
    let views = c.args.embedded.now in
    let v = c.index-embedded-b.result in
    let within = subst (λ (n : ℕ). b < n) c.block_count-b-end.ensures c.loop-b-test.true in
    let at : v ≡ view_at views b = view-at views b v (view-within c.requires.0 blocks views b c.requires.1 within) c.index-embedded-b.is in
    lines-more blocks views b c.args.out.now.items c.loop-b.out.items c.push_block_line.new.out.items c.push_nodes.new.out.items c.push_planarity.new.out.items within c.loop-b.invariant
    (c.in_ok-push_block_line.ensures ∙ ap (λ (es : List ℕ). c.loop-b.out.items ++ block_text b es) c.edges.ensures)
    (c.in_ok-push_nodes.ensures ∙ ap (λ (p : GraphPart). c.push_block_line.new.out.items ++ nodes_text p c.tree.result.now) c.part.ensures
    ∙ ap (λ (nodes : List Node). c.push_block_line.new.out.items ++ nodes_text v.tree.part nodes) c.tree.ensures
    ∙ ap (λ (x : BlockView). c.push_block_line.new.out.items ++ nodes_text x.tree.part x.tree.nodes) at)
    (c.in_ok-push_planarity.ensures ∙ ap (λ (x : BlockView). c.push_nodes.new.out.items ++ planarity_text b x.tree.part x.certificate) at)
