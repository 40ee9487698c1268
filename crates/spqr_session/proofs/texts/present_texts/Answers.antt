use Rattle.std.proofs.Common.{◌≡◌, ◌<◌, ℕ, List, [], length, map, Option, All, sym, ap, ◌∙◌, subst, arith}
use Rattle.std.proofs.lemmas.List.{length-map}
use Rattle.spqr_session.specs.Trees.{BlockTree, tree_at}
use Rattle.spqr_session.specs.State.{Embedding}
use Rattle.spqr_session.specs.Embedded.{BlockView, view_tree, view_at}
use Rattle.spqr_session.specs.Commands.Gml.{block_numbers, marks}
use Rattle.spqr_session.specs.Texts.{AreExtended, bytes_of}
use Rattle.spqr_session.proofs.BlockTrees.{view-at}
use Rattle.spqr_session.proofs.NumberTexts.{AreTexts, bytes-long, tree-within, texts-more, all-texts}
use Rattle.spqr_session.proofs.Views.{seen_family, trees-at, entries-at}
use Rattle.spqr_session.proofs.texts.present_texts.Goals as goal

-- the vertices of a block are vertices of the graph
pub push_block-requires : goal.push_block-requires
push_block-requires c =
    let views = c.args.blocks.now in
    let k = c.loop-block.block-index in
    let v = c.block-item.result in
    let at : v ≡ view_at views k = view-at views k v c.loop-block-test.true c.block-item.is in
    let inside : All (λ w. w < length c.loop-block.texts.items) (tree_at (map view_tree views) k).part.vertices =
    tree-within c.requires.0 c.requires.1 (map view_tree views) k (length c.loop-block.texts.items) c.requires.3 c.requires.4 (omega (arith, c.loop-block-test.true, length-map views view_tree))
    (c.requires.2 ∙ sym (sym (bytes-long c.loop-block.texts.items) ∙ c.loop-block.invariant.long)) in
    subst (λ (t : BlockTree). All (λ w. w < length c.loop-block.texts.items) t.part.vertices) (trees-at views k ∙ sym (ap view_tree at)) inside

-- one block more
pub loop-block-preserved : goal.loop-block-preserved
loop-block-preserved c =
    let views = c.args.blocks.now in
    let trees = map view_tree views in
    let family = seen_family views in
    let k = c.loop-block.block-index in
    let v = c.block-item.result in
    let old = bytes_of c.loop-block.texts.items in
    let new = bytes_of c.push_block.new.texts.items in
    let at : v ≡ view_at views k = view-at views k v c.loop-block-test.true c.block-item.is in
    let more = subst (λ (x : BlockView). AreExtended (block_numbers x.tree x.entry) old new) at c.in_ok-push_block.ensures in
    let in_tree = subst (λ (t : BlockTree). AreExtended (block_numbers t (view_at views k).entry) old new) (sym (trees-at views k)) more in
    texts-more c.args.n trees family k old new c.loop-block.invariant (subst (λ (o : Option Embedding). AreExtended (block_numbers (tree_at trees k) o) old new) (sym (entries-at views k)) in_tree)

-- all of them
pub returns : goal.returns
returns c = λ family e.
    let views = c.args.blocks.now in
    let trees = map view_tree views in
    let all : c.loop-block.block-index ≡ length trees = omega (arith, c.loop-block-test.false, c.loop-block.auto.block-index-end, length-map views view_tree) in
    all-texts c.args.n trees (seen_family views) (bytes_of c.loop-block.texts.items) (subst (λ (k : ℕ). AreTexts c.args.n trees (seen_family views) k (bytes_of c.loop-block.texts.items)) all c.loop-block.invariant)
    ∙ ap (λ (es : List (Option Embedding)). marks c.args.n trees (record { entries = es; arrangements = [] })) (sym e)
