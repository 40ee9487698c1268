use Rattle.std.proofs.Common.{◌+◌, ℕ, List, map, drop, ap, sym, ◌∙◌, subst, arith, [], ◌∷◌, All}
use Rattle.std.proofs.lemmas.List.Elements.{All-head, All-tail}
use Rattle.skeletons.specs.Moves.{Move}
use Rattle.skel_embed.specs.Values.{as_move}
use Rattle.embed_moves.specs.Made.{Fits}
use Rattle.spqr_session.specs.Trees.{BlockTree, tree_at}
use Rattle.spqr_session.specs.Embedded.{BlockView, view_tree, view_entry}
use Rattle.spqr_session.specs.History.{as_pair, as_pairs, pairs_moved, IsMoveOf}
use Rattle.spqr_session.proofs.Views.{trees-at}
use Rattle.spqr_session.proofs.BlockTrees.{view-at}
use Rattle.spqr_session.proofs.BoardSteps.{next-pair, set-carried, set-moved, pair-within}
use Rattle.spqr_session.proofs.board.move_blocks.Goals as goal

pub index_mut-requires : goal.index_mut-requires
index_mut-requires c =
    let items = c.as_slice-pair-items.result.now in
    let i = c.loop-pair.pair-index in
    let m = c.pair-item.result in
    omega (arith, c.loop-pair.blocks.ok.0, pair-within c.args.blocks.now.items c.loop-pair.blocks.items items i m c.loop-pair-test.true c.pair-item.is c.loop-pair.invariant.carried.trees c.loop-pair.invariant.right)

pub carry-requires : goal.carry-requires
carry-requires c =
    let items = c.as_slice-pair-items.result.now in
    let i = c.loop-pair.pair-index in
    let m = c.pair-item.result in
    let was = c.loop-pair.invariant in
    let trees = map view_tree c.args.blocks.now.items in
    let now = c.loop-pair.blocks.items in
    let within = pair-within c.args.blocks.now.items now items i m c.loop-pair-test.true c.pair-item.is was.carried.trees was.right in
    let h = All-head (IsMoveOf trees) (as_pair m) (as_pairs (drop (i + 1) items)) (subst (All (IsMoveOf trees)) (next-pair items i m c.loop-pair-test.true c.pair-item.is) was.right) in
    let tree = ap (λ (ts : List BlockTree). tree_at ts m.block) (sym was.carried.trees) ∙ trees-at now m.block ∙ ap view_tree (sym (view-at now m.block c.index_mut.result.now within c.index_mut.ensures.value)) in
    subst (λ (t : BlockTree). Fits t.nodes (as_move m.one)) tree h.1

pub loop-pair-preserved : goal.loop-pair-preserved
loop-pair-preserved c =
    let items = c.as_slice-pair-items.result.now in
    let i = c.loop-pair.pair-index in
    let m = c.pair-item.result in
    let was = c.loop-pair.invariant in
    let trees = map view_tree c.args.blocks.now.items in
    let now = c.loop-pair.blocks.items in
    let within = pair-within c.args.blocks.now.items now items i m c.loop-pair-test.true c.pair-item.is was.carried.trees was.right in
    let next = next-pair items i m c.loop-pair-test.true c.pair-item.is in
    let rest = as_pairs (drop (i + 1) items) in
    let w = c.index_mut.result.now in
    let step = set-carried now m.block c.carry.new.self w within c.index_mut.ensures.value (ap (λ (v : BlockView). v.tree) c.carry.ensures) (ap (λ (v : BlockView). v.certificate) c.carry.ensures) in
    let moved = set-moved now trees m.block c.carry.new.self w (as_move m.one ∷ []) was.carried.trees within c.index_mut.ensures.value (ap (λ (v : BlockView). v.entry) c.carry.ensures) in record {
      carried = record { trees = step.trees ∙ was.carried.trees; certificates = step.certificates ∙ was.carried.certificates };
      right = All-tail (IsMoveOf trees) (as_pair m) rest (subst (All (IsMoveOf trees)) next was.right);
      made = ap (pairs_moved trees rest) moved ∙ sym (ap (λ (ps : List (ℕ × Move)). pairs_moved trees ps (map view_entry now)) next) ∙ was.made;
    }
