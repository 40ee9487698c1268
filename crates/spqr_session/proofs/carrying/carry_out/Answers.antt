use Rattle.std.proofs.Common.{◌≡◌, ℕ, List, map, refl, sym, ap, subst, IfOk}
use Rattle.multigraph.specs.Graph.{Multigraph}
use Rattle.spqr_script.specs.declared.command.Command.TheVariants as command
use Rattle.spqr_session.specs.Setting.{Setting}
use Rattle.spqr_session.specs.Trees.{BlockTree, AreBlockTrees}
use Rattle.spqr_session.specs.Embedded.{BlockView, view_tree, view_entry}
use Rattle.spqr_session.specs.Scene.{setting_on}
use Rattle.spqr_session.specs.Board.{state_on}
use Rattle.spqr_session.specs.BlockCodes.{no_more, ReadStep}
use Rattle.spqr_session.specs.Commands.Euler.{EulerOn}
use Rattle.spqr_session.specs.Commands.Gml.{GmlStep}
use Rattle.spqr_session.specs.Commands.Show.{IsShown}
use Rattle.spqr_session.specs.Commands.Faces.{IsFaced}
use Rattle.spqr_session.specs.Commands.Listing.{IsListing}
use Rattle.spqr_session.specs.Commands.Longest.{IsLongestAnswer}
use Rattle.spqr_session.specs.Commands.Draw.{parallel_codes, IsDrawingAnswer}
use Rattle.spqr_session.specs.Commands.Permute.{PermuteStep}
use Rattle.spqr_session.specs.Commands.Regroup.{RegroupStep}
use Rattle.spqr_session.specs.Commands.Walk.{GotoStep}
use Rattle.spqr_session.specs.Commands.Convert.{ConvertRankStep}
use Rattle.spqr_session.specs.Products.{CountByProduct, RankByProduct, GotoByProduct, ConvertByProduct}
use Rattle.spqr_session.proofs.Steps.{text-map, step-is, step-of}
use Rattle.spqr_session.proofs.CountSteps.{count-is_step, rank-is_step, goto-is_step, convert-is_step}
use Rattle.spqr_session.proofs.carrying.carry_out.Goals as goal

pub returns-in-Euler-clause-step : goal.returns-in-Euler-clause-step
returns-in-Euler-clause-step c =
    let setting = setting_on c.args.scene.now c.args.board.now.views in
    let s = state_on c.args.scene.now c.args.board.now.views c.args.board.now in
    let lists = c.in-Euler.lists in
    step-of setting s s c.args.command.now (command.Euler lists) setting.named.graph c.graph-graph.result.now (λ (g : Multigraph) text. EulerOn g lists s text s) c.carry_euler.result c.in-Euler.is (sym c.graph-graph.ensures.value) (λ text h. h) (c.carry_euler.ensures s)

pub returns-in-Gml-clause-step : goal.returns-in-Gml-clause-step
returns-in-Gml-clause-step c =
    let setting = setting_on c.args.scene.now c.args.board.now.views in
    let s = state_on c.args.scene.now c.args.board.now.views c.args.board.now in
    step-of setting s s c.args.command.now command.Gml setting setting (λ (x : Setting) text. GmlStep x s text s) c.carry_gml.result c.in-Gml.is refl (λ text h. h)
    (c.carry_gml.ensures setting s refl (sym c.graph-graph.ensures.value) (ap (λ (vs : List BlockView). map view_tree vs) (sym c.blocks-in-Gml.ensures)) (ap (λ (vs : List BlockView). map view_entry vs) (sym c.blocks-in-Gml.ensures)))

pub carry_gml-requires : goal.carry_gml-requires
carry_gml-requires c =
    let scene = c.args.scene.now in
    let views = c.args.board.now.views in (
      scene.blocks.blocks,
      subst (λ (g : Multigraph). AreBlockTrees g scene.blocks.blocks (map view_tree c.blocks-in-Gml.result.now)) (sym c.graph-graph.ensures.value)
          (subst (λ (vs : List BlockView). AreBlockTrees scene.named.graph scene.blocks.blocks (map view_tree vs)) (sym c.blocks-in-Gml.ensures) c.requires.setting.trees),
    )

pub returns-in-Show-clause-step : goal.returns-in-Show-clause-step
returns-in-Show-clause-step c =
    let views = c.args.board.now.views in
    let setting = setting_on c.args.scene.now views in
    let s = state_on c.args.scene.now c.args.board.now.views c.args.board.now in
    let seen = c.blocks-in-Show.result.now in
    let b = c.in-Show.b in
    step-of setting s s c.args.command.now (command.Show b) (map view_tree views) (map view_tree seen) (λ (ts : List BlockTree) text. ReadStep no_more (IsShown b) ts b s text s) c.carry_show.result c.in-Show.is
    (ap (λ (vs : List BlockView). map view_tree vs) (sym c.blocks-in-Show.ensures)) (λ text h. h) (c.carry_show.ensures s (ap (λ (vs : List BlockView). map view_entry vs) (sym c.blocks-in-Show.ensures)))

pub returns-in-Faces-clause-step : goal.returns-in-Faces-clause-step
returns-in-Faces-clause-step c =
    let views = c.args.board.now.views in
    let setting = setting_on c.args.scene.now views in
    let s = state_on c.args.scene.now c.args.board.now.views c.args.board.now in
    let seen = c.blocks-in-Faces.result.now in
    let b = c.in-Faces.b in
    step-of setting s s c.args.command.now (command.Faces b) (map view_tree views) (map view_tree seen) (λ (ts : List BlockTree) text. ReadStep no_more (IsFaced b) ts b s text s) c.carry_faces.result c.in-Faces.is
    (ap (λ (vs : List BlockView). map view_tree vs) (sym c.blocks-in-Faces.ensures)) (λ text h. h) (c.carry_faces.ensures s (ap (λ (vs : List BlockView). map view_entry vs) (sym c.blocks-in-Faces.ensures)))

pub returns-in-Count-clause-step : goal.returns-in-Count-clause-step
returns-in-Count-clause-step c =
    let views = c.args.board.now.views in
    let setting = setting_on c.args.scene.now views in
    let s = state_on c.args.scene.now c.args.board.now.views c.args.board.now in
    let seen = c.blocks-in-Count.result.now in
    let b = c.in-Count.b in
    step-of setting s s c.args.command.now (command.Count b) (map view_tree views) (map view_tree seen) (λ (ts : List BlockTree) text. CountByProduct ts b s text s) c.carry_count.result c.in-Count.is
    (ap (λ (vs : List BlockView). map view_tree vs) (sym c.blocks-in-Count.ensures)) (λ text h. count-is_step setting b s c.requires.setting c.requires.state text s h) (c.carry_count.ensures s (ap (λ (vs : List BlockView). map view_entry vs) (sym c.blocks-in-Count.ensures)))

pub returns-in-Rank-clause-step : goal.returns-in-Rank-clause-step
returns-in-Rank-clause-step c =
    let views = c.args.board.now.views in
    let setting = setting_on c.args.scene.now views in
    let s = state_on c.args.scene.now c.args.board.now.views c.args.board.now in
    let seen = c.blocks-in-Rank.result.now in
    let b = c.in-Rank.b in
    step-of setting s s c.args.command.now (command.Rank b) (map view_tree views) (map view_tree seen) (λ (ts : List BlockTree) text. RankByProduct ts b s text s) c.carry_rank.result c.in-Rank.is
    (ap (λ (vs : List BlockView). map view_tree vs) (sym c.blocks-in-Rank.ensures)) (λ text h. rank-is_step setting b s c.requires.setting c.requires.state text s h) (c.carry_rank.ensures s (ap (λ (vs : List BlockView). map view_entry vs) (sym c.blocks-in-Rank.ensures)))

pub returns-in-List-clause-step : goal.returns-in-List-clause-step
returns-in-List-clause-step c =
    let views = c.args.board.now.views in
    let setting = setting_on c.args.scene.now views in
    let s = state_on c.args.scene.now c.args.board.now.views c.args.board.now in
    let seen = c.blocks-in-List.result.now in
    let b = c.in-List.b in
    let n = c.in-List.n in
    step-of setting s s c.args.command.now (command.List b n) (map view_tree views) (map view_tree seen) (λ (ts : List BlockTree) text. ReadStep no_more (IsListing b n) ts b s text s) c.carry_list.result c.in-List.is
    (ap (λ (vs : List BlockView). map view_tree vs) (sym c.blocks-in-List.ensures)) (λ text h. h) (c.carry_list.ensures s (ap (λ (vs : List BlockView). map view_entry vs) (sym c.blocks-in-List.ensures)))

pub returns-in-Flip-clause-step : goal.returns-in-Flip-clause-step
returns-in-Flip-clause-step c =
    let old = c.args.board.now in
    step-is (setting_on c.args.scene.now old.views) (state_on c.args.scene.now old.views old) (state_on c.args.scene.now old.views c.carry_flip.new.board) c.args.command.now (command.Flip c.in-Flip.b c.in-Flip.k) c.carry_flip.result c.in-Flip.is (c.carry_flip.ensures.step c.args.scene.now (record { setting = c.requires.setting; state = c.requires.state }))

pub returns-in-Mirror-clause-step : goal.returns-in-Mirror-clause-step
returns-in-Mirror-clause-step c =
    let old = c.args.board.now in
    step-is (setting_on c.args.scene.now old.views) (state_on c.args.scene.now old.views old) (state_on c.args.scene.now old.views c.carry_mirror.new.board) c.args.command.now (command.Mirror c.in-Mirror.b) c.carry_mirror.result c.in-Mirror.is (c.carry_mirror.ensures.step c.args.scene.now (record { setting = c.requires.setting; state = c.requires.state }))

pub returns-in-First-clause-step : goal.returns-in-First-clause-step
returns-in-First-clause-step c =
    let old = c.args.board.now in
    step-is (setting_on c.args.scene.now old.views) (state_on c.args.scene.now old.views old) (state_on c.args.scene.now old.views c.carry_first.new.board) c.args.command.now (command.First c.in-First.b) c.carry_first.result c.in-First.is (c.carry_first.ensures.step c.args.scene.now (record { setting = c.requires.setting; state = c.requires.state }))

pub returns-in-Next-clause-step : goal.returns-in-Next-clause-step
returns-in-Next-clause-step c =
    let old = c.args.board.now in
    step-is (setting_on c.args.scene.now old.views) (state_on c.args.scene.now old.views old) (state_on c.args.scene.now old.views c.carry_next.new.board) c.args.command.now (command.Next c.in-Next.b) c.carry_next.result c.in-Next.is (c.carry_next.ensures.step c.args.scene.now (record { setting = c.requires.setting; state = c.requires.state }))

pub returns-in-ConvertTo-clause-step : goal.returns-in-ConvertTo-clause-step
returns-in-ConvertTo-clause-step c =
    let old = c.args.board.now in
    step-is (setting_on c.args.scene.now old.views) (state_on c.args.scene.now old.views old) (state_on c.args.scene.now old.views c.carry_convert_to.new.board) c.args.command.now (command.ConvertTo c.in-ConvertTo.b c.in-ConvertTo.lists) c.carry_convert_to.result c.in-ConvertTo.is (c.carry_convert_to.ensures.step c.args.scene.now (record { setting = c.requires.setting; state = c.requires.state }))

pub returns-in-Take-clause-step : goal.returns-in-Take-clause-step
returns-in-Take-clause-step c =
    let old = c.args.board.now in
    step-is (setting_on c.args.scene.now old.views) (state_on c.args.scene.now old.views old) (state_on c.args.scene.now old.views c.carry_take.new.board) c.args.command.now (command.Take c.in-Take.b c.in-Take.lists) c.carry_take.result c.in-Take.is (c.carry_take.ensures.step c.args.scene.now (record { setting = c.requires.setting; state = c.requires.state }))

pub returns-in-Lock-clause-step : goal.returns-in-Lock-clause-step
returns-in-Lock-clause-step c =
    let old = c.args.board.now in
    step-is (setting_on c.args.scene.now old.views) (state_on c.args.scene.now old.views old) (state_on c.args.scene.now old.views c.carry_lock.new.board) c.args.command.now (command.Lock c.in-Lock.b c.in-Lock.k) c.carry_lock.result c.in-Lock.is (c.carry_lock.ensures.step c.args.scene.now (record { setting = c.requires.setting; state = c.requires.state }))

pub returns-in-Unlock-clause-step : goal.returns-in-Unlock-clause-step
returns-in-Unlock-clause-step c =
    let old = c.args.board.now in
    step-is (setting_on c.args.scene.now old.views) (state_on c.args.scene.now old.views old) (state_on c.args.scene.now old.views c.carry_lock-in-Unlock.new.board) c.args.command.now (command.Unlock c.in-Unlock.b c.in-Unlock.k) c.carry_lock-in-Unlock.result c.in-Unlock.is (c.carry_lock-in-Unlock.ensures.step c.args.scene.now (record { setting = c.requires.setting; state = c.requires.state }))

pub returns-in-Permute-clause-step : goal.returns-in-Permute-clause-step
returns-in-Permute-clause-step c =
    let old = c.args.board.now in
    let setting = setting_on c.args.scene.now old.views in
    let s = state_on c.args.scene.now old.views old in
    let new = state_on c.args.scene.now old.views c.carry_permute.new.board in
    let b = c.in-Permute.b in
    let k = c.in-Permute.k in
    let keys = c.in-Permute.keys in
    step-is setting s new c.args.command.now (command.Permute b k keys) c.carry_permute.result c.in-Permute.is
    (subst (λ (ks : List ℕ). IfOk c.carry_permute.result (λ text. PermuteStep setting b k ks s text.items new)) c.as_slice.ensures (c.carry_permute.ensures.step c.args.scene.now (record { setting = c.requires.setting; state = c.requires.state })))

pub returns-in-Goto-clause-step : goal.returns-in-Goto-clause-step
returns-in-Goto-clause-step c =
    let old = c.args.board.now in
    let setting = setting_on c.args.scene.now old.views in
    let s = state_on c.args.scene.now old.views old in
    let new = state_on c.args.scene.now old.views c.carry_goto.new.board in
    let b = c.in-Goto.b in
    let r = c.in-Goto.r in
    step-is setting s new c.args.command.now (command.Goto b r) c.carry_goto.result c.in-Goto.is
    (text-map c.carry_goto.result (λ text. GotoByProduct setting b r s text new) (λ text. GotoStep setting b r s text new) (λ text h. goto-is_step setting b s c.requires.setting c.requires.state r text new h) (c.carry_goto.ensures.step c.args.scene.now (record { setting = c.requires.setting; state = c.requires.state })))

pub returns-in-ConvertRank-clause-step : goal.returns-in-ConvertRank-clause-step
returns-in-ConvertRank-clause-step c =
    let old = c.args.board.now in
    let setting = setting_on c.args.scene.now old.views in
    let s = state_on c.args.scene.now old.views old in
    let new = state_on c.args.scene.now old.views c.carry_convert_rank.new.board in
    let b = c.in-ConvertRank.b in
    let r = c.in-ConvertRank.r in
    step-is setting s new c.args.command.now (command.ConvertRank b r) c.carry_convert_rank.result c.in-ConvertRank.is
    (text-map c.carry_convert_rank.result (λ text. ConvertByProduct setting b r s text new) (λ text. ConvertRankStep setting b r s text new) (λ text h. convert-is_step setting b s c.requires.setting c.requires.state r text new h) (c.carry_convert_rank.ensures.step c.args.scene.now (record { setting = c.requires.setting; state = c.requires.state })))

pub returns-in-Longest-clause-step : goal.returns-in-Longest-clause-step
returns-in-Longest-clause-step c =
    let views = c.args.board.now.views in
    let setting = setting_on c.args.scene.now views in
    let s = state_on c.args.scene.now c.args.board.now.views c.args.board.now in
    let seen = c.blocks-in-Longest.result.now in
    let b = c.in-Longest.b in
    step-of setting s s c.args.command.now (command.Longest b) (map view_tree views) (map view_tree seen) (λ (ts : List BlockTree) text. ReadStep no_more IsLongestAnswer ts b s text s) c.carry_longest.result c.in-Longest.is
    (ap (λ (vs : List BlockView). map view_tree vs) (sym c.blocks-in-Longest.ensures)) (λ text h. h) (c.carry_longest.ensures s (ap (λ (vs : List BlockView). map view_entry vs) (sym c.blocks-in-Longest.ensures)))

pub returns-in-Draw-clause-step : goal.returns-in-Draw-clause-step
returns-in-Draw-clause-step c =
    let views = c.args.board.now.views in
    let setting = setting_on c.args.scene.now views in
    let s = state_on c.args.scene.now c.args.board.now.views c.args.board.now in
    let seen = c.blocks-in-Draw.result.now in
    let b = c.in-Draw.b in
    step-of setting s s c.args.command.now (command.Draw b) (map view_tree views) (map view_tree seen) (λ (ts : List BlockTree) text. ReadStep parallel_codes (IsDrawingAnswer b) ts b s text s) c.carry_draw.result c.in-Draw.is
    (ap (λ (vs : List BlockView). map view_tree vs) (sym c.blocks-in-Draw.ensures)) (λ text h. h) (c.carry_draw.ensures s (ap (λ (vs : List BlockView). map view_entry vs) (sym c.blocks-in-Draw.ensures)))

pub returns-in-Undo-clause-step : goal.returns-in-Undo-clause-step
returns-in-Undo-clause-step c =
    let old = c.args.board.now in
    step-is (setting_on c.args.scene.now old.views) (state_on c.args.scene.now old.views old) (state_on c.args.scene.now old.views c.carry_undo.new.board) c.args.command.now command.Undo c.carry_undo.result c.in-Undo.is (c.carry_undo.ensures.step c.args.scene.now)

pub returns-in-Redo-clause-step : goal.returns-in-Redo-clause-step
returns-in-Redo-clause-step c =
    let old = c.args.board.now in
    step-is (setting_on c.args.scene.now old.views) (state_on c.args.scene.now old.views old) (state_on c.args.scene.now old.views c.carry_redo.new.board) c.args.command.now command.Redo c.carry_redo.result c.in-Redo.is (c.carry_redo.ensures.step c.args.scene.now)

pub carry_whole-requires : goal.carry_whole-requires
carry_whole-requires c = record { setting = c.requires.setting; state = c.requires.state }

pub returns-in-Whole-clause-step : goal.returns-in-Whole-clause-step
returns-in-Whole-clause-step c =
    let old = c.args.board.now in
    let s = state_on c.args.scene.now old.views old in
    step-is (setting_on c.args.scene.now old.views) s s c.args.command.now (command.Whole c.in-Whole.c) c.carry_whole.result c.in-Whole.is c.carry_whole.ensures

pub carry_regroup-requires : goal.carry_regroup-requires
carry_regroup-requires c = record { setting = c.requires.setting; state = c.requires.state }

pub returns-in-Regroup-clause-step : goal.returns-in-Regroup-clause-step
returns-in-Regroup-clause-step c =
    let old = c.args.board.now in
    let edges : c.as_slice-in-Regroup.result.now ≡ c.in-Regroup.edges = c.as_slice-in-Regroup.ensures in
    step-is (setting_on c.args.scene.now old.views) (state_on c.args.scene.now old.views old) (state_on c.args.scene.now old.views c.carry_regroup.new.board) c.args.command.now (command.Regroup c.in-Regroup.v c.in-Regroup.edges) c.carry_regroup.result c.in-Regroup.is
    (subst (λ (l : List ℕ). IfOk c.carry_regroup.result (λ text. RegroupStep (setting_on c.args.scene.now old.views) c.in-Regroup.v l (state_on c.args.scene.now old.views old) text.items (state_on c.args.scene.now old.views c.carry_regroup.new.board))) edges c.carry_regroup.ensures.step)
