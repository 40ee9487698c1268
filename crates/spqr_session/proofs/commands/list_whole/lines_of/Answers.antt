use Rattle.std.proofs.Common.{◌≡◌, ℕ, ◌+◌, List, drop}
use Rattle.spqr_session.specs.Kept.{family_of}
use Rattle.spqr_session.specs.Scene.{setting_on}
use Rattle.spqr_session.specs.Board.{kept_now}
use Rattle.spqr_session.specs.Wholes.{IsPresentComponent}
use Rattle.spqr_session.specs.Commands.ListWhole.{whole_members_text}
use Rattle.spqr_session.specs.WholeSteps.{IsListNow, IsListTold}
use Rattle.spqr_session.proofs.Steps.{text-map}
use Rattle.spqr_session.proofs.WholesWalked.{IsPresent}
use Rattle.spqr_session.proofs.WholesPresent.{present-of}
use Rattle.spqr_session.proofs.WholesListed.{list-told}
use Rattle.spqr_session.proofs.commands.list_whole.lines_of.Goals as goal

pub list_from-requires : goal.list_from-requires
list_from-requires c =
    let setting = setting_on c.args.scene.now c.args.board.now.views in
    let board = c.args.board.now in
    let family = family_of setting (kept_now board) in
    let cuts = c.in_ok-cuts.cuts in
    let old = c.deref_mut.result.now in
    let p : IsPresentComponent setting (kept_now board) c.args.c cuts c.in_ok-cuts.all.items = c.in_ok-cuts.ensures {u = tt} in
    let at : IsPresent setting c.args.c family cuts old = present-of setting (kept_now board) c.args.c cuts c.in_ok-cuts.all.items old p c.deref_mut.ensures.value in
    at.together

pub returns : goal.returns
returns c =
    let setting = setting_on c.args.scene.now c.args.board.now.views in
    let board = c.args.board.now in
    let family = family_of setting (kept_now board) in
    let cuts = c.in_ok-cuts.cuts in
    let old = c.deref_mut.result.now in
    let p : IsPresentComponent setting (kept_now board) c.args.c cuts c.in_ok-cuts.all.items = c.in_ok-cuts.ensures {u = tt} in
    let at : IsPresent setting c.args.c family cuts old = present-of setting (kept_now board) c.args.c cuts c.in_ok-cuts.all.items old p c.deref_mut.ensures.value in
    text-map c.list_from.result (λ t. (l : List (List (List ℕ))) (i : ℕ) → IsListNow cuts old l i → t ≡ whole_members_text c.args.c c.args.n cuts.component (drop (i + 1) l)) (IsListTold setting c.args.c c.args.n family)
    (λ t h. list-told setting c.args.c c.args.n family cuts old at t h) c.list_from.ensures
