use Rattle.std.proofs.Common.{◌≡◌, ℕ, ◌+◌, List, drop, length, take_at, refl, sym, ◌∙◌, subst}
use Rattle.skeletons.specs.Lists.{IsRank}
use Rattle.spqr_script.specs.Answers.Change.{end_text}
use Rattle.whole_embed.specs.declared.members.Member.{Member}
use Rattle.whole_embed.specs.Component.{IsComponentInPlane}
use Rattle.whole_embed.specs.Cuts.{member_at, blocks_in, HavePlanes}
use Rattle.whole_embed.specs.Whole.{IsWholeList}
use Rattle.spqr_session.specs.Kept.{family_of}
use Rattle.spqr_session.specs.Scene.{setting_on}
use Rattle.spqr_session.specs.Embedded.{view_at}
use Rattle.spqr_session.specs.Board.{state_on, kept_now}
use Rattle.spqr_session.specs.Wholes.{IsPresentComponent}
use Rattle.spqr_session.specs.Commands.NextWhole.{NextWholeDoes}
use Rattle.spqr_session.specs.WholeSteps.{AreTogether, FitsMember, GoesToWhole, system_now}
use Rattle.spqr_session.proofs.Steps.{text-map}
use Rattle.spqr_session.proofs.WholesWalked.{IsPresent, walk-ends, walk-target, walk-on}
use Rattle.spqr_session.proofs.WholesPresent.{present-of}
use Rattle.spqr_session.proofs.WholesPut.{put-fits, put-part, put-right, put-vertices, put-state}
use Rattle.spqr_session.proofs.commands.next_whole.go_on.Goals as goal

pub next_whole-requires-clause-component : goal.next_whole-requires-clause-component
next_whole-requires-clause-component c =
    let setting = setting_on c.args.scene.now c.args.board.now.views in
    let board = c.args.board.now in
    let family = family_of setting (kept_now board) in
    let cuts = c.in_ok-cuts.cuts in
    let old = c.deref_mut.result.now in
    let p : IsPresentComponent setting (kept_now board) c.args.c cuts c.in_ok-cuts.all.items = c.in_ok-cuts.ensures {u = tt} in
    let value : c.deref_mut.result.now ≡ c.in_ok-cuts.all.items = c.deref_mut.ensures.value in
    let at : IsPresent setting c.args.c family cuts old = present-of setting (kept_now board) c.args.c cuts c.in_ok-cuts.all.items old p value in
    at.together.in_plane

pub next_whole-requires-clause-planes : goal.next_whole-requires-clause-planes
next_whole-requires-clause-planes c =
    let setting = setting_on c.args.scene.now c.args.board.now.views in
    let board = c.args.board.now in
    let family = family_of setting (kept_now board) in
    let cuts = c.in_ok-cuts.cuts in
    let old = c.deref_mut.result.now in
    let p : IsPresentComponent setting (kept_now board) c.args.c cuts c.in_ok-cuts.all.items = c.in_ok-cuts.ensures {u = tt} in
    let value : c.deref_mut.result.now ≡ c.in_ok-cuts.all.items = c.deref_mut.ensures.value in
    let at : IsPresent setting c.args.c family cuts old = present-of setting (kept_now board) c.args.c cuts c.in_ok-cuts.all.items old p value in
    at.together.planes

pub next_whole-requires-clause-arranged : goal.next_whole-requires-clause-arranged
next_whole-requires-clause-arranged c =
    let setting = setting_on c.args.scene.now c.args.board.now.views in
    let board = c.args.board.now in
    let family = family_of setting (kept_now board) in
    let cuts = c.in_ok-cuts.cuts in
    let old = c.deref_mut.result.now in
    let p : IsPresentComponent setting (kept_now board) c.args.c cuts c.in_ok-cuts.all.items = c.in_ok-cuts.ensures {u = tt} in
    let value : c.deref_mut.result.now ≡ c.in_ok-cuts.all.items = c.deref_mut.ensures.value in
    let at : IsPresent setting c.args.c family cuts old = present-of setting (kept_now board) c.args.c cuts c.in_ok-cuts.all.items old p value in
    at.together.arranged

pub put_whole-requires-clause-component : goal.put_whole-requires-clause-component
put_whole-requires-clause-component c =
    let setting = setting_on c.args.scene.now c.args.board.now.views in
    let board = c.args.board.now in
    let family = family_of setting (kept_now board) in
    let cuts = c.in_ok-cuts.cuts in
    let old = c.deref_mut.result.now in
    let new = c.next_whole.new.all in
    let p : IsPresentComponent setting (kept_now board) c.args.c cuts c.in_ok-cuts.all.items = c.in_ok-cuts.ensures {u = tt} in
    let value : c.deref_mut.result.now ≡ c.in_ok-cuts.all.items = c.deref_mut.ensures.value in
    let at : IsPresent setting c.args.c family cuts old = present-of setting (kept_now board) c.args.c cuts c.in_ok-cuts.all.items old p value in
    let right : AreTogether c.next_whole.new.cuts new = record { in_plane = c.next_whole.ensures.component; planes = c.next_whole.ensures.planes; arranged = c.next_whole.ensures.arranged } in
    let next : (l : List (List (List ℕ))) (i : ℕ) → IsWholeList cuts.component (blocks_in old) l → IsRank l (system_now cuts old) i → IsRank l (system_now c.next_whole.new.cuts new) (i + 1) = λ l i a r. c.next_whole.ensures.next l i a r c.if-not-next_whole.false in
    let target = walk-target setting c.args.c family cuts old at c.next_whole.new.cuts new c.next_whole.ensures.same right c.next_whole.ensures.rest next in
    let now : c.deref.result.now ≡ new = c.deref.ensures.value ∙ take_at new (drop (length new) c.in_ok-cuts.all.items) c.in_ok-cuts.all.len (c.next_whole.ensures.rest.count ∙ c.deref_mut.ensures.len) in
    subst (λ (z : List Member). IsComponentInPlane c.next_whole.new.cuts.component (blocks_in z)) (sym now) right.in_plane

pub put_whole-requires-clause-planes : goal.put_whole-requires-clause-planes
put_whole-requires-clause-planes c =
    let setting = setting_on c.args.scene.now c.args.board.now.views in
    let board = c.args.board.now in
    let family = family_of setting (kept_now board) in
    let cuts = c.in_ok-cuts.cuts in
    let old = c.deref_mut.result.now in
    let new = c.next_whole.new.all in
    let p : IsPresentComponent setting (kept_now board) c.args.c cuts c.in_ok-cuts.all.items = c.in_ok-cuts.ensures {u = tt} in
    let value : c.deref_mut.result.now ≡ c.in_ok-cuts.all.items = c.deref_mut.ensures.value in
    let at : IsPresent setting c.args.c family cuts old = present-of setting (kept_now board) c.args.c cuts c.in_ok-cuts.all.items old p value in
    let right : AreTogether c.next_whole.new.cuts new = record { in_plane = c.next_whole.ensures.component; planes = c.next_whole.ensures.planes; arranged = c.next_whole.ensures.arranged } in
    let next : (l : List (List (List ℕ))) (i : ℕ) → IsWholeList cuts.component (blocks_in old) l → IsRank l (system_now cuts old) i → IsRank l (system_now c.next_whole.new.cuts new) (i + 1) = λ l i a r. c.next_whole.ensures.next l i a r c.if-not-next_whole.false in
    let target = walk-target setting c.args.c family cuts old at c.next_whole.new.cuts new c.next_whole.ensures.same right c.next_whole.ensures.rest next in
    let now : c.deref.result.now ≡ new = c.deref.ensures.value ∙ take_at new (drop (length new) c.in_ok-cuts.all.items) c.in_ok-cuts.all.len (c.next_whole.ensures.rest.count ∙ c.deref_mut.ensures.len) in
    subst (λ (z : List Member). HavePlanes c.next_whole.new.cuts.component z) (sym now) right.planes

pub put_whole-requires-clause-fits : goal.put_whole-requires-clause-fits
put_whole-requires-clause-fits c b m =
    let setting = setting_on c.args.scene.now c.args.board.now.views in
    let board = c.args.board.now in
    let family = family_of setting (kept_now board) in
    let cuts = c.in_ok-cuts.cuts in
    let old = c.deref_mut.result.now in
    let new = c.next_whole.new.all in
    let p : IsPresentComponent setting (kept_now board) c.args.c cuts c.in_ok-cuts.all.items = c.in_ok-cuts.ensures {u = tt} in
    let value : c.deref_mut.result.now ≡ c.in_ok-cuts.all.items = c.deref_mut.ensures.value in
    let at : IsPresent setting c.args.c family cuts old = present-of setting (kept_now board) c.args.c cuts c.in_ok-cuts.all.items old p value in
    let right : AreTogether c.next_whole.new.cuts new = record { in_plane = c.next_whole.ensures.component; planes = c.next_whole.ensures.planes; arranged = c.next_whole.ensures.arranged } in
    let next : (l : List (List (List ℕ))) (i : ℕ) → IsWholeList cuts.component (blocks_in old) l → IsRank l (system_now cuts old) i → IsRank l (system_now c.next_whole.new.cuts new) (i + 1) = λ l i a r. c.next_whole.ensures.next l i a r c.if-not-next_whole.false in
    let target = walk-target setting c.args.c family cuts old at c.next_whole.new.cuts new c.next_whole.ensures.same right c.next_whole.ensures.rest next in
    let now : c.deref.result.now ≡ new = c.deref.ensures.value ∙ take_at new (drop (length new) c.in_ok-cuts.all.items) c.in_ok-cuts.all.len (c.next_whole.ensures.rest.count ∙ c.deref_mut.ensures.len) in
    subst (λ (z : List Member). FitsMember board.views z b) (sym now) (put-fits setting c.requires.together.setting board c.requires.together.state.present refl c.keeps_places.ensures c.args.c c.requires.component c.requires.planar (system_now c.next_whole.new.cuts new) c.next_whole.new.cuts new target b m)

pub put_whole-requires-clause-right : goal.put_whole-requires-clause-right
put_whole-requires-clause-right c b m =
    let setting = setting_on c.args.scene.now c.args.board.now.views in
    let board = c.args.board.now in
    let family = family_of setting (kept_now board) in
    let cuts = c.in_ok-cuts.cuts in
    let old = c.deref_mut.result.now in
    let new = c.next_whole.new.all in
    let p : IsPresentComponent setting (kept_now board) c.args.c cuts c.in_ok-cuts.all.items = c.in_ok-cuts.ensures {u = tt} in
    let value : c.deref_mut.result.now ≡ c.in_ok-cuts.all.items = c.deref_mut.ensures.value in
    let at : IsPresent setting c.args.c family cuts old = present-of setting (kept_now board) c.args.c cuts c.in_ok-cuts.all.items old p value in
    let right : AreTogether c.next_whole.new.cuts new = record { in_plane = c.next_whole.ensures.component; planes = c.next_whole.ensures.planes; arranged = c.next_whole.ensures.arranged } in
    let next : (l : List (List (List ℕ))) (i : ℕ) → IsWholeList cuts.component (blocks_in old) l → IsRank l (system_now cuts old) i → IsRank l (system_now c.next_whole.new.cuts new) (i + 1) = λ l i a r. c.next_whole.ensures.next l i a r c.if-not-next_whole.false in
    let target = walk-target setting c.args.c family cuts old at c.next_whole.new.cuts new c.next_whole.ensures.same right c.next_whole.ensures.rest next in
    let now : c.deref.result.now ≡ new = c.deref.ensures.value ∙ take_at new (drop (length new) c.in_ok-cuts.all.items) c.in_ok-cuts.all.len (c.next_whole.ensures.rest.count ∙ c.deref_mut.ensures.len) in
    put-right setting c.requires.together.setting board c.requires.together.state.present refl c.keeps_places.ensures c.args.c c.requires.component c.requires.planar (system_now c.next_whole.new.cuts new) c.next_whole.new.cuts new target b m

pub put_whole-requires-clause-parts : goal.put_whole-requires-clause-parts
put_whole-requires-clause-parts c b m =
    let setting = setting_on c.args.scene.now c.args.board.now.views in
    let board = c.args.board.now in
    let family = family_of setting (kept_now board) in
    let cuts = c.in_ok-cuts.cuts in
    let old = c.deref_mut.result.now in
    let new = c.next_whole.new.all in
    let p : IsPresentComponent setting (kept_now board) c.args.c cuts c.in_ok-cuts.all.items = c.in_ok-cuts.ensures {u = tt} in
    let value : c.deref_mut.result.now ≡ c.in_ok-cuts.all.items = c.deref_mut.ensures.value in
    let at : IsPresent setting c.args.c family cuts old = present-of setting (kept_now board) c.args.c cuts c.in_ok-cuts.all.items old p value in
    let right : AreTogether c.next_whole.new.cuts new = record { in_plane = c.next_whole.ensures.component; planes = c.next_whole.ensures.planes; arranged = c.next_whole.ensures.arranged } in
    let next : (l : List (List (List ℕ))) (i : ℕ) → IsWholeList cuts.component (blocks_in old) l → IsRank l (system_now cuts old) i → IsRank l (system_now c.next_whole.new.cuts new) (i + 1) = λ l i a r. c.next_whole.ensures.next l i a r c.if-not-next_whole.false in
    let target = walk-target setting c.args.c family cuts old at c.next_whole.new.cuts new c.next_whole.ensures.same right c.next_whole.ensures.rest next in
    let now : c.deref.result.now ≡ new = c.deref.ensures.value ∙ take_at new (drop (length new) c.in_ok-cuts.all.items) c.in_ok-cuts.all.len (c.next_whole.ensures.rest.count ∙ c.deref_mut.ensures.len) in
    subst (λ (z : List Member). (member_at z b).part.graph ≡ (view_at board.views b).tree.part.graph) (sym now) (put-part setting c.requires.together.setting board c.requires.together.state.present refl c.keeps_places.ensures c.args.c c.requires.component c.requires.planar (system_now c.next_whole.new.cuts new) c.next_whole.new.cuts new target b m)

pub put_whole-requires-clause-vertices : goal.put_whole-requires-clause-vertices
put_whole-requires-clause-vertices c i l =
    let setting = setting_on c.args.scene.now c.args.board.now.views in
    let board = c.args.board.now in
    let family = family_of setting (kept_now board) in
    let cuts = c.in_ok-cuts.cuts in
    let old = c.deref_mut.result.now in
    let new = c.next_whole.new.all in
    let p : IsPresentComponent setting (kept_now board) c.args.c cuts c.in_ok-cuts.all.items = c.in_ok-cuts.ensures {u = tt} in
    let value : c.deref_mut.result.now ≡ c.in_ok-cuts.all.items = c.deref_mut.ensures.value in
    let at : IsPresent setting c.args.c family cuts old = present-of setting (kept_now board) c.args.c cuts c.in_ok-cuts.all.items old p value in
    let right : AreTogether c.next_whole.new.cuts new = record { in_plane = c.next_whole.ensures.component; planes = c.next_whole.ensures.planes; arranged = c.next_whole.ensures.arranged } in
    let next : (l : List (List (List ℕ))) (i : ℕ) → IsWholeList cuts.component (blocks_in old) l → IsRank l (system_now cuts old) i → IsRank l (system_now c.next_whole.new.cuts new) (i + 1) = λ l i a r. c.next_whole.ensures.next l i a r c.if-not-next_whole.false in
    let target = walk-target setting c.args.c family cuts old at c.next_whole.new.cuts new c.next_whole.ensures.same right c.next_whole.ensures.rest next in
    let now : c.deref.result.now ≡ new = c.deref.ensures.value ∙ take_at new (drop (length new) c.in_ok-cuts.all.items) c.in_ok-cuts.all.len (c.next_whole.ensures.rest.count ∙ c.deref_mut.ensures.len) in
    put-vertices setting c.requires.together.setting board c.requires.together.state.present refl c.keeps_places.ensures c.args.c c.requires.component c.requires.planar (system_now c.next_whole.new.cuts new) c.next_whole.new.cuts new target i l

pub returns-clause-step : goal.returns-clause-step
returns-clause-step c =
    let setting = setting_on c.args.scene.now c.args.board.now.views in
    let board = c.args.board.now in
    let family = family_of setting (kept_now board) in
    let cuts = c.in_ok-cuts.cuts in
    let old = c.deref_mut.result.now in
    let new = c.next_whole.new.all in
    let p : IsPresentComponent setting (kept_now board) c.args.c cuts c.in_ok-cuts.all.items = c.in_ok-cuts.ensures {u = tt} in
    let value : c.deref_mut.result.now ≡ c.in_ok-cuts.all.items = c.deref_mut.ensures.value in
    let at : IsPresent setting c.args.c family cuts old = present-of setting (kept_now board) c.args.c cuts c.in_ok-cuts.all.items old p value in
    let right : AreTogether c.next_whole.new.cuts new = record { in_plane = c.next_whole.ensures.component; planes = c.next_whole.ensures.planes; arranged = c.next_whole.ensures.arranged } in
    let next : (l : List (List (List ℕ))) (i : ℕ) → IsWholeList cuts.component (blocks_in old) l → IsRank l (system_now cuts old) i → IsRank l (system_now c.next_whole.new.cuts new) (i + 1) = λ l i a r. c.next_whole.ensures.next l i a r c.if-not-next_whole.false in
    let target = walk-target setting c.args.c family cuts old at c.next_whole.new.cuts new c.next_whole.ensures.same right c.next_whole.ensures.rest next in
    let now : c.deref.result.now ≡ new = c.deref.ensures.value ∙ take_at new (drop (length new) c.in_ok-cuts.all.items) c.in_ok-cuts.all.len (c.next_whole.ensures.rest.count ∙ c.deref_mut.ensures.len) in
    let gone : GoesToWhole board c.next_whole.new.cuts new c.put_whole.new.board = subst (λ (z : List Member). GoesToWhole board c.next_whole.new.cuts z c.put_whole.new.board) now (c.in_ok-put_whole.ensures {u = tt}).done in
    walk-on setting c.args.c family cuts old at c.next_whole.new.cuts new c.next_whole.ensures.same right c.next_whole.ensures.rest next (state_on c.args.scene.now board.views board) (state_on c.args.scene.now board.views c.put_whole.new.board) c.in_ok-text.text.items refl (c.in_ok-text.ensures {u = tt})
    (put-state setting c.requires.together.setting board c.requires.together.state.present refl c.keeps_places.ensures c.args.c c.requires.component c.requires.planar (system_now c.next_whole.new.cuts new) c.next_whole.new.cuts new target c.put_whole.new.board gone)

pub returns-then-not-next_whole-clause-step : goal.returns-then-not-next_whole-clause-step
returns-then-not-next_whole-clause-step c =
    let setting = setting_on c.args.scene.now c.args.board.now.views in
    let board = c.args.board.now in
    let family = family_of setting (kept_now board) in
    let cuts = c.in_ok-cuts.cuts in
    let old = c.deref_mut.result.now in
    let p : IsPresentComponent setting (kept_now board) c.args.c cuts c.in_ok-cuts.all.items = c.in_ok-cuts.ensures {u = tt} in
    let value : c.deref_mut.result.now ≡ c.in_ok-cuts.all.items = c.deref_mut.ensures.value in
    let at : IsPresent setting c.args.c family cuts old = present-of setting (kept_now board) c.args.c cuts c.in_ok-cuts.all.items old p value in
    let s = state_on c.args.scene.now board.views board in
    text-map c.end_line.result (λ t. t ≡ end_text) (λ t. NextWholeDoes setting c.args.c s t s) (λ t e. walk-ends setting c.args.c family cuts old at s refl (λ l i a r. c.next_whole.ensures.last l i a r c.if-not-next_whole.true) t e) c.end_line.ensures

pub returns-clause-setting : goal.returns-clause-setting
returns-clause-setting c =
    let gone = (c.in_ok-put_whole.ensures {u = tt}).done in gone.goes.carried
