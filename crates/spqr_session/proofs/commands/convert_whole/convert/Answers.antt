use Rattle.std.proofs.Common.{◌≡◌, List, All, refl, sym, ap₂, ◌∙◌, subst}
use Rattle.whole_embed.specs.declared.members.Member.{Member}
use Rattle.whole_embed.specs.Cuts.{member_at}
use Rattle.whole_convert.specs.Between.{as_steps}
use Rattle.spqr_session.specs.Embedded.{BlockView, view_at}
use Rattle.spqr_session.specs.Scene.{setting_on}
use Rattle.spqr_session.specs.Board.{state_on, kept_now}
use Rattle.spqr_session.specs.Codes.{code_text}
use Rattle.spqr_session.specs.Commands.ConvertWhole.{ConvertWholeStep}
use Rattle.spqr_session.specs.WholeSteps.{IsStepIn, lines_in, FitsMember, GoesToWhole}
use Rattle.spqr_session.proofs.Steps.{text-map}
use Rattle.spqr_session.proofs.WholeWalks.{IsThere}
use Rattle.spqr_session.proofs.WholesWalked.{IsPresent}
use Rattle.spqr_session.proofs.WholesPresent.{present-of}
use Rattle.spqr_session.proofs.WholesPut.{put-fits, put-part, put-right, put-vertices, put-state}
use Rattle.spqr_session.proofs.WholesConverted.{convert-refused, led-system, led-target, led-steps, convert-made}
use Rattle.spqr_session.proofs.commands.convert_whole.convert.Goals as goal

pub steps_lines-requires : goal.steps_lines-requires
steps_lines-requires c =
    let board = c.args.board.now in
    let setting = setting_on c.args.scene.now board.views in
    let s = state_on c.args.scene.now board.views board in
    let entries = c.args.lists.now in
    let cuts = c.in_ok-cuts.cuts in
    let old = c.deref.result.now in
    let there : IsThere setting c.args.c = record { within = c.requires.component; planar = c.requires.planar } in
    let at : IsPresent setting c.args.c s.present cuts old = present-of setting (kept_now board) c.args.c cuts c.in_ok-cuts.all.items old (c.in_ok-cuts.ensures {u = tt}) c.deref.ensures.value in
    let steps = as_steps c.in-Ok.led.moves.items in
    let new = c.in-Ok.led.all.items in
    let new_cuts = c.in-Ok.led.cuts in
    let led = (c.in-Ok.ensures {u = tt}).led in
    subst (λ (views : List BlockView). All (IsStepIn views) c.deref-in-Ok.result.now) (sym c.blocks-in-Ok.ensures) (subst (All (IsStepIn board.views)) (sym c.deref-in-Ok.ensures.value)
    (led-steps setting c.args.c entries s c.requires.together.setting there c.requires.together.state cuts old at steps new new_cuts led board.views c.in-Ok.led.moves.items refl refl))

pub put_whole-requires-clause-fits : goal.put_whole-requires-clause-fits
put_whole-requires-clause-fits c b m =
    let board = c.args.board.now in
    let setting = setting_on c.args.scene.now board.views in
    let s = state_on c.args.scene.now board.views board in
    let entries = c.args.lists.now in
    let cuts = c.in_ok-cuts.cuts in
    let old = c.deref.result.now in
    let there : IsThere setting c.args.c = record { within = c.requires.component; planar = c.requires.planar } in
    let at : IsPresent setting c.args.c s.present cuts old = present-of setting (kept_now board) c.args.c cuts c.in_ok-cuts.all.items old (c.in_ok-cuts.ensures {u = tt}) c.deref.ensures.value in
    let steps = as_steps c.in-Ok.led.moves.items in
    let new = c.in-Ok.led.all.items in
    let new_cuts = c.in-Ok.led.cuts in
    let led = (c.in-Ok.ensures {u = tt}).led in
    let q = led-system setting c.args.c entries s c.requires.together.setting there c.requires.together.state cuts old at steps new new_cuts led in
    let target = led-target setting c.args.c entries s c.requires.together.setting there c.requires.together.state cuts old at steps new new_cuts led in
    subst (λ (z : List Member). FitsMember board.views z b) (sym c.deref-in-Ok-2.ensures.value) (put-fits setting c.requires.together.setting board c.requires.together.state.present refl c.keeps_places.ensures c.args.c c.requires.component c.requires.planar q new_cuts new target b m)

pub put_whole-requires-clause-right : goal.put_whole-requires-clause-right
put_whole-requires-clause-right c b m =
    let board = c.args.board.now in
    let setting = setting_on c.args.scene.now board.views in
    let s = state_on c.args.scene.now board.views board in
    let entries = c.args.lists.now in
    let cuts = c.in_ok-cuts.cuts in
    let old = c.deref.result.now in
    let there : IsThere setting c.args.c = record { within = c.requires.component; planar = c.requires.planar } in
    let at : IsPresent setting c.args.c s.present cuts old = present-of setting (kept_now board) c.args.c cuts c.in_ok-cuts.all.items old (c.in_ok-cuts.ensures {u = tt}) c.deref.ensures.value in
    let steps = as_steps c.in-Ok.led.moves.items in
    let new = c.in-Ok.led.all.items in
    let new_cuts = c.in-Ok.led.cuts in
    let led = (c.in-Ok.ensures {u = tt}).led in
    let q = led-system setting c.args.c entries s c.requires.together.setting there c.requires.together.state cuts old at steps new new_cuts led in
    let target = led-target setting c.args.c entries s c.requires.together.setting there c.requires.together.state cuts old at steps new new_cuts led in
    put-right setting c.requires.together.setting board c.requires.together.state.present refl c.keeps_places.ensures c.args.c c.requires.component c.requires.planar q new_cuts new target b m

pub put_whole-requires-clause-parts : goal.put_whole-requires-clause-parts
put_whole-requires-clause-parts c b m =
    let board = c.args.board.now in
    let setting = setting_on c.args.scene.now board.views in
    let s = state_on c.args.scene.now board.views board in
    let entries = c.args.lists.now in
    let cuts = c.in_ok-cuts.cuts in
    let old = c.deref.result.now in
    let there : IsThere setting c.args.c = record { within = c.requires.component; planar = c.requires.planar } in
    let at : IsPresent setting c.args.c s.present cuts old = present-of setting (kept_now board) c.args.c cuts c.in_ok-cuts.all.items old (c.in_ok-cuts.ensures {u = tt}) c.deref.ensures.value in
    let steps = as_steps c.in-Ok.led.moves.items in
    let new = c.in-Ok.led.all.items in
    let new_cuts = c.in-Ok.led.cuts in
    let led = (c.in-Ok.ensures {u = tt}).led in
    let q = led-system setting c.args.c entries s c.requires.together.setting there c.requires.together.state cuts old at steps new new_cuts led in
    let target = led-target setting c.args.c entries s c.requires.together.setting there c.requires.together.state cuts old at steps new new_cuts led in
    subst (λ (z : List Member). (member_at z b).part.graph ≡ (view_at board.views b).tree.part.graph) (sym c.deref-in-Ok-2.ensures.value) (put-part setting c.requires.together.setting board c.requires.together.state.present refl c.keeps_places.ensures c.args.c c.requires.component c.requires.planar q new_cuts new target b m)

pub put_whole-requires-clause-vertices : goal.put_whole-requires-clause-vertices
put_whole-requires-clause-vertices c i l =
    let board = c.args.board.now in
    let setting = setting_on c.args.scene.now board.views in
    let s = state_on c.args.scene.now board.views board in
    let entries = c.args.lists.now in
    let cuts = c.in_ok-cuts.cuts in
    let old = c.deref.result.now in
    let there : IsThere setting c.args.c = record { within = c.requires.component; planar = c.requires.planar } in
    let at : IsPresent setting c.args.c s.present cuts old = present-of setting (kept_now board) c.args.c cuts c.in_ok-cuts.all.items old (c.in_ok-cuts.ensures {u = tt}) c.deref.ensures.value in
    let steps = as_steps c.in-Ok.led.moves.items in
    let new = c.in-Ok.led.all.items in
    let new_cuts = c.in-Ok.led.cuts in
    let led = (c.in-Ok.ensures {u = tt}).led in
    let q = led-system setting c.args.c entries s c.requires.together.setting there c.requires.together.state cuts old at steps new new_cuts led in
    let target = led-target setting c.args.c entries s c.requires.together.setting there c.requires.together.state cuts old at steps new new_cuts led in
    put-vertices setting c.requires.together.setting board c.requires.together.state.present refl c.keeps_places.ensures c.args.c c.requires.component c.requires.planar q new_cuts new target i l

pub returns-in-Ok-clause-step : goal.returns-in-Ok-clause-step
returns-in-Ok-clause-step c =
    let board = c.args.board.now in
    let setting = setting_on c.args.scene.now board.views in
    let s = state_on c.args.scene.now board.views board in
    let entries = c.args.lists.now in
    let cuts = c.in_ok-cuts.cuts in
    let old = c.deref.result.now in
    let there : IsThere setting c.args.c = record { within = c.requires.component; planar = c.requires.planar } in
    let at : IsPresent setting c.args.c s.present cuts old = present-of setting (kept_now board) c.args.c cuts c.in_ok-cuts.all.items old (c.in_ok-cuts.ensures {u = tt}) c.deref.ensures.value in
    let steps = as_steps c.in-Ok.led.moves.items in
    let new = c.in-Ok.led.all.items in
    let new_cuts = c.in-Ok.led.cuts in
    let led = (c.in-Ok.ensures {u = tt}).led in
    let q = led-system setting c.args.c entries s c.requires.together.setting there c.requires.together.state cuts old at steps new new_cuts led in
    let target = led-target setting c.args.c entries s c.requires.together.setting there c.requires.together.state cuts old at steps new new_cuts led in
    let gone : GoesToWhole board new_cuts new c.put_whole.new.board = subst (λ (z : List Member). GoesToWhole board new_cuts z c.put_whole.new.board) c.deref-in-Ok-2.ensures.value (c.in_ok-put_whole-in-Ok.ensures {u = tt}).done in
    convert-made setting c.args.c entries s c.requires.together.setting there c.requires.together.state cuts old at steps new new_cuts led board.views c.in-Ok.led.moves.items (state_on c.args.scene.now board.views c.put_whole.new.board) c.in_ok-text-in-Ok.text.items refl refl
    (c.in_ok-text-in-Ok.ensures {u = tt} ∙ ap₂ lines_in c.blocks-in-Ok.ensures c.deref-in-Ok.ensures.value) (put-state setting c.requires.together.setting board c.requires.together.state.present refl c.keeps_places.ensures c.args.c c.requires.component c.requires.planar q new_cuts new target c.put_whole.new.board gone)

pub returns-clause-step : goal.returns-clause-step
returns-clause-step c =
    let board = c.args.board.now in
    let setting = setting_on c.args.scene.now board.views in
    let s = state_on c.args.scene.now board.views board in
    let entries = c.args.lists.now in
    let cuts = c.in_ok-cuts.cuts in
    let old = c.deref.result.now in
    let there : IsThere setting c.args.c = record { within = c.requires.component; planar = c.requires.planar } in
    let at : IsPresent setting c.args.c s.present cuts old = present-of setting (kept_now board) c.args.c cuts c.in_ok-cuts.all.items old (c.in_ok-cuts.ensures {u = tt}) c.deref.ensures.value in
    let code = c.in_ok-code_of-in-Err.field-0 in
    text-map c.line.result (λ text. text ≡ code_text code) (λ text. ConvertWholeStep setting c.args.c entries s text s)
    (λ text e. convert-refused setting c.args.c entries s c.requires.together.setting there c.requires.together.state cuts old at c.in-Err.fault code text (c.in-Err.ensures {u = tt}).refused (c.in_ok-code_of-in-Err.ensures {u = tt}) e) c.line.ensures
