use Rattle.std.proofs.Common.{◌≡◌, ◌<◌, List, length, map, take, get_or, sym, ap, ◌∙◌, subst, arith}
use Rattle.std.proofs.lemmas.List.{take_all}
use Rattle.moves.specs.declared.values.Move as kept
use Rattle.skel_embed.specs.Values.{as_move, as_moves}
use Rattle.embed_moves.proofs.Arranging.{choice-arranged}
use Rattle.spqr_session.specs.Moved.{way_back, LeadBack}
use Rattle.spqr_session.proofs.WaysBack.{fits-node, fit-at, lead-back}
use Rattle.spqr_session.proofs.embedded.returning.moves_back.Goals as goal

pub move_back-requires : goal.move_back-requires
move_back-requires c =
    let p = c.args.plane.now in
    fits-node p.graph p.tree c.belongs.ensures.block (as_move c.one-item.result)
    (fit-at p.tree c.args.forth.now c.loop-one.one-index c.one-item.result (subst (λ (l : List kept.Move). c.loop-one.one-index < length l) c.as_slice-one-items.ensures c.loop-one-test.true)
    (subst (λ (l : List kept.Move). c.one-item.result ≡ get_or l c.loop-one.one-index c.one-item.result) c.as_slice-one-items.ensures c.one-item.is) c.requires.fit)

pub returns : goal.returns
returns c =
    let p = c.args.plane.now in
    let items = c.as_slice-one-items.result.now in
    let all : take c.loop-one.one-index items ≡ c.args.forth.now = take_all c.loop-one.one-index items (omega (arith, c.loop-one-test.false)) ∙ c.as_slice-one-items.ensures in
    let same : map (way_back p.tree p.rotation) (as_moves c.args.forth.now) ≡ as_moves c.of.result =
    ap (λ (l : List kept.Move). map (way_back p.tree p.rotation) (as_moves l)) (sym all) ∙ sym c.loop-one.invariant ∙ ap as_moves (sym c.of.ensures) in
    subst (LeadBack p.tree p.rotation (as_moves c.args.forth.now)) same
    (lead-back p.graph p.tree c.belongs.ensures.block p.rotation c.belongs.ensures.plane (choice-arranged p c.belongs.ensures) (as_moves c.args.forth.now) c.requires)
