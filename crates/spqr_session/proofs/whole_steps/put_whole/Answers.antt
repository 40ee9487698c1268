use Rattle.std.proofs.Common.{ℕ, List, Option, length, ap, ◌∙◌}
use Rattle.whole_embed.specs.Cuts.{blocks_in}
use Rattle.spqr_session.specs.WholeSteps.{moves_forth, moves_back, pairs_of, changes_below, wanted_in}
use Rattle.spqr_session.proofs.Steps.{ok-map}
use Rattle.spqr_session.proofs.WholesFirst.{step-leads}
use Rattle.spqr_session.proofs.whole_steps.put_whole.Goals as goal

pub carry-requires : goal.carry-requires
carry-requires c =
    let all = c.args.all.now in
    let cuts = c.args.cuts.now in
    let w = step-leads c.args.board.now.views c.args.board.now.lists all cuts c.in_ok-first.first c.in_ok-forth.forth c.in_ok-back.back c.in_ok-cuts.cuts c.requires.component c.requires.vertices c.requires.fits c.requires.right c.requires.parts
    (c.in_ok-first.ensures {u = tt}).lists
    (c.in_ok-forth.ensures {u = tt} ∙ (λ i. pairs_of (moves_forth (c.blocks-2.ensures i) (blocks_in all)) (c.blocks-3.ensures i)))
    (c.in_ok-back.ensures {u = tt} ∙ (λ i. pairs_of (moves_back (c.blocks-4.ensures i) (blocks_in all)) (c.blocks-5.ensures i)))
    (c.in_ok-cuts.ensures {u = tt} ∙ ap (λ (z : List (Option (List ℕ))). changes_below cuts.component.cuts z (wanted_in c.in_ok-first.first cuts) (length cuts.component.cuts)) c.kept.ensures) in
    (w.kept, w.leads)

pub returns-clause-done : goal.returns-clause-done
returns-clause-done c =
    let all = c.args.all.now in
    let cuts = c.args.cuts.now in
    let w = step-leads c.args.board.now.views c.args.board.now.lists all cuts c.in_ok-first.first c.in_ok-forth.forth c.in_ok-back.back c.in_ok-cuts.cuts c.requires.component c.requires.vertices c.requires.fits c.requires.right c.requires.parts
    (c.in_ok-first.ensures {u = tt}).lists
    (c.in_ok-forth.ensures {u = tt} ∙ (λ i. pairs_of (moves_forth (c.blocks-2.ensures i) (blocks_in all)) (c.blocks-3.ensures i)))
    (c.in_ok-back.ensures {u = tt} ∙ (λ i. pairs_of (moves_back (c.blocks-4.ensures i) (blocks_in all)) (c.blocks-5.ensures i)))
    (c.in_ok-cuts.ensures {u = tt} ∙ ap (λ (z : List (Option (List ℕ))). changes_below cuts.component.cuts z (wanted_in c.in_ok-first.first cuts) (length cuts.component.cuts)) c.kept.ensures) in
    ok-map c.carry.result _ _ (λ x g. record { kept = w.kept; goes = g; keeps = w.keeps }) (c.carry.ensures.done w.kept w.leads)
