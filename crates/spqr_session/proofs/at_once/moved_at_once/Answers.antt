use Rattle.std.proofs.Common.{◌∙◌, sym, ap}
use Rattle.skel_embed.specs.Block.{BlockState}
use Rattle.spqr_session.specs.AtOnce.{moves_of}
use Rattle.spqr_session.specs.Moved.{all_moved}
use Rattle.spqr_session.proofs.Moved.{moves-keep}
use Rattle.spqr_session.proofs.at_once.moved_at_once.Goals as goal

pub with_choices-requires : goal.with_choices-requires
with_choices-requires c =
    let p = c.args.plane.now in
    (all_moved p.tree (moves_of c.args.moves.now) p.rotation, moves-keep p.graph p.tree c.belongs.ensures.block (moves_of c.args.moves.now) p.rotation c.belongs.ensures.plane c.requires, c.in_ok-draft.ensures {u = tt})

pub returns : goal.returns
returns c =
    let p = c.args.plane.now in
    let q = all_moved p.tree (moves_of c.args.moves.now) p.rotation in
    let e = c.in_ok-moved.ensures {u = tt} q (moves-keep p.graph p.tree c.belongs.ensures.block (moves_of c.args.moves.now) p.rotation c.belongs.ensures.plane c.requires) (c.in_ok-draft.ensures {u = tt}) in
    e ∙ (λ i. record { graph = p.graph; tree = p.tree; rotation = q; choices = sym (ap (λ (z : BlockState). z.choices) e) i; locks = p.locks })
