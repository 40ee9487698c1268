use Rattle.std.proofs.Common.{List, ℕ, ◌++◌, sym, ap, ◌∙◌, subst}
use Rattle.whole_embed.specs.declared.members.Member.{Member}
use Rattle.whole_embed.specs.Component.{IsComponentInPlane}
use Rattle.whole_embed.specs.Cuts.{blocks_in, HavePlanes}
use Rattle.whole_embed.specs.Whole.{AreArranged, whole_lists}
use Rattle.spqr_script.specs.Answers.Whole.{whole_text}
use Rattle.spqr_session.specs.Scene.{setting_on}
use Rattle.spqr_session.specs.Board.{kept_now}
use Rattle.spqr_session.proofs.WholesMade.{whole-told}
use Rattle.spqr_session.proofs.commands.whole.line_of.Goals as goal

pub whole-requires-clause-component : goal.whole-requires-clause-component
whole-requires-clause-component c = let is = c.in_ok-found.ensures {u = tt} in
    let b = is.blocks in
    subst (λ (l : List Member). IsComponentInPlane c.in_ok-found.found.0.component (blocks_in l)) (sym c.deref.ensures.value) b.in_plane

pub whole-requires-clause-planes : goal.whole-requires-clause-planes
whole-requires-clause-planes c = let is = c.in_ok-found.ensures {u = tt} in
    let b = is.blocks in
    subst (λ (l : List Member). HavePlanes c.in_ok-found.found.0.component l) (sym c.deref.ensures.value) b.planes

pub whole-requires-clause-arranged : goal.whole-requires-clause-arranged
whole-requires-clause-arranged c = let is = c.in_ok-found.ensures {u = tt} in
    subst (λ (l : List Member). AreArranged c.in_ok-found.found.0.component (blocks_in l) c.in_ok-found.found.0.lists) (sym c.deref.ensures.value) is.arranged

pub returns : goal.returns
returns c =
    let board = c.args.board.now in
    let found = c.in_ok-found.found in
    let lists = c.in_ok-lists.lists in
    let made = c.in_ok-lists.ensures {u = tt} in
    whole-told (setting_on c.args.scene.now board.views) (kept_now board) c.args.c found.0 found.1.items (c.in_ok-found.ensures {u = tt}) lists
    (made.lists ∙ ap (λ (l : List Member). whole_lists found.0.component (blocks_in l) found.0.lists) c.deref.ensures.value) c.push_whole_line.new.out.items
    (c.in_ok-push_whole_line.ensures ∙ ap (λ (t : List ℕ). t ++ whole_text c.args.c lists) c.new-text.ensures.items)
