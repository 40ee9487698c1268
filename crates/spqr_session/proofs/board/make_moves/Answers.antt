use Rattle.std.proofs.Common.{◌∙◌, map, slice_set, sym, ap, subst, arith}
use Rattle.spqr_session.specs.AtOnce.{IsMadeOf}
use Rattle.spqr_session.specs.Embedded.{BlockView, view_tree, view_certificate, view_entry}
use Rattle.spqr_session.specs.History.{as_pairs}
use Rattle.spqr_session.proofs.BlockTrees.{view-at}
use Rattle.spqr_session.proofs.BoardSteps.{set-carried}
use Rattle.spqr_session.proofs.Families.{entries-set}
use Rattle.spqr_session.proofs.board.make_moves.Goals as goal

pub index_mut-requires : goal.index_mut-requires
index_mut-requires c =
    let h = subst (IsMadeOf c.args.blocks.now.items (as_pairs c.args.moves.now)) c.in-Some.is c.requires.made in
    omega (arith, c.args.blocks.now.ok.0, h.replaces.stands.within)

pub replace-requires-clause-planar : goal.replace-requires-clause-planar
replace-requires-clause-planar c =
    let views = c.args.blocks.now.items in
    let h = subst (IsMadeOf views (as_pairs c.args.moves.now)) c.in-Some.is c.requires.made in
    (h.entry, ap view_entry (view-at views c.in-Some.one.block c.index_mut.result.now h.replaces.stands.within c.index_mut.ensures.value) ∙ h.replaces.stands.entry)

pub replace-requires-clause-graph : goal.replace-requires-clause-graph
replace-requires-clause-graph c =
    let views = c.args.blocks.now.items in
    let h = subst (IsMadeOf views (as_pairs c.args.moves.now)) c.in-Some.is c.requires.made in
    h.replaces.graph ∙ ap (λ (v : BlockView). v.tree.part.graph) (sym (view-at views c.in-Some.one.block c.index_mut.result.now h.replaces.stands.within c.index_mut.ensures.value))

pub replace-requires-clause-tree : goal.replace-requires-clause-tree
replace-requires-clause-tree c =
    let views = c.args.blocks.now.items in
    let h = subst (IsMadeOf views (as_pairs c.args.moves.now)) c.in-Some.is c.requires.made in
    h.replaces.tree ∙ ap (λ (v : BlockView). v.tree.nodes) (sym (view-at views c.in-Some.one.block c.index_mut.result.now h.replaces.stands.within c.index_mut.ensures.value))

pub returns-in-Some-clause-carried : goal.returns-in-Some-clause-carried
returns-in-Some-clause-carried c =
    let views = c.args.blocks.now.items in
    let h = subst (IsMadeOf views (as_pairs c.args.moves.now)) c.in-Some.is c.requires.made in
    set-carried views c.in-Some.one.block c.replace.new.self c.index_mut.result.now h.replaces.stands.within c.index_mut.ensures.value (ap view_tree c.replace.ensures) (ap view_certificate c.replace.ensures)

pub returns-in-Some-clause-entries : goal.returns-in-Some-clause-entries
returns-in-Some-clause-entries c =
    let views = c.args.blocks.now.items in
    let h = subst (IsMadeOf views (as_pairs c.args.moves.now)) c.in-Some.is c.requires.made in
    entries-set views c.in-Some.one.block c.replace.new.self ∙ ap (slice_set (map view_entry views) c.in-Some.one.block) (ap view_entry c.replace.ensures) ∙ sym h.made
