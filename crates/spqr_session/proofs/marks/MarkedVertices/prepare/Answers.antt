use Rattle.std.proofs.Common.{◌≡◌, true, Bool, List, sym, subst}
use Rattle.std.specs.List.{list_all}
use Rattle.spqr_session.specs.Marked.{may_set}
use Rattle.spqr_session.proofs.MarkedLists.{set-marked}
use Rattle.spqr_session.proofs.marks.MarkedVertices.prepare.Goals as goal

pub returns-else-not-may_set_all-clause-after : goal.returns-else-not-may_set_all-clause-after
returns-else-not-may_set_all-clause-after c =
    let old = c.args.self.now in
    let ps = c.args.lists.now in
    set-marked c.args.blocks.now c.args.kept.now ps old c.requires (subst (λ (m : List Bool). list_all (may_set m) ps ≡ true) c.deref.ensures.value (sym c.if-not-may_set_all.ensures))
