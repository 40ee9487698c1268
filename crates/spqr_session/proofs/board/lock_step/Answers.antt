use Rattle.std.proofs.Common.{ap, ◌∙◌}
use Rattle.spqr_session.specs.Embedded.{BlockView, entry_lock}
use Rattle.spqr_session.proofs.BlockTrees.{view-at}
use Rattle.spqr_session.proofs.BoardSteps.{lock-leads}
use Rattle.spqr_session.proofs.board.lock_step.Goals as goal

pub returns : goal.returns
returns c =
    let views = c.args.blocks.now in
    let found = view-at views c.args.b c.index-blocks-b.result c.requires.block c.index-blocks-b.is in
    λ e lists at. lock-leads views c.args.b e at lists c.args.k c.args.on c.locked.result c.requires.node (c.locked.ensures ∙ ap (λ (v : BlockView). entry_lock c.args.k v.entry) found ∙ ap (entry_lock c.args.k) at.entry)
