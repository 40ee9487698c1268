use Rattle.std.proofs.Common.{ap}
use Rattle.spqr_session.specs.Embedded.{BlockView}
use Rattle.spqr_session.proofs.BoardSteps.{set-carried, set-mirrored}
use Rattle.spqr_session.proofs.board.mirror_block.Goals as goal

pub returns-clause-carried : goal.returns-clause-carried
returns-clause-carried c = set-carried c.args.blocks.now.items c.args.b c.mirror.new.self c.index_mut.result.now c.requires c.index_mut.ensures.value
    (ap (λ (v : BlockView). v.tree) c.mirror.ensures) (ap (λ (v : BlockView). v.certificate) c.mirror.ensures)

pub returns-clause-entries : goal.returns-clause-entries
returns-clause-entries c = set-mirrored c.args.blocks.now.items c.args.b c.mirror.new.self c.index_mut.result.now c.requires c.index_mut.ensures.value (ap (λ (v : BlockView). v.entry) c.mirror.ensures)
