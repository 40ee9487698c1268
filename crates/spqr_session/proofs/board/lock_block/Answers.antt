use Rattle.std.proofs.Common.{ap}
use Rattle.spqr_session.specs.Embedded.{BlockView}
use Rattle.spqr_session.proofs.BoardSteps.{set-carried, set-locked}
use Rattle.spqr_session.proofs.board.lock_block.Goals as goal

pub returns-clause-carried : goal.returns-clause-carried
returns-clause-carried c = set-carried c.args.blocks.now.items c.args.b c.set_lock.new.self c.index_mut.result.now c.requires.block c.index_mut.ensures.value
    (ap (λ (v : BlockView). v.tree) c.set_lock.ensures) (ap (λ (v : BlockView). v.certificate) c.set_lock.ensures)

pub returns-clause-entries : goal.returns-clause-entries
returns-clause-entries c = set-locked c.args.blocks.now.items c.args.b c.set_lock.new.self c.index_mut.result.now c.args.k c.args.on c.requires.block c.index_mut.ensures.value (ap (λ (v : BlockView). v.entry) c.set_lock.ensures)
