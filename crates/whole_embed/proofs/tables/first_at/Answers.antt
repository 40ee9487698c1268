use Rattle.std.proofs.Common.{◌≡◌, length, sym, ap, ◌∙◌, subst, arith}
use Rattle.arrangements.specs.Arranged.{first_arrangement}
use Rattle.whole_embed.specs.Around.{block_with, block_order}
use Rattle.whole_embed.specs.Cuts.{blocks_in}
use Rattle.whole_embed.specs.Keeping.{KeepsTables}
use Rattle.whole_embed.proofs.FrameFacts.{written-back}
use Rattle.whole_embed.proofs.tables.first_at.Goals as goal

pub first-requires-clause-blocks : goal.first-requires-clause-blocks
first-requires-clause-blocks c = record { block = block_with c.args.frame.now; order = block_order (blocks_in c.args.all.now) c.args.v; are = c.renew.ensures.renewed }

pub first-requires-clause-all : goal.first-requires-clause-all
first-requires-clause-all c = omega (arith, ap length c.deref_mut.ensures.value, c.requires.long, ap length c.renew.ensures.tables.edges)

pub returns-clause-first : goal.returns-clause-first
returns-clause-first c =
    let block = block_with c.args.frame.now in
    let order = block_order (blocks_in c.args.all.now) c.args.v in
    written-back c.args.list.now.len c.args.list.now.items c.first.new.into (omega (arith, c.first.auto.into, ap length c.deref_mut.ensures.value, c.args.list.now.ok.0))
    ∙ (c.first.ensures.first block order c.renew.ensures.renewed ∙ ap (first_arrangement block order) c.renew.ensures.tables.edges)

pub returns-clause-long : goal.returns-clause-long
returns-clause-long c =
    let each : length c.first.new.into ≡ length c.args.list.now.items = omega (arith, c.first.auto.into, ap length c.deref_mut.ensures.value) in
    ap length (written-back c.args.list.now.len c.args.list.now.items c.first.new.into (omega (arith, each, c.args.list.now.ok.0))) ∙ each

pub returns-clause-tables : goal.returns-clause-tables
returns-clause-tables c = subst (KeepsTables c.args.frame.now c.args.v) (sym c.first.ensures.tables) c.renew.ensures.tables
