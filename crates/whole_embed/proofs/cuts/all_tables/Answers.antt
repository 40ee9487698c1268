use Rattle.std.proofs.Common.{◌<◌, ℕ, List, length, subst, slice_index_or}
use Rattle.whole_embed.specs.Keeping.{KeepsTables}
use Rattle.whole_embed.proofs.CutLists.{cut-among}
use Rattle.whole_embed.proofs.CutTables.{tables-more}
use Rattle.whole_embed.proofs.cuts.all_tables.Goals as goal

pub tables_of-requires : goal.tables_of-requires
tables_of-requires c = cut-among c.args.frame.now.cuts c.cuts-v-items.result.now c.loop-v.v-index c.cuts-v-items.ensures.value (subst (λ (l : List ℕ). c.loop-v.v-index < length l) c.cuts-v-items.ensures.value c.loop-v-test.true)

pub loop-v-preserved : goal.loop-v-preserved
loop-v-preserved c =
    tables-more c.args.frame.now c.loop-v.orders.items c.push.new.self.items c.loop-v.v-index c.in_ok-tables_of.field-0 c.loop-v.invariant.0 c.loop-v.invariant.1
    (subst (λ (l : List ℕ). KeepsTables c.args.frame.now (slice_index_or l c.loop-v.v-index 0) c.in_ok-tables_of.field-0) c.cuts-v-items.ensures.value (c.in_ok-tables_of.ensures {u = tt}))
    (c.in_ok-push.ensures {u = tt}).items
