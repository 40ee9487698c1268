use Rattle.std.proofs.Common.{sym, arith}
use Rattle.arrangements.proofs.Listed.{filled-first}
use Rattle.arrangements.proofs.making.first.Goals as goal

-- the empty list is built
pub fill-requires-clause-blocks : goal.fill-requires-clause-blocks
fill-requires-clause-blocks c =
    let v = c.requires.blocks in
    record { block = v.block; order = v.order; are = v.are; built = λ i h. absurd (omega arith) }

-- filled from the first place on
pub returns-clause-first : goal.returns-clause-first
returns-clause-first c = λ block order a.
    sym (filled-first block order c.args.tables.now.edges a.orders c.fill.new.list (omega (arith, c.fill.auto.list, c.requires.all)) (c.fill.ensures.filled block order a (λ i h. absurd (omega arith))))
