use Rattle.arrangements.proofs.Built.{arrangement-built}
use Rattle.arrangements.proofs.Listed.{arrangement-length, following-next, no_greater-last}
use Rattle.arrangements.proofs.Walked.{arrangement-edge, at-built, contains-built}
use Rattle.arrangements.proofs.making.next.Goals as goal

-- an arrangement has all edges
pub step-requires-clause-all : goal.step-requires-clause-all
step-requires-clause-all c = let v = c.requires.arranged in arrangement-length v.block v.order c.args.tables.now.edges v.are.orders c.args.list.now v.arranged

-- and no others
pub step-requires-clause-edges : goal.step-requires-clause-edges
step-requires-clause-edges c = let v = c.requires.arranged in arrangement-edge v.block v.order c.args.tables.now.edges c.args.list.now v.arranged

-- it is built
pub step-requires-clause-blocks : goal.step-requires-clause-blocks
step-requires-clause-blocks c =
    let v = c.requires.arranged in
    record { block = v.block; order = v.order; are = v.are; built = arrangement-built v.block v.order c.args.tables.now.edges v.are.orders c.args.list.now v.arranged }

-- the next one
pub returns-clause-next : goal.returns-clause-next
returns-clause-next c = λ t block order a i at.
    following-next block order c.args.tables.now.edges a.orders c.args.list.now c.step.new.list i at
    (c.step.ensures.next t block order a (at-built block order c.args.tables.now.edges c.args.list.now i a.orders at))

-- there is none
pub returns-clause-last : goal.returns-clause-last
returns-clause-last c = λ t block order a h.
    no_greater-last block order c.args.tables.now.edges a.orders c.args.list.now h
    (c.step.ensures.last t block order a (contains-built block order c.args.tables.now.edges c.args.list.now a.orders h))
