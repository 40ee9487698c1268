use Rattle.arrangements.proofs.Walked.{full-exactly}
use Rattle.arrangements.proofs.making.is_arranged.Goals as goal

-- what is built is listed, and the other way round
pub returns-clause-exact : goal.returns-clause-exact
returns-clause-exact c = λ block order a.
    let e = c.is_built.ensures.exact block order a in
    let f = full-exactly block order c.args.tables.now.edges c.args.list.now a.orders in
    (λ t. f.0 (e.0 t), λ h. e.1 (f.1 h))
