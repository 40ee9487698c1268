use Rattle.std.proofs.Common.{arith}
use Rattle.std.proofs.lemmas.List.{length-map}
use Rattle.std.proofs.lemmas.Bool.{both_ways}
use Rattle.pair_split.specs.Bridges.{entry_of}
use Rattle.pair_split.proofs.KindOf.{kind-rigid, kind-bond, kind-polygon}
use Rattle.pair_split.proofs.splitting.kind_of.Goals as goal

pub returns-then-rest-gt2-clause-skeleton : goal.returns-then-rest-gt2-clause-skeleton
returns-then-rest-gt2-clause-skeleton c = kind-rigid _ c.requires.family c.requires.prime (omega (arith, length-map c.args.rest.now entry_of, c.if-rest-gt2.true))

pub returns-then-are_parallel-clause-skeleton : goal.returns-then-are_parallel-clause-skeleton
returns-then-are_parallel-clause-skeleton c = kind-bond c.args.first c.args.rest.now (omega (arith, c.requires.three, c.if-rest-gt2.false)) c.requires.family c.requires.prime.tight (c.are_parallel.ensures.0 c.if-are_parallel.true)

pub returns-clause-skeleton : goal.returns-clause-skeleton
returns-clause-skeleton c = kind-polygon c.args.first c.args.rest.now (omega (arith, c.requires.three, c.if-rest-gt2.false)) c.requires.family c.requires.prime.tight (λ s. both_ways c.are_parallel.result c.if-are_parallel.false (c.are_parallel.ensures.1 s))
