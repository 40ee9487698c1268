use Rattle.std.proofs.Common.{arith}
use Rattle.std.proofs.lemmas.List.{length-map}
use Rattle.pair_split.specs.Bridges.{entry_of, family_of}
use Rattle.pair_split.proofs.Searching.{no_parallels, parallel-minimal, best-minimal, least-none, separation-below}
use Rattle.pair_split.proofs.search.minimal_side.Goals as goal

pub returns-in-Some : goal.returns-in-Some
returns-in-Some c = parallel-minimal c.args.edges.now c.in-Some.i c.in-Some.j c.args.bound c.in_ok-parallel_side.field-0 c.requires.edges.searchable c.requires.edges.names c.in-Some.ensures.found.0 c.in-Some.ensures.found.1 c.in-Some.ensures.found.2 c.in_ok-parallel_side.ensures.ends.0 c.in_ok-parallel_side.ensures.ends.1 c.in_ok-parallel_side.ensures.marks c.in_ok-parallel_side.ensures.number

pub best_side-requires-clause-simple : goal.best_side-requires-clause-simple
best_side-requires-clause-simple c = no_parallels c.args.edges.now (c.parallel_places.ensures.none c.in_default.is)

pub returns-then-best-edges : goal.returns-then-best-edges
returns-then-best-edges c = best-minimal (family_of c.args.edges.now) c.args.n c.in_ok-best.best c.in_ok-best.ensures.best c.in_ok-best.ensures.least (separation-below c.args.edges.now c.args.n c.requires.edges.ends) (omega (arith, length-map c.args.edges.now entry_of, c.if-best-edges.true))

pub returns : goal.returns
returns c = least-none (family_of c.args.edges.now) c.args.n c.in_ok-best.best c.in_ok-best.ensures.least (separation-below c.args.edges.now c.args.n c.requires.edges.ends) (omega (arith, length-map c.args.edges.now entry_of, c.if-best-edges.false))
