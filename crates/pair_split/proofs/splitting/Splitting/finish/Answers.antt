use Rattle.std.proofs.Common.{Option, subst, arith}
use Rattle.std.proofs.lemmas.List.{length-map}
use Rattle.pair_split.specs.Bridges.{entry_of, family_of}
use Rattle.pair_split.specs.Search.{IsSearched}
use Rattle.pair_split.specs.declared.search.Side.{Side}
use Rattle.pair_split.proofs.SplitSteps.{current-tight, small-prime}
use Rattle.pair_split.proofs.splitting.Splitting.finish.Goals as goal

pub returns-in-None-clause-prime : goal.returns-in-None-clause-prime
returns-in-None-clause-prime c = record {
  tight = current-tight c.args.g.now c.loop-alloc.invariant.graph c.requires.block c.loop-alloc.splitting.parts.items c.loop-alloc.splitting.current.items c.loop-alloc.invariant;
  none = subst (λ (found : Option Side). IsSearched c.loop-alloc.splitting.current.items found) c.in-None.is c.in_ok-side.ensures;
}

pub returns-clause-prime : goal.returns-clause-prime
returns-clause-prime c = small-prime (family_of c.loop-alloc.splitting.current.items)
    (current-tight c.args.g.now c.loop-alloc.invariant.graph c.requires.block c.loop-alloc.splitting.parts.items c.loop-alloc.splitting.current.items c.loop-alloc.invariant)
    (omega (arith, length-map c.loop-alloc.splitting.current.items entry_of, c.loop-alloc-test.false, c.len.ensures, c.loop-alloc.splitting.current.ok.0))
