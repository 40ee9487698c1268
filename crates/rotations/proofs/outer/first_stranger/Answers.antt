use Rattle.std.proofs.Common.{refl, arith}
use Rattle.rotations.proofs.PartEdges.{stranger-first, strangers-none, known-more}
use Rattle.rotations.proofs.outer.first_stranger.Goals as goal

pub returns-in-None : goal.returns-in-None
returns-in-None c =
    stranger-first c.args.p.now c.args.lists.now c.loop-k.k c.vertex-v.result c.len-k-end.ensures.rising (omega (arith, c.loop-k-test.true, c.len-k-end.ensures.value)) c.vertex-v.ensures c.loop-k.invariant
    (c.in-None.ensures.none.0 refl)

pub loop-k-preserved : goal.loop-k-preserved
loop-k-preserved c = known-more c.args.p.now c.args.lists.now c.loop-k.k c.vertex-v.result c.in-Some.field-0 c.loop-k.invariant c.vertex-v.ensures ((c.in-Some.ensures.some c.in-Some.field-0).0 refl)

pub returns : goal.returns
returns c = strangers-none c.args.p.now c.args.lists.now c.loop-k.k (omega (arith, c.loop-k-test.false, c.len-k-end.ensures.value)) c.loop-k.invariant
