use Rattle.std.proofs.Common.{true, ℕ, List, slice_set, inr, sym, subst}
use Rattle.spqr_tree.specs.Keys.{parent_at}
use Rattle.skel_decompose.specs.Ways.{IsClimbing}
use Rattle.skel_decompose.proofs.Ways.{climbing-more, climbed}
use Rattle.skel_decompose.proofs.ordering.climb.Goals as goal

-- one step up
pub loop-x-preserved : goal.loop-x-preserved
loop-x-preserved c =
    let w = c.requires.falling in
    subst (λ (z : List ℕ). IsClimbing c.args.parents.now c.args.k c.args.placed.now (slice_set c.loop-x.placed c.loop-x.x true) z (parent_at c.args.parents.now c.loop-x.x)) (sym c.in_ok-push.ensures.items)
    (climbing-more c.args.parents.now c.args.k c.args.placed.now c.loop-x.placed c.loop-x.way.items c.loop-x.x c.loop-x.invariant c.loop-x-test.true c.if-not-placed-x.true w.0 w.1 c.requires.places)

-- the next one is placed
pub returns-else-not-placed-x : goal.returns-else-not-placed-x
returns-else-not-placed-x c =
    let w = c.requires.falling in
    climbed c.args.parents.now c.args.k c.args.placed.now c.loop-x.placed c.loop-x.way.items c.loop-x.x w.0 w.1 c.loop-x.invariant (inr c.if-not-placed-x.false)
