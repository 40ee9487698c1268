use Rattle.std.proofs.Common.{◌≡◌, ◌+◌, ◌++◌, Bool, ℕ, List, length, take, drop, reverse, sym, subst, arith}
use Rattle.std.proofs.lemmas.Grind.{common_steps}
use Rattle.skel_decompose.specs.Ways.{IsClimbed}
use Rattle.skel_decompose.proofs.Ways.{AreListed, listed-more}
use Rattle.skel_decompose.proofs.ordering.order_by.Goals as goal

-- the way to one node more
pub loop-k-preserved : goal.loop-k-preserved
loop-k-preserved c =
    let marks : take c.loop-k.placed.len (c.climb.new.placed ++ drop (length c.climb.new.placed) c.loop-k.placed.items) ≡ c.climb.new.placed = grind (arith, common_steps) in
    let list : c.extend_from_slice.new.self.items ≡ (c.loop-k.nodes.items ++ reverse c.climb.new.way.items) = grind (arith, common_steps) in
    let before : c.deref_mut.result.now ≡ c.loop-k.placed.items = c.deref_mut.ensures.value in
    subst (λ (z : List Bool). AreListed c.args.parents.now z c.extend_from_slice.new.self.items (c.loop-k.k + 1)) (sym marks)
    (subst (λ (z : List ℕ). AreListed c.args.parents.now c.climb.new.placed z (c.loop-k.k + 1)) (sym list)
    (listed-more c.args.parents.now c.loop-k.placed.items c.climb.new.placed c.loop-k.nodes.items c.climb.new.way.items c.loop-k.k c.loop-k.invariant c.loop-k-test.true c.requires.few
    (subst (λ (z : List Bool). IsClimbed c.args.parents.now c.loop-k.k z c.climb.new.placed c.climb.new.way.items) before c.in_ok-climb.ensures)))
