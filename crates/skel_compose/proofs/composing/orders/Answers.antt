use Rattle.std.proofs.Common.{◌∙◌, ℕ, List, sym, subst}
use Rattle.rotations.specs.Entries.{IsAbove}
use Rattle.skeletons.proofs.Places.{family-followed}
use Rattle.skel_compose.proofs.Rounds.{orders-more, entries-above}
use Rattle.skel_compose.proofs.composing.orders.Goals as goal

pub push-requires : goal.push-requires
push-requires c = let q = c.requires.family in let w = family-followed c.args.g.now c.args.tree.now q.0 c.requires.block q.1.systems in subst (λ (z : List (ℕ × List ℕ)). IsAbove z c.loop-v.v) (sym (c.loop-v.invariant q.0 q.1 w.0 w.1 w.2)) (entries-above w.0 c.loop-v.v)

-- one vertex more
pub loop-v-preserved : goal.loop-v-preserved
loop-v-preserved c = λ family t r s f. orders-more r c.loop-v.v c.loop-v.lists c.push.new.self c.deref-in-loop-v.result.now (c.loop-v.invariant family t r s f) (c.deref-in-loop-v.ensures.value ∙ c.in_ok-edges_round.ensures family t r s f) c.in_ok-push.ensures
