use Rattle.std.proofs.Common.{◌∙◌, ℕ, List, sym, subst}
use Rattle.rotations.specs.Entries.{IsAbove}
use Rattle.skeletons.specs.Families.{system_at}
use Rattle.skel_compose.proofs.Rounds.{orders-more, entries-above}
use Rattle.skel_decompose.proofs.members.orders.Goals as goal

pub push-requires : goal.push-requires
push-requires c = let w = c.requires.family in subst (λ (z : List (ℕ × List ℕ)). IsAbove z c.loop-p.p) (sym (c.loop-p.invariant w.0 w.1 w.2)) (entries-above (system_at w.0 c.args.k) c.loop-p.p)

-- one vertex more
pub loop-p-preserved : goal.loop-p-preserved
loop-p-preserved c = λ family f h. orders-more (system_at family c.args.k) c.loop-p.p c.loop-p.lists c.push.new.self c.deref.result.now (c.loop-p.invariant family f h) (c.deref.ensures.value ∙ c.in_ok-items_round.ensures family f h) c.in_ok-push.ensures
