use Rattle.std.proofs.Common.{◌≡◌, ◌∙◌, ℕ, subst, arith}
use Rattle.contract_embed.specs.Entries.{AreOrdersBelow}
use Rattle.contract_embed.proofs.Orders.{orders-more}
use Rattle.contract_embed.proofs.rounds.rounds.Goals as goal

pub loop-v-preserved : goal.loop-v-preserved
loop-v-preserved c = λ s a. orders-more s c.loop-v.v c.loop-v.lists c.push.new.self c.deref.result.now (c.loop-v.invariant s a) (c.deref.ensures.value ∙ c.in_ok-edges.ensures s a) c.in_ok-push.ensures

pub returns : goal.returns
returns c = λ s a.
    let all : c.loop-v.v ≡ c.args.g.now.vertex_count = omega (arith, c.vertex_count-v-end.ensures.value, c.loop-v-test.false, c.loop-v.auto) in
    subst (λ (k : ℕ). AreOrdersBelow s k c.loop-v.lists) all (c.loop-v.invariant s a)
