use Rattle.std.proofs.Common.{◌<◌, length, ◌∙◌, subst, arith}
use Rattle.whole_embed.specs.declared.members.Member.{Member}
use Rattle.whole_embed.proofs.Advance.{read-member}
use Rattle.embed_tests.specs.Wholes.{KeepsPlane}
use Rattle.embed_tests.proofs.Ready.{members-set}
use Rattle.embed_tests.proofs.whole_graphs.Placed.lock.Goals as goal

pub invariant_of-self : goal.invariant_of-self
invariant_of-self c =
    let all = c.self.inside.all.items in
    let within : c.args.b < length c.self.inside.all.items = omega (arith, c.if-b-len.true, c.len.ensures) in
    let kept = subst (λ (m : Member). KeepsPlane m c.lock_node.new.member) (c.index_mut.ensures.value ∙ read-member all c.args.b c.index_mut.result.now within) c.lock_node.ensures in
    (c.self.invariant.0, members-set c.self.inside.graph c.self.inside.blocks.blocks (length c.self.inside.blocks.blocks) all c.args.b c.lock_node.new.member c.self.invariant.1 within kept)
