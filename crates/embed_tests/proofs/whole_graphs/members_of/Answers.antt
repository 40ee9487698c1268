use Rattle.std.proofs.Common.{List, MatchOption, sym, subst}
use Rattle.std.specs.Prelude.{⊤}
use Rattle.blocks.specs.Blocks.{block_at}
use Rattle.whole_embed.specs.declared.members.Member.{Member}
use Rattle.embed_tests.specs.Wholes.{IsPlaneMember, ArePlaneMembers}
use Rattle.embed_tests.proofs.Ready.{members-none, members-more}
use Rattle.embed_tests.proofs.whole_graphs.members_of.Goals as goal

pub loop-b-init : goal.loop-b-init
loop-b-init c = subst (λ (all : List Member). ArePlaneMembers c.args.graph.now c.args.blocks.now.blocks 0 all) (sym c.new-all.ensures.items) (members-none c.args.graph.now c.args.blocks.now.blocks)

pub loop-b-preserved : goal.loop-b-preserved
loop-b-preserved c =
    let g = c.args.graph.now in
    let blocks = c.args.blocks.now.blocks in
    let is = subst (λ r. MatchOption r ⊤ (IsPlaneMember g (block_at blocks c.loop-b.b))) c.in-Some.is (c.in_ok-member.ensures {u = tt}) in
    members-more g blocks c.loop-b.b c.loop-b.all.items c.push.new.self.items c.in-Some.member c.loop-b.invariant is (c.in_ok-push-in-Some.ensures {u = tt}).items
