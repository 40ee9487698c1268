use Rattle.std.proofs.Common.{◌≡◌, ◌<◌, ℕ, length, subst, arith}
use Rattle.spqr_session.specs.Embedded.{BlockView, view_at}
use Rattle.spqr_session.specs.Wholes.{IsMemberOf, AreMembersOf}
use Rattle.spqr_session.proofs.BlockTrees.{view-at}
use Rattle.spqr_session.proofs.WholesMade.{members-none, members-more}
use Rattle.spqr_session.proofs.wholes.members.Goals as goal

pub loop-i-init : goal.loop-i-init
loop-i-init c = members-none c.args.blocks.now c.in_ok-all.all.items (c.in_ok-all.ensures {u = tt}).items

pub loop-i-preserved : goal.loop-i-preserved
loop-i-preserved c =
    let views = c.args.blocks.now in
    let i = c.loop-i.i in
    let v = c.index-blocks-i.result in
    let within : c.loop-i.i < length c.args.blocks.now = c.loop-i-test.true in
    let at : v ≡ view_at views i = view-at views i v within c.index-blocks-i.is in
    members-more views i c.loop-i.all.items c.push.new.self.items c.in_ok-member_of.field-0 c.loop-i.invariant (subst (λ (x : BlockView). IsMemberOf x c.in_ok-member_of.field-0) at (c.in_ok-member_of.ensures {u = tt})) (c.in_ok-push.ensures {u = tt}).items

pub returns : goal.returns
returns c =
    let end : c.loop-i.i ≡ length c.args.blocks.now = omega (arith, c.loop-i-test.false, c.loop-i.auto.i-end) in
    subst (λ (n : ℕ). AreMembersOf c.args.blocks.now n c.loop-i.all.items) end c.loop-i.invariant
