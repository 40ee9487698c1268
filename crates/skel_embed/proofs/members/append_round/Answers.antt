use Rattle.std.proofs.Common.{◌∙◌, ap}
use Rattle.permutations.specs.Members.{is_member}
use Rattle.permutations.proofs.Members.{member-head, member-tail}
use Rattle.skeletons.proofs.NodeItems.{nth_item}
use Rattle.skel_embed.proofs.First.{keys-more}
use Rattle.skel_embed.proofs.members.append_round.Goals as goal

pub bounds-items-i : goal.bounds-items-i
bounds-items-i c = c.loop-i.invariant.1 c.in-Some.i (ap (is_member c.in-Some.i) c.in-Some.ensures.steps ∙ member-head c.in-Some.i c.next.new.self)

pub loop-i-preserved : goal.loop-i-preserved
loop-i-preserved c = (
  keys-more (λ i. (nth_item c.args.items.now i).key) c.loop-i.keys.items c.push.new.self.items c.next.new.self _ c.loop-i.round c.in-Some.i c.in_ok-push.ensures.items c.in-Some.ensures.steps c.loop-i.invariant.0,
  λ i m. c.loop-i.invariant.1 i (ap (is_member i) c.in-Some.ensures.steps ∙ member-tail i c.in-Some.i c.next.new.self m),
)
