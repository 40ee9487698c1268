use Rattle.std.proofs.Common.{ℕ, List, subst, arith}
use Rattle.skeletons.specs.Families.{AreSkeletonSystems, FollowsFamily}
use Rattle.skel_decompose.proofs.Around.{some-family}
use Rattle.skel_decompose.proofs.Gathered.{members-more, members-all}
use Rattle.skel_decompose.proofs.decomposing.decompose.Goals as goal

pub followers-requires : goal.followers-requires
followers-requires c = record { runs = record { block = c.requires.block; limits = c.keeps_limits.ensures.limits; system = c.requires.system; runs = c.requires.runs } }

pub member_of-requires-clause-block : goal.member_of-requires-clause-block
member_of-requires-clause-block c = (c.args.g.now, c.requires.block, c.keeps_limits.ensures.limits)

pub member_of-requires-clause-family : goal.member_of-requires-clause-family
member_of-requires-clause-family c =
    let w = some-family c.args.g.now c.args.tree.now c.args.r.now (record { block = c.requires.block; limits = c.keeps_limits.ensures.limits; system = c.requires.system; runs = c.requires.runs }) in
    (w.0, w.1.systems, c.in_ok-table.ensures.followers w.0 w.1)

-- one member more
pub loop-k-preserved : goal.loop-k-preserved
loop-k-preserved c = λ family m. members-more family c.loop-k.k c.in_ok-member_of.field-0 c.loop-k.members.items c.push.new.self.items (c.loop-k.invariant family m)
    (c.in_ok-member_of.ensures family m.systems (c.in_ok-table.ensures.followers family m)) c.in_ok-push.ensures.items

-- the members are the family that is followed
pub returns-clause-systems : goal.returns-clause-systems
returns-clause-systems c =
    let w = some-family c.args.g.now c.args.tree.now c.args.r.now (record { block = c.requires.block; limits = c.keeps_limits.ensures.limits; system = c.requires.system; runs = c.requires.runs }) in
    subst (AreSkeletonSystems c.args.tree.now) (members-all c.args.tree.now w.0 w.1.systems c.loop-k.k (omega (arith, c.loop-k-test.false, c.node_count-k-end.ensures, c.loop-k.auto)) c.loop-k.members.items (c.loop-k.invariant w.0 w.1)) w.1.systems

pub returns-clause-follows : goal.returns-clause-follows
returns-clause-follows c =
    let w = some-family c.args.g.now c.args.tree.now c.args.r.now (record { block = c.requires.block; limits = c.keeps_limits.ensures.limits; system = c.requires.system; runs = c.requires.runs }) in
    subst (λ (z : List (List (List ℕ))). FollowsFamily c.args.tree.now z c.args.r.now) (members-all c.args.tree.now w.0 w.1.systems c.loop-k.k (omega (arith, c.loop-k-test.false, c.node_count-k-end.ensures, c.loop-k.auto)) c.loop-k.members.items (c.loop-k.invariant w.0 w.1)) w.1.follows
