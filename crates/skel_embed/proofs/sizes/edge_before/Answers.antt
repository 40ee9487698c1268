use Rattle.std.proofs.Common.{◌≡◌, true, sym, subst}
use Rattle.permutations.specs.Members.{is_member}
use Rattle.permutations.proofs.Arrangements.{contains-from_member}
use Rattle.permutations.proofs.Successor.{predecessor-member}
use Rattle.rotations.specs.Rotation.{order_at}
use Rattle.skel_embed.proofs.RunSteps.{edge-below}
use Rattle.skel_embed.proofs.sizes.edge_before.Goals as goal

pub pred-at-requires : goal.pred-at-requires
pred-at-requires c = contains-from_member (order_at c.args.r.now c.args.v) c.loop-step.at c.loop-step.invariant

pub group-requires-clause-tree : goal.group-requires-clause-tree
group-requires-clause-tree c = edge-below c.args.g.now c.args.t.now c.args.r.now c.args.v c.pred-at.result c.requires.block c.requires.system c.requires.vertex
    (subst (λ z. is_member z (order_at c.args.r.now c.args.v) ≡ true) (sym c.pred-at.ensures) (predecessor-member (order_at c.args.r.now c.args.v) c.loop-step.at c.loop-step.invariant))

pub loop-step-preserved : goal.loop-step-preserved
loop-step-preserved c = subst (λ z. is_member z (order_at c.args.r.now c.args.v) ≡ true) (sym c.pred-at.ensures) (predecessor-member (order_at c.args.r.now c.args.v) c.loop-step.at c.loop-step.invariant)

pub returns-then-group-key : goal.returns-then-group-key
returns-then-group-key c = subst (λ z. is_member z (order_at c.args.r.now c.args.v) ≡ true) (sym c.pred-at.ensures) (predecessor-member (order_at c.args.r.now c.args.v) c.loop-step.at c.loop-step.invariant)
