use Rattle.std.proofs.Common.{◌≡◌, true, sym, ◌∙◌, subst}
use Rattle.permutations.specs.Members.{is_member}
use Rattle.permutations.proofs.Arrangements.{contains-from_member}
use Rattle.permutations.proofs.Successor.{predecessor-member}
use Rattle.rotations.specs.Rotation.{order_at}
use Rattle.skel_embed.proofs.RunSteps.{edge-below}
use Rattle.skel_embed.proofs.runs.first_from.Goals as goal

pub group-requires-clause-tree : goal.group-requires-clause-tree
group-requires-clause-tree c = edge-below c.args.g.now c.args.t.now c.args.r.now c.args.v c.args.e c.requires.block c.requires.system c.requires.vertex c.requires.around

pub pred-before-requires : goal.pred-before-requires
pred-before-requires c = contains-from_member (order_at c.args.r.now c.args.v) c.loop-step.at c.loop-step.invariant.0

pub group-requires-in-loop-step-clause-tree : goal.group-requires-in-loop-step-clause-tree
group-requires-in-loop-step-clause-tree c = edge-below c.args.g.now c.args.t.now c.args.r.now c.args.v c.pred-before.result c.requires.block c.requires.system c.requires.vertex
    (subst (λ z. is_member z (order_at c.args.r.now c.args.v) ≡ true) (sym c.pred-before.ensures) (predecessor-member (order_at c.args.r.now c.args.v) c.loop-step.at c.loop-step.invariant.0))

pub loop-step-preserved : goal.loop-step-preserved
loop-step-preserved c = (
  subst (λ z. is_member z (order_at c.args.r.now c.args.v) ≡ true) (sym c.pred-before.ensures) (predecessor-member (order_at c.args.r.now c.args.v) c.loop-step.at c.loop-step.invariant.0),
  sym c.group-in-loop-step.ensures ∙ c.if-group-key-2.false,
)
