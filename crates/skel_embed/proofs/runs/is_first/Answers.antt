use Rattle.std.proofs.Common.{◌≡◌, true, sym, subst}
use Rattle.rotations.specs.Rotation.{order_at}
use Rattle.permutations.specs.Members.{is_member}
use Rattle.permutations.proofs.Successor.{predecessor-member}
use Rattle.permutations.proofs.Arrangements.{contains-from_member}
use Rattle.skel_embed.proofs.RunSteps.{edge-below}
use Rattle.skel_embed.proofs.runs.is_first.Goals as goal

pub group-requires-clause-tree : goal.group-requires-clause-tree
group-requires-clause-tree c = edge-below c.args.g.now c.args.t.now c.args.r.now c.args.v c.args.e c.requires.block c.requires.system c.requires.vertex c.requires.around

pub pred-requires : goal.pred-requires
pred-requires c = contains-from_member (order_at c.args.r.now c.args.v) c.args.e c.requires.around

pub group-requires-then-group-key-clause-tree : goal.group-requires-then-group-key-clause-tree
group-requires-then-group-key-clause-tree c = edge-below c.args.g.now c.args.t.now c.args.r.now c.args.v c.pred.result c.requires.block c.requires.system c.requires.vertex
    (subst (λ z. is_member z (order_at c.args.r.now c.args.v) ≡ true) (sym c.pred.ensures) (predecessor-member (order_at c.args.r.now c.args.v) c.args.e c.requires.around))
