use Rattle.std.proofs.Common.{◌≡◌, ◌<◌, true, sym, ap, ◌∙◌, subst}
use Rattle.permutations.specs.Members.{is_member}
use Rattle.permutations.proofs.Members.{member-head, member-tail}
use Rattle.permutations.proofs.Successor.{predecessor-member}
use Rattle.permutations.proofs.Arrangements.{contains-from_member}
use Rattle.rotations.specs.Rotation.{order_at}
use Rattle.pair_split.specs.Tutte.{group}
use Rattle.skeletons.proofs.Vertices.{vertex-in}
use Rattle.skel_embed.specs.Taken.{begins_run}
use Rattle.skel_embed.proofs.RunSteps.{edge-below}
use Rattle.skel_embed.proofs.RunKeys.{runs-more, runs-passed, begins-yes, begins-no}
use Rattle.skel_embed.proofs.choosing.keys_of_runs.Goals as goal

pub list-round-requires : goal.list-round-requires
list-round-requires c = subst (λ z. c.args.v < z) (sym c.requires.plane.system.vertices) (vertex-in c.args.g.now c.args.t.now c.requires.block c.args.k c.args.v c.requires.vertex)

pub group-key-requires-clause-tree : goal.group-key-requires-clause-tree
group-key-requires-clause-tree c =
    edge-below c.args.g.now c.args.t.now c.args.r.now c.args.v c.in-Some.e c.requires.block c.requires.plane.system (vertex-in c.args.g.now c.args.t.now c.requires.block c.args.k c.args.v c.requires.vertex)
    (c.loop-e.invariant.1 c.in-Some.e (ap (is_member c.in-Some.e) c.in-Some.ensures.steps ∙ member-head c.in-Some.e c.next.new.self))

pub pred-requires : goal.pred-requires
pred-requires c = contains-from_member (order_at c.args.r.now c.args.v) c.in-Some.e
    (c.loop-e.invariant.1 c.in-Some.e (ap (is_member c.in-Some.e) c.in-Some.ensures.steps ∙ member-head c.in-Some.e c.next.new.self))

pub group-requires-clause-tree : goal.group-requires-clause-tree
group-requires-clause-tree c =
    edge-below c.args.g.now c.args.t.now c.args.r.now c.args.v c.pred.result c.requires.block c.requires.plane.system (vertex-in c.args.g.now c.args.t.now c.requires.block c.args.k c.args.v c.requires.vertex)
    (subst (λ z. is_member z (order_at c.args.r.now c.args.v) ≡ true) (sym c.pred.ensures) (predecessor-member (order_at c.args.r.now c.args.v) c.in-Some.e
    (c.loop-e.invariant.1 c.in-Some.e (ap (is_member c.in-Some.e) c.in-Some.ensures.steps ∙ member-head c.in-Some.e c.next.new.self))))

pub loop-e-preserved-in-Continue-1 : goal.loop-e-preserved-in-Continue-1
loop-e-preserved-in-Continue-1 c =
    let l = order_at c.args.r.now c.args.v in
    let key = group c.args.t.now c.args.k in (
      runs-more key (begins_run key l) c.loop-e.keys.items c.push.new.self.items c.loop-e.round c.next.new.self _ c.in-Some.e c.group-key.result c.in-Some.ensures.steps
          (begins-yes key l c.in-Some.e (λ q. c.if-group-key.true (c.group.ensures ∙ ap key c.pred.ensures ∙ q ∙ sym c.group-key.ensures))) c.group-key.ensures c.in_ok-push.ensures.items c.loop-e.invariant.0,
      λ x m. c.loop-e.invariant.1 x (ap (is_member x) c.in-Some.ensures.steps ∙ member-tail x c.in-Some.e c.next.new.self m),
    )

pub loop-e-preserved : goal.loop-e-preserved
loop-e-preserved c =
    let l = order_at c.args.r.now c.args.v in
    let key = group c.args.t.now c.args.k in (
      runs-passed key (begins_run key l) c.loop-e.keys.items c.loop-e.round c.next.new.self _ c.in-Some.e c.in-Some.ensures.steps
          (begins-no key l c.in-Some.e (ap key (sym c.pred.ensures) ∙ sym c.group.ensures ∙ c.if-group-key.false ∙ c.group-key.ensures)) c.loop-e.invariant.0,
      λ x m. c.loop-e.invariant.1 x (ap (is_member x) c.in-Some.ensures.steps ∙ member-tail x c.in-Some.e c.next.new.self m),
    )
