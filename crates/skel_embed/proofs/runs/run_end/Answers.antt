use Rattle.std.proofs.Common.{◌≡◌, true, ◌+◌, sym, ap, ◌∙◌, arith, subst}
use Rattle.faces.proofs.DartLemmas.{order-distinct}
use Rattle.rotations.specs.Rotation.{order_at}
use Rattle.permutations.specs.Members.{is_member}
use Rattle.permutations.proofs.Successor.{successor-member}
use Rattle.permutations.proofs.Arrangements.{contains-from_member}
use Rattle.pair_split.specs.Tutte.{group}
use Rattle.skel_embed.proofs.RunSteps.{IsWalking, walk-start, walk-in, walk-stop, walk-on, walk-short, edge-below, order-length}
use Rattle.skel_embed.proofs.runs.run_end.Goals as goal

pub loop-step-init : goal.loop-step-init
loop-step-init c = walk-start (group c.args.t.now c.args.k) (order_at c.args.r.now c.args.v) c.args.e c.requires.ends.0 c.requires.ends.1

pub succ-next-requires : goal.succ-next-requires
succ-next-requires c =
    let l = order_at c.args.r.now c.args.v in
    contains-from_member l c.loop-step.at (walk-in (group c.args.t.now c.args.k) l c.args.e c.loop-step.at c.loop-step._step (order-distinct c.args.g.now c.args.r.now c.args.v c.requires.system c.requires.vertex) c.loop-step.invariant)

pub group-next_key-requires-clause-tree : goal.group-next_key-requires-clause-tree
group-next_key-requires-clause-tree c =
    let l = order_at c.args.r.now c.args.v in
    let m = walk-in (group c.args.t.now c.args.k) l c.args.e c.loop-step.at c.loop-step._step (order-distinct c.args.g.now c.args.r.now c.args.v c.requires.system c.requires.vertex) c.loop-step.invariant in
    edge-below c.args.g.now c.args.t.now c.args.r.now c.args.v c.succ-next.result c.requires.block c.requires.system c.requires.vertex
    (subst (λ z. is_member z l ≡ true) (sym c.succ-next.ensures) (successor-member l c.loop-step.at m))

pub returns-then-next_key-key-clause-ends : goal.returns-then-next_key-key-clause-ends
returns-then-next_key-key-clause-ends c =
    let l = order_at c.args.r.now c.args.v in
    walk-stop (group c.args.t.now c.args.k) l c.args.e c.loop-step.at c.loop-step._step (order-distinct c.args.g.now c.args.r.now c.args.v c.requires.system c.requires.vertex) c.loop-step.invariant
    (λ q. c.if-next_key-key.true (c.group-next_key.ensures ∙ ap (group c.args.t.now c.args.k) c.succ-next.ensures ∙ q ∙ sym c.requires.key))

pub loop-step-preserved : goal.loop-step-preserved
loop-step-preserved c =
    let l = order_at c.args.r.now c.args.v in
    let key = group c.args.t.now c.args.k in
    subst (λ z. IsWalking key l c.args.e z (c.loop-step._step + 1)) (sym c.succ-next.ensures)
    (walk-on key l c.args.e c.loop-step.at c.loop-step._step (order-distinct c.args.g.now c.args.r.now c.args.v c.requires.system c.requires.vertex) c.loop-step.invariant
    (ap key (sym c.succ-next.ensures) ∙ sym c.group-next_key.ensures ∙ c.if-next_key-key.false ∙ c.requires.key))

pub unreachable-requires : goal.unreachable-requires
unreachable-requires c =
    let l = order_at c.args.r.now c.args.v in
    let short = walk-short (group c.args.t.now c.args.k) l c.args.e c.loop-step.at c.loop-step._step (order-distinct c.args.g.now c.args.r.now c.args.v c.requires.system c.requires.vertex) c.loop-step.invariant in
    absurd (omega (arith, short, c.loop-step-test.false, c.degree-step-end.ensures, order-length c.args.g.now c.args.r.now c.args.v c.requires.system c.requires.vertex))
