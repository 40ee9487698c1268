use Rattle.std.proofs.Common.{◌≡◌, ◌≢◌, true, refl, sym, ap, ◌∙◌, arith, subst}
use Rattle.permutations.specs.Cyclic.{successor}
use Rattle.permutations.specs.Members.{is_member}
use Rattle.permutations.proofs.Successor.{successor-member}
use Rattle.rotations.specs.Rotation.{order_at, IsRotationSystem}
use Rattle.rotations.specs.Runs.{IsOutside, IsRunMoved}
use Rattle.faces.proofs.DartLemmas.{order-distinct}
use Rattle.pair_split.specs.Tutte.{group}
use Rattle.skel_embed.specs.Steps.{EndsRun}
use Rattle.skel_embed.proofs.RunSteps.{edge-below, order-length, some-last, two-filled, last-key, run-last_in}
use Rattle.skel_embed.proofs.TurnSteps.{turning-start, turning-short, turning-two, back-in, turning-done, turning-outside, turning-on, turning-next, moved-system, elsewhere-twice}
use Rattle.skel_embed.proofs.turning.turn_round.Goals as goal

pub last_of_most-first-requires-clause-some : goal.last_of_most-first-requires-clause-some
last_of_most-first-requires-clause-some c = two-filled (group c.args.t.now c.args.k) (order_at c.args.r.now c.args.v) c.requires.runs

pub group-key-requires-clause-tree : goal.group-key-requires-clause-tree
group-key-requires-clause-tree c = edge-below c.args.g.now c.args.t.now c.args.r.now c.args.v c.last_of_most-first.result c.requires.block c.requires.system c.requires.vertex
    c.last_of_most-first.ensures

pub run_end-front-requires-clause-ends : goal.run_end-front-requires-clause-ends
run_end-front-requires-clause-ends c = some-last (group c.args.t.now c.args.k) (order_at c.args.r.now c.args.v) c.last_of_most-first.result c.requires.runs
    c.last_of_most-first.ensures

pub run_end-ahead-requires-clause-ends : goal.run_end-ahead-requires-clause-ends
run_end-ahead-requires-clause-ends c =
    let l = order_at c.args.r.now c.args.v in
    some-last (group c.args.t.now c.args.k) l c.run_end-front.result.next c.requires.runs (subst (λ z. is_member z l ≡ true) (sym c.run_end-front.ensures.next)
    (successor-member l c.run_end-front.result.last (run-last_in (group c.args.t.now c.args.k) l c.last_of_most-first.result c.run_end-front.result.last c.run_end-front.ensures.ends)))

pub loop-turn-init : goal.loop-turn-init
loop-turn-init c =
    let l = order_at c.args.r.now c.args.v in
    let key = group c.args.t.now c.args.k in (
      c.requires.system,
      record { vertices = refl; others = λ w n. refl },
      c.run_end-ahead.ensures.key,
      record {
        back = c.run_end-ahead.result.last;
        turning = turning-start key l c.last_of_most-first.result c.run_end-front.result.last c.run_end-ahead.result.last (order-distinct c.args.g.now c.args.r.now c.args.v c.requires.system c.requires.vertex) c.requires.runs
            c.last_of_most-first.ensures
            c.run_end-front.ensures.ends
            (subst (λ z. EndsRun key l z c.run_end-ahead.result.last) c.run_end-front.ensures.next c.run_end-ahead.ensures.ends);
        is = c.run_end-ahead.ensures.next;
      },
    )

pub returns-then-ahead-key-clause-turned : goal.returns-then-ahead-key-clause-turned
returns-then-ahead-key-clause-turned c =
    let l = order_at c.args.r.now c.args.v in
    let m = order_at c.loop-turn.r c.args.v in
    let key = group c.args.t.now c.args.k in
    let w = c.loop-turn.invariant.3 in
    turning-done key l m c.run_end-front.result.last w.back c.loop-turn._turn w.turning (order-distinct c.args.g.now c.loop-turn.r c.args.v c.loop-turn.invariant.0 c.requires.vertex)
    (ap key (sym w.is) ∙ sym c.loop-turn.invariant.2 ∙ c.if-ahead-key.true ∙ c.group-key.ensures ∙ sym (last-key key l c.last_of_most-first.result c.run_end-front.result.last c.run_end-front.ensures.ends))

pub run_end-run-requires-clause-ends : goal.run_end-run-requires-clause-ends
run_end-run-requires-clause-ends c =
    let l = order_at c.args.r.now c.args.v in
    let m = order_at c.loop-turn.r c.args.v in
    let key = group c.args.t.now c.args.k in
    let w = c.loop-turn.invariant.3 in
    some-last key m c.loop-turn.ahead.next (turning-two key l m c.run_end-front.result.last w.back c.loop-turn._turn w.turning)
    (subst (λ z. is_member z m ≡ true) (sym w.is) (successor-member m w.back (back-in key l m c.run_end-front.result.last w.back c.loop-turn._turn w.turning)))

pub move_run-requires : goal.move_run-requires
move_run-requires c =
    let l = order_at c.args.r.now c.args.v in
    let m = order_at c.loop-turn.r c.args.v in
    let key = group c.args.t.now c.args.k in
    let w = c.loop-turn.invariant.3 in
    let other : key (successor m w.back) ≢ key c.run_end-front.result.last = λ q. c.if-ahead-key.false
    (c.loop-turn.invariant.2 ∙ ap key w.is ∙ q ∙ last-key key l c.last_of_most-first.result c.run_end-front.result.last c.run_end-front.ensures.ends ∙ sym c.group-key.ensures) in
    subst (λ z. IsOutside m z c.run_end-run.result.last c.run_end-front.result.last) (sym w.is)
    (turning-outside key l m c.run_end-front.result.last w.back c.loop-turn._turn w.turning (order-distinct c.args.g.now c.loop-turn.r c.args.v c.loop-turn.invariant.0 c.requires.vertex) c.run_end-run.result.last other
    (subst (λ z. EndsRun key m z c.run_end-run.result.last) w.is c.run_end-run.ensures.ends))

pub loop-turn-preserved : goal.loop-turn-preserved
loop-turn-preserved c =
    let l = order_at c.args.r.now c.args.v in
    let m = order_at c.loop-turn.r c.args.v in
    let n = order_at c.move_run.new.self c.args.v in
    let key = group c.args.t.now c.args.k in
    let w = c.loop-turn.invariant.3 in
    let d = order-distinct c.args.g.now c.loop-turn.r c.args.v c.loop-turn.invariant.0 c.requires.vertex in
    let system : IsRotationSystem c.args.g.now c.move_run.new.self =
    moved-system c.args.g.now c.loop-turn.r c.move_run.new.self c.args.v c.loop-turn.ahead.next c.run_end-run.result.last c.run_end-front.result.last c.loop-turn.invariant.0 c.requires.vertex c.move_run.ensures.moved c.move_run.ensures.elsewhere in
    let other : key (successor m w.back) ≢ key c.run_end-front.result.last = λ q. c.if-ahead-key.false
    (c.loop-turn.invariant.2 ∙ ap key w.is ∙ q ∙ last-key key l c.last_of_most-first.result c.run_end-front.result.last c.run_end-front.ensures.ends ∙ sym c.group-key.ensures) in
    let ends = subst (λ z. EndsRun key m z c.run_end-run.result.last) w.is c.run_end-run.ensures.ends in
    let moved = subst (λ z. IsRunMoved m n z c.run_end-run.result.last c.run_end-front.result.last) w.is c.move_run.ensures.moved in (
      system,
      elsewhere-twice c.args.r.now c.loop-turn.r c.move_run.new.self c.args.v c.loop-turn.invariant.1 c.move_run.ensures.elsewhere,
      c.run_end-run.ensures.key,
      record {
        back = w.back;
        turning = turning-on key l m c.run_end-front.result.last w.back c.loop-turn._turn w.turning d c.run_end-run.result.last other ends n moved;
        is = c.run_end-run.ensures.next ∙ sym (turning-next key l m c.run_end-front.result.last w.back c.loop-turn._turn w.turning d c.run_end-run.result.last other ends n (order-distinct c.args.g.now c.move_run.new.self c.args.v system c.requires.vertex) moved);
      },
    )

pub returns-clause-turned : goal.returns-clause-turned
returns-clause-turned c = absurd (omega (
  arith,
  c.loop-turn-test.false,
  c.degree-turn-end.ensures,
  order-length c.args.g.now c.loop-turn.r c.args.v c.loop-turn.invariant.0 c.requires.vertex,
  turning-short (group c.args.t.now c.args.k) (order_at c.args.r.now c.args.v) (order_at c.loop-turn.r c.args.v) c.run_end-front.result.last c.loop-turn.invariant.3.back c.loop-turn._turn c.loop-turn.invariant.3.turning,
))
