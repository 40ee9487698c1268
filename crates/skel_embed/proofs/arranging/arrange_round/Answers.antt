use Rattle.std.proofs.Common.{◌≡◌, ◌+◌, ◌<◌, ℕ, length, refl, sym, arith, subst}
use Rattle.rotations.specs.Rotation.{order_at}
use Rattle.faces.proofs.DartLemmas.{order-distinct}
use Rattle.pair_split.specs.Tutte.{group}
use Rattle.skel_embed.specs.Arranged.{directed}
use Rattle.skel_embed.specs.Steps.{BeginsRun}
use Rattle.skel_embed.proofs.ArrangeSteps.{directed-length, start-runs, start-begins, arranging-start, arranging-runs, arranging-begins, arranging-outside, arranging-more, arranging-last}
use Rattle.skel_embed.proofs.TurnSteps.{moved-system, elsewhere-twice}
use Rattle.skel_embed.proofs.arranging.arrange_round.Goals as goal

pub key_at-first-requires : goal.key_at-first-requires
key_at-first-requires c = omega (arith, c.requires.groups.two, directed-length c.args.backwards c.args.end c.args.keys.now)

pub run_with-start-requires-clause-runs : goal.run_with-start-requires-clause-runs
run_with-start-requires-clause-runs c = start-runs (group c.args.t.now c.args.k) (order_at c.args.r.now c.args.v) (directed c.args.backwards c.args.end c.args.keys.now) (order-distinct c.args.g.now c.args.r.now c.args.v c.requires.system c.requires.vertex) c.requires.groups

pub run_with-start-requires-clause-begins : goal.run_with-start-requires-clause-begins
run_with-start-requires-clause-begins c =
    let l = order_at c.args.r.now c.args.v in
    let key = group c.args.t.now c.args.k in
    subst (λ z. (first : ℕ) × BeginsRun key l z first) (sym c.key_at-first.ensures)
    (start-begins key l (directed c.args.backwards c.args.end c.args.keys.now) (order-distinct c.args.g.now c.args.r.now c.args.v c.requires.system c.requires.vertex) c.requires.groups)

pub loop-i-init : goal.loop-i-init
loop-i-init c =
    let l = order_at c.args.r.now c.args.v in
    let key = group c.args.t.now c.args.k in (
      c.requires.system,
      record { vertices = refl; others = λ w n. refl },
      arranging-start key l (directed c.args.backwards c.args.end c.args.keys.now) (order-distinct c.args.g.now c.args.r.now c.args.v c.requires.system c.requires.vertex) c.requires.groups
          c.run_with-start.result.first c.run_with-start.result.last (subst (λ z. BeginsRun key l z c.run_with-start.result.first) c.key_at-first.ensures c.run_with-start.ensures.begins) c.run_with-start.ensures.ends,
    )

pub run_with-run-requires-clause-runs : goal.run_with-run-requires-clause-runs
run_with-run-requires-clause-runs c =
    let keys = directed c.args.backwards c.args.end c.args.keys.now in
    let h : c.loop-i.i < length keys = omega (arith, c.loop-i-test.true, directed-length c.args.backwards c.args.end c.args.keys.now) in
    arranging-runs (group c.args.t.now c.args.k) (order_at c.args.r.now c.args.v) keys (order_at c.loop-i.r c.args.v) c.loop-i.i c.loop-i.last c.loop-i.invariant.2 c.requires.groups.two
    (order-distinct c.args.g.now c.loop-i.r c.args.v c.loop-i.invariant.0 c.requires.vertex) h

pub run_with-run-requires-clause-begins : goal.run_with-run-requires-clause-begins
run_with-run-requires-clause-begins c =
    let keys = directed c.args.backwards c.args.end c.args.keys.now in
    let key = group c.args.t.now c.args.k in
    let m = order_at c.loop-i.r c.args.v in
    let h : c.loop-i.i < length keys = omega (arith, c.loop-i-test.true, directed-length c.args.backwards c.args.end c.args.keys.now) in
    subst (λ z. (first : ℕ) × BeginsRun key m z first) (sym c.key_at-key.ensures)
    (arranging-begins key (order_at c.args.r.now c.args.v) keys m c.loop-i.i c.loop-i.last c.loop-i.invariant.2 c.requires.groups.two
    (order-distinct c.args.g.now c.loop-i.r c.args.v c.loop-i.invariant.0 c.requires.vertex) h)

pub move_run-requires : goal.move_run-requires
move_run-requires c =
    let keys = directed c.args.backwards c.args.end c.args.keys.now in
    let key = group c.args.t.now c.args.k in
    let m = order_at c.loop-i.r c.args.v in
    let h : c.loop-i.i < length keys = omega (arith, c.loop-i-test.true, directed-length c.args.backwards c.args.end c.args.keys.now) in
    arranging-outside key (order_at c.args.r.now c.args.v) keys m c.loop-i.i c.loop-i.last c.loop-i.invariant.2 c.requires.groups.two
    (order-distinct c.args.g.now c.loop-i.r c.args.v c.loop-i.invariant.0 c.requires.vertex) h
    c.run_with-run.result.first c.run_with-run.result.last (subst (λ z. BeginsRun key m z c.run_with-run.result.first) c.key_at-key.ensures c.run_with-run.ensures.begins) c.run_with-run.ensures.ends

pub loop-i-preserved : goal.loop-i-preserved
loop-i-preserved c =
    let keys = directed c.args.backwards c.args.end c.args.keys.now in
    let key = group c.args.t.now c.args.k in
    let m = order_at c.loop-i.r c.args.v in
    let n = order_at c.move_run.new.self c.args.v in
    let h : c.loop-i.i < length keys = omega (arith, c.loop-i-test.true, directed-length c.args.backwards c.args.end c.args.keys.now) in (
      moved-system c.args.g.now c.loop-i.r c.move_run.new.self c.args.v c.run_with-run.result.first c.run_with-run.result.last c.loop-i.last c.loop-i.invariant.0 c.requires.vertex c.move_run.ensures.moved c.move_run.ensures.elsewhere,
      elsewhere-twice c.args.r.now c.loop-i.r c.move_run.new.self c.args.v c.loop-i.invariant.1 c.move_run.ensures.elsewhere,
      arranging-more key (order_at c.args.r.now c.args.v) keys m c.loop-i.i c.loop-i.last c.loop-i.invariant.2 c.requires.groups.two
          (order-distinct c.args.g.now c.loop-i.r c.args.v c.loop-i.invariant.0 c.requires.vertex) h
          c.run_with-run.result.first c.run_with-run.result.last (subst (λ z. BeginsRun key m z c.run_with-run.result.first) c.key_at-key.ensures c.run_with-run.ensures.begins) c.run_with-run.ensures.ends
          n c.move_run.ensures.moved,
    )

pub returns-clause-arranged : goal.returns-clause-arranged
returns-clause-arranged c =
    let keys = directed c.args.backwards c.args.end c.args.keys.now in
    let m = order_at c.loop-i.r c.args.v in
    let n : length keys ≡ length c.args.keys.now = directed-length c.args.backwards c.args.end c.args.keys.now in
    let e : c.loop-i.i + 1 ≡ length keys = omega (arith, c.loop-i-test.false, c.loop-i.auto, n, c.requires.groups.two) in
    arranging-last (group c.args.t.now c.args.k) (order_at c.args.r.now c.args.v) keys m c.loop-i.i c.loop-i.last c.loop-i.invariant.2 c.requires.groups.two
    (order-distinct c.args.g.now c.loop-i.r c.args.v c.loop-i.invariant.0 c.requires.vertex) (omega (arith, e)) e
