use Rattle.std.proofs.Common.{ℕ, not, List, [], ◌∷◌, ◌++◌, map, sym, ap, ◌∙◌, arith, append_assoc, append-nil}
use Rattle.std.proofs.lemmas.Bool.{false≢true}
use Rattle.multigraph.specs.Graph.{other_end}
use Rattle.multigraph.proofs.OtherEnd.{other_end-in}
use Rattle.plane_points.specs.Turning.{comes_before, falls_around}
use Rattle.plane_points.proofs.Falls.{steps}
use Rattle.grid_drawing.specs.Drawing.{point_at, points_around}
use Rattle.grid_drawing.proofs.Around.{first-edge, later-edge, falls-more, one-more, still, now-one, falls-told, none-fell, one-fell}
use Rattle.grid_drawing.proofs.checking.goes_around.Goals as goal

pub other_end-requires-clause-edge : goal.other_end-requires-clause-edge
other_end-requires-clause-edge c = (first-edge c.args.g.now c.args.r.now c.args.v c.in-Some.edge c.next.new.self c.requires.system c.requires.vertex (sym c.list-edges.ensures ∙ c.in-Some.ensures.steps)).0

pub other_end-requires-clause-end : goal.other_end-requires-clause-end
other_end-requires-clause-end c = (first-edge c.args.g.now c.args.r.now c.args.v c.in-Some.edge c.next.new.self c.requires.system c.requires.vertex (sym c.list-edges.ensures ∙ c.in-Some.ensures.steps)).1

pub bounds-points-other_end : goal.bounds-points-other_end
bounds-points-other_end c = omega (
  arith,
  c.requires.each,
  c.other_end.ensures,
  other_end-in c.args.g.now c.in-Some.edge c.args.v c.requires.graph
      (first-edge c.args.g.now c.args.r.now c.args.v c.in-Some.edge c.next.new.self c.requires.system c.requires.vertex (sym c.list-edges.ensures ∙ c.in-Some.ensures.steps)).0,
)

pub other_end-requires-in-loop-e-clause-edge : goal.other_end-requires-in-loop-e-clause-edge
other_end-requires-in-loop-e-clause-edge c = (later-edge c.args.g.now c.args.r.now c.args.v c.in-Some.edge c.in-Some-e.e c.loop-e.yielded c.next-in-loop-e.new.self c.next.new.self c.requires.system c.requires.vertex
    (sym c.list-edges.ensures ∙ c.in-Some.ensures.steps) (ap (λ (t : List ℕ). c.loop-e.yielded ++ t) (sym c.in-Some-e.ensures.steps) ∙ (c.loop-e.invariant.0 ∙ c.into_iter-e-iterator.ensures.into_iter_gives))).0

pub other_end-requires-in-loop-e-clause-end : goal.other_end-requires-in-loop-e-clause-end
other_end-requires-in-loop-e-clause-end c = (later-edge c.args.g.now c.args.r.now c.args.v c.in-Some.edge c.in-Some-e.e c.loop-e.yielded c.next-in-loop-e.new.self c.next.new.self c.requires.system c.requires.vertex
    (sym c.list-edges.ensures ∙ c.in-Some.ensures.steps) (ap (λ (t : List ℕ). c.loop-e.yielded ++ t) (sym c.in-Some-e.ensures.steps) ∙ (c.loop-e.invariant.0 ∙ c.into_iter-e-iterator.ensures.into_iter_gives))).1

pub bounds-points-other_end-in-loop-e : goal.bounds-points-other_end-in-loop-e
bounds-points-other_end-in-loop-e c = omega (
  arith,
  c.requires.each,
  c.other_end-in-loop-e.ensures,
  other_end-in c.args.g.now c.in-Some-e.e c.args.v c.requires.graph
      (later-edge c.args.g.now c.args.r.now c.args.v c.in-Some.edge c.in-Some-e.e c.loop-e.yielded c.next-in-loop-e.new.self c.next.new.self c.requires.system c.requires.vertex
      (sym c.list-edges.ensures ∙ c.in-Some.ensures.steps) (ap (λ (t : List ℕ). c.loop-e.yielded ++ t) (sym c.in-Some-e.ensures.steps) ∙ (c.loop-e.invariant.0 ∙ c.into_iter-e-iterator.ensures.into_iter_gives))).0,
)

pub returns-then-fell : goal.returns-then-fell
returns-then-fell c = (
  (λ h. absurd (false≢true h)),
  (λ l. absurd (falls-more c.args.g.now c.args.r.now c.args.points.now c.args.v c.in-Some.edge
      (point_at c.args.points.now c.other_end.result) c.loop-e.before (point_at c.args.points.now c.other_end-in-loop-e.result) c.next.new.self c.loop-e.yielded c.in-Some-e.e c.next-in-loop-e.new.self c.loop-e.fell c.comes_before.result
      (sym c.list-edges.ensures ∙ c.in-Some.ensures.steps) (ap (λ (t : List ℕ). c.loop-e.yielded ++ t) (sym c.in-Some-e.ensures.steps) ∙ (c.loop-e.invariant.0 ∙ c.into_iter-e-iterator.ensures.into_iter_gives))
      (ap (point_at c.args.points.now) c.other_end.ensures) (ap (point_at c.args.points.now) c.other_end-in-loop-e.ensures) c.loop-e.invariant.1 c.loop-e.invariant.2 c.comes_before.ensures c.if-fell.true c.if-not-comes_before.true l)),
)

pub loop-e-preserved-else-fell : goal.loop-e-preserved-else-fell
loop-e-preserved-else-fell c =
    let f : ℕ → ℕ × ℕ = (λ e. point_at c.args.points.now (other_end c.args.g.now e c.args.v)) in
    let p : ℕ × ℕ = point_at c.args.points.now c.other_end.result in
    let m = one-more (point_at c.args.points.now c.args.v) p c.loop-e.before (point_at c.args.points.now c.other_end-in-loop-e.result) f c.loop-e.yielded c.in-Some-e.e c.comes_before.result c.loop-e.invariant.2 (ap (point_at c.args.points.now) c.other_end-in-loop-e.ensures) c.comes_before.ensures in (
      append_assoc c.loop-e.yielded (c.in-Some-e.e ∷ []) c.next-in-loop-e.new.self ∙ (ap (λ (t : List ℕ). c.loop-e.yielded ++ t) (sym c.in-Some-e.ensures.steps) ∙ c.loop-e.invariant.0),
      now-one (steps (point_at c.args.points.now c.args.v) p (map f c.loop-e.yielded)) (steps (point_at c.args.points.now c.args.v) p (map f (c.loop-e.yielded ++ c.in-Some-e.e ∷ []))) c.loop-e.fell c.comes_before.result c.loop-e.invariant.1 c.if-fell.false c.if-not-comes_before.true m.0,
      m.1,
    )

pub loop-e-preserved : goal.loop-e-preserved
loop-e-preserved c =
    let f : ℕ → ℕ × ℕ = (λ e. point_at c.args.points.now (other_end c.args.g.now e c.args.v)) in
    let p : ℕ × ℕ = point_at c.args.points.now c.other_end.result in
    let m = one-more (point_at c.args.points.now c.args.v) p c.loop-e.before (point_at c.args.points.now c.other_end-in-loop-e.result) f c.loop-e.yielded c.in-Some-e.e c.comes_before.result c.loop-e.invariant.2 (ap (point_at c.args.points.now) c.other_end-in-loop-e.ensures) c.comes_before.ensures in (
      append_assoc c.loop-e.yielded (c.in-Some-e.e ∷ []) c.next-in-loop-e.new.self ∙ (ap (λ (t : List ℕ). c.loop-e.yielded ++ t) (sym c.in-Some-e.ensures.steps) ∙ c.loop-e.invariant.0),
      still (steps (point_at c.args.points.now c.args.v) p (map f c.loop-e.yielded)) (steps (point_at c.args.points.now c.args.v) p (map f (c.loop-e.yielded ++ c.in-Some-e.e ∷ []))) c.loop-e.fell c.comes_before.result c.loop-e.invariant.1 c.if-not-comes_before.false m.0,
      m.1,
    )

pub returns-then-not-fell : goal.returns-then-not-fell
returns-then-not-fell c = (
  (λ _. none-fell (falls_around (point_at c.args.points.now c.args.v) (points_around c.args.g.now c.args.r.now c.args.points.now c.args.v)) c.loop-e.fell
      (comes_before (point_at c.args.points.now c.args.v) c.loop-e.before (point_at c.args.points.now c.other_end.result)) c.if-not-fell.true
      (falls-told c.args.g.now c.args.r.now c.args.points.now c.args.v c.in-Some.edge (point_at c.args.points.now c.other_end.result) c.loop-e.before c.next.new.self c.loop-e.yielded c.loop-e.fell (sym c.list-edges.ensures ∙ c.in-Some.ensures.steps)
      (sym (append-nil c.loop-e.yielded) ∙ (ap (λ (t : List ℕ). c.loop-e.yielded ++ t) (sym c.in-None.ensures.steps.0) ∙ (c.loop-e.invariant.0 ∙ c.into_iter-e-iterator.ensures.into_iter_gives)))
      (ap (point_at c.args.points.now) c.other_end.ensures) c.loop-e.invariant.1 c.loop-e.invariant.2)),
  (λ _. ap not c.if-not-fell.true),
)

pub returns-else-not-fell : goal.returns-else-not-fell
returns-else-not-fell c = one-fell (falls_around (point_at c.args.points.now c.args.v) (points_around c.args.g.now c.args.r.now c.args.points.now c.args.v)) c.loop-e.fell
    (comes_before (point_at c.args.points.now c.args.v) c.loop-e.before (point_at c.args.points.now c.other_end.result)) c.comes_before-else-not-fell.result c.if-not-fell.false c.comes_before-else-not-fell.ensures
    (falls-told c.args.g.now c.args.r.now c.args.points.now c.args.v c.in-Some.edge (point_at c.args.points.now c.other_end.result) c.loop-e.before c.next.new.self c.loop-e.yielded c.loop-e.fell (sym c.list-edges.ensures ∙ c.in-Some.ensures.steps)
    (sym (append-nil c.loop-e.yielded) ∙ (ap (λ (t : List ℕ). c.loop-e.yielded ++ t) (sym c.in-None.ensures.steps.0) ∙ (c.loop-e.invariant.0 ∙ c.into_iter-e-iterator.ensures.into_iter_gives)))
    (ap (point_at c.args.points.now) c.other_end.ensures) c.loop-e.invariant.1 c.loop-e.invariant.2)
