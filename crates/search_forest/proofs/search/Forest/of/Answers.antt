use Rattle.std.proofs.Common.{◌≡◌, true, length, sym, subst, arith, ap, below_more}
use Rattle.multigraph.specs.Marks.{is_marked}
use Rattle.search_forest.specs.Forest.{ForestState, IsForest}
use Rattle.search_forest.specs.Searching.{turns_left, looks_ahead}
use Rattle.search_forest.proofs.Fresh.{fresh-forest}
use Rattle.search_forest.proofs.Start.{fresh-looks}
use Rattle.search_forest.proofs.Rounds.{whole-over, whole-counted}
use Rattle.search_forest.proofs.search.Forest.of.Goals as goal

pub loop-root-init : goal.loop-root-init
loop-root-init g c =
    let e = c.in_ok-forest.ensures {u = tt} in (
      subst (IsForest c.args.graph.now) (sym e) (fresh-forest c.args.graph.now),
      ap (λ (s : ForestState). s.path) e,
      λ u l. absurd (omega arith),
      omega arith,
      omega (arith, ap (turns_left c.args.graph.now) e),
      omega (arith, ap (looks_ahead c.args.graph.now) e, ap (λ (s : ForestState). length s.order) e),
    )

pub loop-root-preserved : goal.loop-root-preserved
loop-root-preserved g c =
    let x = c.in_ok-ensure_visited.ensures in (
      x.forest,
      x.empty,
      below_more (λ u. is_marked c.ensure_visited.new.self.visited u ≡ true) c.loop-root.root (λ u l. x.visited u (c.loop-root.invariant.2 u l)) x.root,
      omega (arith, c.loop-root.invariant.3, c.tick.ensures, x.rises),
      omega (arith, c.loop-root.invariant.4, c.tick.ensures, x.potential),
      omega (arith, c.loop-root.invariant.5, c.tick.ensures, x.counted),
    )

pub returns-in_err-ensure_visited-clause-cost : goal.returns-in_err-ensure_visited-clause-cost
returns-in_err-ensure_visited-clause-cost g c =
    omega (arith, c.ensure_visited.ensures.cost, c.loop-root.invariant.4, c.tick.ensures, fresh-looks c.args.graph.now c.vertex_count-vertices.ensures.graph, c.loop-root-test.true, c.vertex_count-vertices.ensures.value)

pub returns-clause-counted : goal.returns-clause-counted
returns-clause-counted g c =
    let i = c.loop-root.invariant in
    let at : c.loop-root.root ≡ c.args.graph.now.vertex_count = omega (arith, c.loop-root.auto.root-end, c.loop-root-test.false, c.vertex_count-vertices.ensures.value) in
    omega (
      arith,
      whole-counted c.args.graph.now c.vertex_count-vertices.ensures.graph c.loop-root.forest c.args.steps.now c.loop-root.steps (whole-over c.args.graph.now c.loop-root.forest c.loop-root.root i.0 i.1 i.2 at)
          (omega (arith, i.5, at, fresh-looks c.args.graph.now c.vertex_count-vertices.ensures.graph)),
    )

pub returns-clause-cost : goal.returns-clause-cost
returns-clause-cost g c =
    let i = c.loop-root.invariant in
    let at : c.loop-root.root ≡ c.args.graph.now.vertex_count = omega (arith, c.loop-root.auto.root-end, c.loop-root-test.false, c.vertex_count-vertices.ensures.value) in
    omega (
      arith,
      whole-counted c.args.graph.now c.vertex_count-vertices.ensures.graph c.loop-root.forest c.args.steps.now c.loop-root.steps (whole-over c.args.graph.now c.loop-root.forest c.loop-root.root i.0 i.1 i.2 at)
          (omega (arith, i.5, at, fresh-looks c.args.graph.now c.vertex_count-vertices.ensures.graph)),
    )
