use Rattle.std.proofs.Common.{ℕ, ◌+◌, ◌-◌, inl, arith}
use Rattle.multigraph.specs.Graph.{edge_count}
use Rattle.split_comp.proofs.Finished.{turns-fewer, over-turns}
use Rattle.split_comp.proofs.pass.Pass.run.Goals as goal

-- all turns are left
pub loop-init : goal.loop-init
loop-init g c =
    let k : ℕ = c.args.g.now.vertex_count + edge_count c.args.g.now - 1 in
    (inl c.requires.pass, (k, omega (arith, c.requires.numbered.large), c.requires.turns k (omega (arith, c.requires.numbered.large))), omega arith, omega arith)

-- the pass is over: all turns were taken
pub returns-then-is_over-clause-at_least : goal.returns-then-is_over-clause-at_least
returns-then-is_over-clause-at_least g c =
    let h = c.loop.invariant.1 in
    omega (arith, over-turns c.args.g.now c.args.tree.now c.loop.self c.if-is_over.ensures h.0 h.2, h.1, c.tick.ensures, c.loop.invariant.3)

-- one more turn was taken
pub loop-preserved : goal.loop-preserved
loop-preserved g c =
    let h = c.loop.invariant.1 in
    let w = turns-fewer c.args.g.now c.args.tree.now c.loop.self c.turn.new.self c.if-is_over.ensures h.0 h.2 c.in_ok-turn.ensures.going.1 in (
      c.in_ok-turn.ensures.going.0,
      (w.0, omega (arith, w.1, h.1), w.2),
      omega (arith, c.in_ok-turn.ensures.cost, c.tick.ensures, c.loop.invariant.2),
      omega (arith, c.in_ok-turn.ensures.rises, c.tick.ensures, c.loop.invariant.3),
    )

-- no more turns than are left can be taken
pub returns-clause-passed : goal.returns-clause-passed
returns-clause-passed g c = absurd (omega (arith, c.loop-test.false, c.vertex_count.ensures.value, c.edge_count.ensures.value, (c.loop.invariant.1).1))

pub returns-clause-at_least : goal.returns-clause-at_least
returns-clause-at_least g c = absurd (omega (arith, c.loop-test.false, c.vertex_count.ensures.value, c.edge_count.ensures.value, (c.loop.invariant.1).1))
