use Rattle.std.proofs.Common.{◌≡◌, ℕ, ◌+◌, ◌*◌, ◌≤◌}
use Rattle.multigraph.specs.Graph.{edge_count}
use Rattle.split_comp.specs.Pass.{IsGoing, HasTurns, weight}
use Rattle.split_comp.proofs.pass.Pass.run.Given as goal

abbrev pub invariant-loop : goal.invariant-loop
invariant-loop g l = IsGoing l.g l.tree l.self × ((k : ℕ) × (k + l.counter + 1 ≡ l.g.vertex_count + edge_count l.g) × HasTurns l.g l.tree l.self k) × (l.steps + weight l.self ≤ l.initial.steps + weight l.initial.self + 19 * l.counter) × (l.initial.steps + l.counter ≤ l.steps)
