use Rattle.std.proofs.Common.{ℕ, ◌<◌}
use Rattle.minimal_graphs.specs.Laws.{IsPlaneWithout}
use Rattle.path_embed.proofs.edges_left.smaller_obstacle.Given as goal

abbrev pub invariant-loop-e : goal.invariant-loop-e
invariant-loop-e l = (f : ℕ) → f < l.e → IsPlaneWithout l.g f
