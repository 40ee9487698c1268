use Rattle.std.proofs.Common.{ℕ, ◌<◌}
use Rattle.path_embed.specs.Planar.{IsPlanarNode}
use Rattle.path_embed.proofs.deciding.nonplanar_node.Given as goal

abbrev pub invariant-loop-k : goal.invariant-loop-k
invariant-loop-k l = (j : ℕ) → j < l.k → IsPlanarNode l.tree j
