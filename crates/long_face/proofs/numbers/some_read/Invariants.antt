use Rattle.std.proofs.Common.{◌≡◌, ℕ, ◌<◌, ◌⊎◌}
use Rattle.pair_split.specs.Tutte.{node_at}
use Rattle.pair_split.specs.declared.components.Kind.TheVariants.{S, P}
use Rattle.long_face.proofs.numbers.some_read.Given as goal

abbrev pub invariant-loop-k : goal.invariant-loop-k
invariant-loop-k l = (j : ℕ) → j < l.k → ((node_at l.tree j).kind ≡ S) ⊎ ((node_at l.tree j).kind ≡ P)
