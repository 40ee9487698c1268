use Rattle.std.proofs.Common.{◌≢◌, ℕ, ◌<◌}
use Rattle.pair_split.specs.Tutte.{node_item}
use Rattle.pair_split.specs.declared.components.What.TheVariants.{Link}
use Rattle.face_weights.proofs.weighing.rest_at_parent.Given as goal

abbrev pub invariant-loop-h : goal.invariant-loop-h
invariant-loop-h l = (j : ℕ) → j < l.h → (node_item l.tree l.k j).what ≢ Link l.parent
