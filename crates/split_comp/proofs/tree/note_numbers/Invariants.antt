use Rattle.std.proofs.Common.{◌≡◌, ◌+◌, ◌<◌, ℕ, slice_index}
use Rattle.palm_tree.specs.PalmTree.{number_of}
use Rattle.split_comp.proofs.tree.note_numbers.Given as goal

abbrev pub invariant-loop-v : goal.invariant-loop-v
invariant-loop-v g l = ((u : ℕ) → u < l.v → slice_index l.vertex (number_of l.palm u) ≡ u) × (l.steps ≡ l.initial.steps + l.v)
