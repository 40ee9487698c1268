use Rattle.std.proofs.Common.{◌≡◌, ◌++◌, map, slice_index, drop}
use Rattle.spqr_script.specs.Text.{spaced_numbers}
use Rattle.spqr_script.proofs.outer.push_vertices.Given as goal

abbrev pub invariant-loop-v : goal.invariant-loop-v
invariant-loop-v l =
    l.out.items ++ spaced_numbers (map (slice_index l.part.vertices) (drop l.v-index l.vertices)) ≡ l.initial.out.items ++ spaced_numbers (map (slice_index l.part.vertices) l.vertices)
