use Rattle.std.proofs.Common.{◌≡◌, ◌++◌, map, slice_index, drop}
use Rattle.spqr_script.specs.Text.{spaced_numbers}
use Rattle.spqr_script.proofs.outer.push_edges.Given as goal

abbrev pub invariant-loop-e : goal.invariant-loop-e
invariant-loop-e l =
    l.out.items ++ spaced_numbers (map (slice_index l.part.edges) (drop l.e-index l.edges)) ≡ l.initial.out.items ++ spaced_numbers (map (slice_index l.part.edges) l.edges)
