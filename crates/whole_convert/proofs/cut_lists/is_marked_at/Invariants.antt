use Rattle.std.proofs.Common.{◌≡◌, false, take, slice_index}
use Rattle.std.specs.List.{list_any}
use Rattle.multigraph.specs.Graph.{incident_edges}
use Rattle.whole_convert.specs.Led.{is_marked}
use Rattle.whole_convert.proofs.cut_lists.is_marked_at.Given as goal

abbrev pub invariant-loop-edge : goal.invariant-loop-edge
invariant-loop-edge l = list_any (λ x. is_marked l.marks (slice_index l.frame.edge_blocks x)) (take l.edge-index (incident_edges l.frame.part.graph l.i)) ≡ false
