use Rattle.std.proofs.Common.{◌≡◌, length, slice_index}
use Rattle.multigraph.specs.Graph.{incident_edges, other_end}
use Rattle.graph_paths.specs.Search.{LeadsFrom}
use Rattle.graph_paths.proofs.Loops.{Listed}
use Rattle.graph_paths.proofs.search.visit.Given as goal

abbrev pub invariant-loop-edge : goal.invariant-loop-edge
invariant-loop-edge l = Listed (λ y e. LeadsFrom l.fn.g l.fn.x y e) (λ i h. other_end l.fn.g (slice_index (incident_edges l.fn.g l.fn.x) i) l.fn.x ≡ h) l.edge-index (length l.initial.marks) l.initial.notes l.initial.list.items l.marks l.notes l.list.items
