-- None of the edges so far leads there.
use Rattle.std.proofs.Common.{ℕ, ◌<◌, slice_index}
use Rattle.multigraph.specs.Graph.{incident_edges}
use Rattle.path_rotation.specs.Settling.{IsTouched}
use Rattle.path_rotation.proofs.settling.is_touched.Given as goal

abbrev pub invariant-loop-edge : goal.invariant-loop-edge
invariant-loop-edge l = (i : ℕ) → i < l.edge-index → IsTouched l.fn.g l.fn.on l.fn.labels l.fn.root l.fn.z (slice_index (incident_edges l.fn.g l.fn.z) i) → ⊥
