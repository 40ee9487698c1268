use Rattle.std.proofs.Common.{◌<◌, ℕ, length}
use Rattle.multigraph.specs.Graph.{incident_edges}
use Rattle.blocks.proofs.one_block.has_lone_vertex.Given as goal

abbrev pub invariant-loop-v : goal.invariant-loop-v
invariant-loop-v l = (v : ℕ) → v < l.v → 0 < length (incident_edges l.g v)
