use Rattle.std.proofs.Common.{◌≡◌, filter}
use Rattle.multigraph.specs.Graph.{incident_edges, numbers_below}
use Rattle.blocks.specs.Cuts.{meets_two}
use Rattle.blocks.proofs.cuts.cut_vertices.Given as goal

abbrev pub invariant-loop-vertex : goal.invariant-loop-vertex
invariant-loop-vertex l = l.cut.items ≡ filter (λ v. meets_two l.numbers (incident_edges l.graph v)) (numbers_below l.vertex)
