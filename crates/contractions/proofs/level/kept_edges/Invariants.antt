use Rattle.std.proofs.Common.{◌≡◌, filter}
use Rattle.multigraph.specs.Graph.{numbers_below}
use Rattle.contractions.specs.Contraction.{is_kept}
use Rattle.contractions.proofs.level.kept_edges.Given as goal

abbrev pub invariant-loop-edge : goal.invariant-loop-edge
invariant-loop-edge l = l.kept.items ≡ filter (is_kept l.g l.e l.x l.y) (numbers_below l.edge)
