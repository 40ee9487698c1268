use Rattle.std.proofs.Common.{◌≡◌, not, ◌==◌, filter}
use Rattle.multigraph.specs.Graph.{numbers_below}
use Rattle.path_embed.proofs.edges_left.others_than.Given as goal

abbrev pub invariant-loop-e : goal.invariant-loop-e
invariant-loop-e l = l.edges.items ≡ filter (λ f. not (f == l.fn.edge)) (numbers_below l.e)
