use Rattle.std.proofs.Common.{sym, ◌∙◌, arith}
use Rattle.permutations.proofs.Search.{some-from}
use Rattle.multigraph.specs.Graph.{edge_count}
use Rattle.contractions.specs.Contraction.{is_private}
use Rattle.contractions.proofs.level.has_private.Goals as goal

pub returns-then-is_private : goal.returns-then-is_private
returns-then-is_private c = sym (some-from (edge_count c.args.g.now) (is_private c.args.g.now c.args.e c.args.x c.args.y) c.loop-edge.edge (omega (arith, c.loop-edge-test.true, c.edge_count-edge-end.ensures.value))
    (sym c.is_private.ensures ∙ c.if-is_private.true))
