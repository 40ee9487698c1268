use Rattle.std.proofs.Common.{◌<◌, ◌∙◌, sym, arith}
use Rattle.graph_tests.proofs.Triangulated.{one-connected}
use Rattle.graph_tests.proofs.drawn.outcome_of.Goals as goal

pub draw-requires-clause-connected : goal.draw-requires-clause-connected
draw-requires-clause-connected c =
    let some : 0 < c.in_ok-g.g.vertex_count = omega (arith, c.in_ok-numbers.ensures.vertices, c.if-numbers-lt2.false) in
    one-connected c.in_ok-g.g some (sym c.in_ok-numbers.ensures.components ∙ c.if-numbers-ne1.false)
